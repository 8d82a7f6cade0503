use Rattle.std.proofs.Common.{sym}
use Rattle.ss_between.specs.Between.{own_tail_left}
use Rattle.ss_report.proofs.of_reports.IdleSessions.{none_more, some_left}
use Rattle.ss_report.proofs.lines.idle.has_no_tail_left.Goals as goal

pub returns-then-is_some : goal.returns-then-is_some
returns-then-is_some c =
    sym (some_left (own_tail_left c.args.first.now c.args.session.now) c.args.tails.now c.loop-tail.tail-index _ c.loop-tail-test.true (rw (c.is_some.ensures, c.tail_left.ensures, c.number-number.ensures) at c.if-is_some.true))

pub loop-tail-preserved : goal.loop-tail-preserved
loop-tail-preserved c =
    none_more (own_tail_left c.args.first.now c.args.session.now) c.args.tails.now c.loop-tail.tail-index _ c.loop-tail-test.true c.loop-tail.invariant (rw (c.is_some.ensures, c.tail_left.ensures, c.number-number.ensures) at c.if-is_some.false)
