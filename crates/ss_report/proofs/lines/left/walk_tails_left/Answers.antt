use Rattle.ss_report.specs.lines.Between.{tail_from}
use Rattle.ss_report.specs.lines.Whole.{tail_line}
use Rattle.ss_report.proofs.of_writing.LinesTaken.{left_more}
use Rattle.ss_report.proofs.lines.left.walk_tails_left.Goals as goal

pub loop-tail-preserved : goal.loop-tail-preserved
loop-tail-preserved g c =
    left_more (g.V.LineVisitor.takes c.args.visitor.now) (tail_line c.args.session.now) (tail_from c.args.first.now c.args.session.now) c.args.tails.now c.loop-tail.tail-index _ _ _ _ c.loop-tail-test.true c.loop-tail.invariant (rw c.number_from-number.ensures at c.walk_tail_left.ensures)
