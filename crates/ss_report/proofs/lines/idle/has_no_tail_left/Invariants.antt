use Rattle.std.proofs.Common.{◌≡◌, [], take, filter_map}
use Rattle.ss_between.specs.Between.{own_tail_left}
use Rattle.ss_report.proofs.lines.idle.has_no_tail_left.Given as goal

abbrev pub invariant-loop-tail : goal.invariant-loop-tail
invariant-loop-tail l = filter_map (own_tail_left l.first l.session) (take l.tail-index l.tails) ≡ []
