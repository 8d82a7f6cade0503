use Rattle.std.proofs.Common.{take, filter, flat_map}
use Rattle.ss_review.specs.counted.Counted.{number_announced}
use Rattle.ss_report.specs.lines.Between.{GoesOn, is_outside, outside_line}
use Rattle.ss_report.proofs.lines.outside.walk_outside.Given as goal

abbrev pub invariant-loop-entry : goal.invariant-loop-entry
invariant-loop-entry g l =
    GoesOn (g.V.LineVisitor.takes l.visitor) (outside_line l.outside.side l.outside.session.now) l.outside.group l.initial.into l.into l.initial.run l.run
    (filter (is_outside l.outside.side l.outside.counter) (flat_map number_announced (take l.entry-index l.entries)))
