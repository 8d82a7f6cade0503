use Rattle.std.proofs.Common.{take, flat_map}
use Rattle.ss_report.specs.lines.Taken.{TakesAll}
use Rattle.ss_report.specs.lines.Between.{lines_of_absent}
use Rattle.ss_report.proofs.lines.walk.walk_absent.Given as goal

abbrev pub invariant-loop-short : goal.invariant-loop-short
invariant-loop-short g l = TakesAll (g.V.LineVisitor.takes l.visitor) l.initial.into l.into (flat_map (lines_of_absent l.first) (take l.short-index l.absent))
