use Rattle.std.proofs.Common.{take, map}
use Rattle.ss_report.specs.lines.Taken.{TakesAll}
use Rattle.ss_report.specs.lines.Lines.{RefusedLine}
use Rattle.ss_report.proofs.lines.others.walk_refused.Given as goal

abbrev pub invariant-loop-place : goal.invariant-loop-place
invariant-loop-place g l = TakesAll (g.V.LineVisitor.takes l.visitor) l.initial.into l.into (map RefusedLine (take l.place-index l.places))
