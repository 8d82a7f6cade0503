use Rattle.std.proofs.Common.{take, map}
use Rattle.ss_report.specs.lines.Taken.{TakesAll}
use Rattle.ss_report.specs.lines.Lines.{spoilt_place_line}
use Rattle.ss_report.proofs.lines.others.walk_spoilts.Given as goal

abbrev pub invariant-loop-spoilt : goal.invariant-loop-spoilt
invariant-loop-spoilt g l = TakesAll (g.V.LineVisitor.takes l.visitor) l.initial.into l.into (map spoilt_place_line (take l.spoilt-index l.spoilts))
