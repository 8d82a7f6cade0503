-- The lines of the first suspects.
use Rattle.std.proofs.Common.{take, map}
use Rattle.ss_report.specs.lines.Front.{suspect_line}
use Rattle.ss_report.specs.lines.Taken.{TakesAll}
use Rattle.ss_report.proofs.lines.front.walk_suspects.Given as goal

abbrev pub invariant-loop-suspect : goal.invariant-loop-suspect
invariant-loop-suspect g l = TakesAll (g.V.LineVisitor.takes l.visitor) l.initial.into l.into (map suspect_line (take l.suspect-index l.suspects))
