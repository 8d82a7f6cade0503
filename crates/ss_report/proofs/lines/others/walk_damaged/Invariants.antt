use Rattle.std.proofs.Common.{take, map}
use Rattle.ss_report.specs.lines.Taken.{TakesAll}
use Rattle.ss_report.specs.lines.Lines.{damage_line}
use Rattle.ss_report.proofs.lines.others.walk_damaged.Given as goal

abbrev pub invariant-loop-stretch : goal.invariant-loop-stretch
invariant-loop-stretch g l = TakesAll (g.V.LineVisitor.takes l.visitor) l.initial.into l.into (map damage_line (take l.stretch-index l.damaged))
