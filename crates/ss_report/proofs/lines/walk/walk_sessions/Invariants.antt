use Rattle.std.proofs.Common.{take, flat_map}
use Rattle.ss_report.specs.lines.Taken.{TakesAll}
use Rattle.ss_report.specs.lines.Lines.{session_lines}
use Rattle.ss_report.proofs.lines.walk.walk_sessions.Given as goal

abbrev pub invariant-loop-session : goal.invariant-loop-session
invariant-loop-session g l = TakesAll (g.V.LineVisitor.takes l.visitor) l.initial.into l.into (flat_map (session_lines l.detail) (take l.session-index l.sessions))
