use Rattle.std.proofs.Common.{ap}
use Rattle.ss_report.specs.lines.Lines.{session_lines}
use Rattle.ss_report.proofs.of_writing.LinesTaken.{lines_more}
use Rattle.ss_report.proofs.lines.walk.walk_sessions.Goals as goal

pub loop-session-preserved : goal.loop-session-preserved
loop-session-preserved g c =
    lines_more (g.V.LineVisitor.takes c.args.visitor.now) (session_lines c.args.detail) c.args.sessions.now c.loop-session.session-index _ _ _ _ _ c.loop-session-test.true c.loop-session.invariant c.walk_session_left.ensures
    (ap (session_lines c.args.detail) c.session-item.is)
