use Rattle.std.proofs.Common.{ap, ◌∙◌, flat_map}
use Rattle.std.proofs.lemmas.List.{take_all}
use Rattle.ss_report.proofs.of_writing.QuestionLines.{asked_lines, lines_shared}
use Rattle.ss_report.proofs.of_writing.Writings.{writes_more, writes_same}
use Rattle.ss_report.proofs.texts.question_text.write_questions.Goals as goal

pub loop-session-preserved : goal.loop-session-preserved
loop-session-preserved g c =
    writes_more (asked_lines c.args.notation) c.args.sessions.now c.loop-session.session-index _ _ _ _ _ c.loop-session-test.true c.loop-session.invariant c.write_session_questions.ensures (ap (asked_lines c.args.notation) c.session-item.is)

pub returns : goal.returns
returns g c =
    writes_same _ _ _ _ c.loop-session.invariant (ap (flat_map (asked_lines c.args.notation)) (take_all c.loop-session.session-index c.args.sessions.now c.loop-session-test.false) ∙ lines_shared c.args.notation c.args.sessions.now)
