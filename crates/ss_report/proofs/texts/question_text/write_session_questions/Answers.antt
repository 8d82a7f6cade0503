use Rattle.ss_report.proofs.of_writing.QuestionLines.{lines_asked}
use Rattle.ss_report.proofs.of_writing.Writings.{writes_then, writes_same}
use Rattle.ss_report.proofs.texts.question_text.write_session_questions.Goals as goal

pub returns : goal.returns
returns g c =
    writes_same _ _ _ _ (writes_then _ _ _ _ _ c.write_trust.ensures c.write_blocks.ensures) (lines_asked c.args.notation c.args.session.now)
