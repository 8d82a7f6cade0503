use Rattle.ss_report.proofs.of_writing.OnceTexts.{session_text}
use Rattle.ss_report.proofs.of_writing.Writings.{writes_same, writes_then}
use Rattle.ss_report.proofs.texts.questions_once.write_session_once.Goals as goal

pub returns : goal.returns
returns g c =
    writes_same _ _ _ _ (writes_then _ _ _ _ _ (writes_then _ _ _ _ _ c.write_payload_if_new.ensures c.write_trust.ensures) c.write_blocks.ensures)
    (session_text c.args.notation c.args.mark c.args.session.now _ c.as_slice.ensures)
