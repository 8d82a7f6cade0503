use Rattle.ss_payload.proofs.PayloadTexts.{texts_are_ascii}
use Rattle.ss_payload.proofs.laws.payloads.texts_are_ascii.Goals as goal

pub returns : goal.returns
returns c = texts_are_ascii
