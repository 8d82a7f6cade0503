use Rattle.ss_payload.proofs.PayloadTexts.{texts_have_octets}
use Rattle.ss_payload.proofs.laws.payloads.texts_have_octets.Goals as goal

pub returns : goal.returns
returns c = texts_have_octets
