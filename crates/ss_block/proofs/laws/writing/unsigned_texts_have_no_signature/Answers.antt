use Rattle.std.proofs.Common.{refl}
use Rattle.ss_block.proofs.laws.writing.unsigned_texts_have_no_signature.Goals as goal

pub returns : goal.returns
returns c = (λ h stamp b other. refl, λ h stamp b other. refl)
