use Rattle.ss_block.proofs.Written.{signature_is_read}
use Rattle.ss_block.proofs.laws.writing.signatures_are_read.Goals as goal

pub returns : goal.returns
returns c = signature_is_read
