use Rattle.ss_block.proofs.Written.{certificate_is_read}
use Rattle.ss_block.proofs.laws.writing.certificates_are_read.Goals as goal

pub returns : goal.returns
returns c = certificate_is_read
