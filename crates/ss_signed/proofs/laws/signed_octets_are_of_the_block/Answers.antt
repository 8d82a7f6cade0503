use Rattle.ss_signed.proofs.OfBlocks.{signature_described_again, certificate_described_again}
use Rattle.ss_signed.proofs.laws.signed_octets_are_of_the_block.Goals as goal

pub returns : goal.returns
returns c = (signature_described_again, certificate_described_again)
