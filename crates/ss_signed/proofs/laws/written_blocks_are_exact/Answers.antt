use Rattle.ss_signed.proofs.Exact.{signature_exact, certificate_exact}
use Rattle.ss_signed.proofs.laws.written_blocks_are_exact.Goals as goal

pub returns : goal.returns
returns c = (signature_exact, certificate_exact)
