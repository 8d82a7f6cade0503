use Rattle.ss_signing.proofs.LinesOut.{lines_are_read}
use Rattle.ss_signing.proofs.laws.lines_are_read.Goals as goal

pub returns : goal.returns
returns g c = lines_are_read g.J.Seals.answers
