use Rattle.ss_signing.proofs.LinesOut.{lines_hold_no_lf}
use Rattle.ss_signing.proofs.laws.lines_hold_no_lf.Goals as goal

pub returns : goal.returns
returns g c = lines_hold_no_lf g.J.Seals.answers
