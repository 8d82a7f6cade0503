use Rattle.ss_origin.proofs.Numbering.{numbers_go_on}
use Rattle.ss_origin.proofs.laws.chains.numbers_go_on.Goals as goal

pub returns : goal.returns
returns c = numbers_go_on
