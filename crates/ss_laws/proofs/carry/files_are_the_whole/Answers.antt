use Rattle.ss_laws.proofs.of_carry.SoFar.{whole_so_far}
use Rattle.ss_laws.proofs.carry.files_are_the_whole.Goals as goal

pub returns : goal.returns
returns c = λ x last are within. whole_so_far x last are.0 are.1 within
