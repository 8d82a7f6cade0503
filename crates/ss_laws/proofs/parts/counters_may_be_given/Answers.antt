use Rattle.ss_laws.proofs.of_parts.WholeTogether.{given_to_each, given_at_home, only_at_home}
use Rattle.ss_laws.proofs.parts.counters_may_be_given.Goals as goal

pub returns : goal.returns
returns c = λ bs part parts cs. (
  given_to_each bs part parts cs,
  λ home is. (given_at_home bs part parts cs home is, only_at_home bs part parts cs home is),
)
