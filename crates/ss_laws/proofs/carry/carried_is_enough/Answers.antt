use Rattle.std.proofs.Common.{ℕ, Bool, sym, subst}
use Rattle.ss_laws.specs.carry.Nights.{is_reviewed, night_log, LeavesEnough}
use Rattle.ss_laws.proofs.of_carry.CarriedEnough.{carried_enough}
use Rattle.ss_laws.proofs.of_carry.ToldApart.{are_apart}
use Rattle.ss_laws.proofs.carry.carried_is_enough.Goals as goal

pub returns : goal.returns
returns c = λ says x last are carry night low.
    subst (λ (left : ℕ → Bool). LeavesEnough says (night_log x night) left) (λ i place. sym (carry night place low) i)
    (carried_enough says (night_log x night) (are_apart (is_reviewed x night) x.whole are))
