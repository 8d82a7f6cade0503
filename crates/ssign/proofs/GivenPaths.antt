-- What the file of an option gives, by the path that the option has.
use Rattle.std.proofs.Common.{◌≡◌, ℕ, List, Option, Result, subst}
use Rattle.ss_origin.specs.declared.config.Config.{Config}
use Rattle.ss_origin.specs.declared.counters.Counters.{Counters}
use Rattle.ssign.specs.GivenFiles.{Contents, Gives}
use Rattle.ssign.specs.SigningOrder.{GivesStart}
use Rattle.ssign.specs.declared.start.StartRefusal.{StartRefusal}

pub at_path : {T E : Type 0} (contents : List ℕ → Result T E → Type 0) (result : Result (Option T) E) {p q : Option (List ℕ)}
    → p ≡ q → Gives contents p result → Gives contents q result
at_path contents result is given = subst (λ p. Gives contents p result) is given

pub start_at : (files : Contents) (config : Config) (result : Result (Option Counters) StartRefusal) {p q : Option (List ℕ)}
    → p ≡ q → GivesStart files p config result → GivesStart files q config result
start_at files config result is given = subst (λ p. GivesStart files p config result) is given
