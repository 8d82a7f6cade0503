-- What is refused before an originator takes memory.
use Rattle.std.specs.Prelude.{◌≡◌, ℕ, Option, None, Result, Err}
use Rattle.ss_origin.specs.declared.fault.OriginFault.{OriginFault}
use Rattle.ss_origin.specs.declared.fault.OriginFault.TheVariants.{BadConfig}
use Rattle.ss_signing.specs.declared.fault.SignFault.{SignFault}
use Rattle.ss_signing.specs.declared.fault.SignFault.TheVariants as faults

-- If this is out of its range, a refusal by the originator is O1 with no place, and not O10.
abbrev pub RefusedFirst : {X : Type 0} → (out : Type 0) → Result X SignFault → Type 0
RefusedFirst out result =
    (fault : OriginFault) (place : Option ℕ) → out → result ≡ Err (faults.Origin fault place)
    → (fault ≡ BadConfig) × (place ≡ None)
