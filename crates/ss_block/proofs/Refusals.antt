-- What a call that gave no value reports about a reading.
use Rattle.std.proofs.Common.{◌≡◌, Bool, false, List, Some, Result, Ok, Err, sym, subst, ap, ◌∙◌}
use Rattle.std.specs.Prelude.{IsErrAnd}
use Rattle.ss_block.specs.declared.spoil.Spoil.{Spoil}
use Rattle.ss_block.specs.declared.refusal.Refusal.{Refusal}
use Rattle.ss_block.specs.declared.refusal.Refusal.TheVariants as refusals
use Rattle.ss_block.specs.declared.reading.Reading.{Reading}
use Rattle.ss_block.specs.declared.reading.Reading.TheVariants.{Spoilt}
use Rattle.ss_block.specs.Reading.{first_cause}
use Rattle.ss_block.specs.Causes.{Tests, Spoils, Reads}

pub refused : {X Y : Type 0} (block : X → Reading) (cause : Spoil) (test : Bool) (is : Y → Type 0) (reading : Reading) (r : Result X Refusal) (e : Refusal)
    → IsErrAnd r (λ f. f ≡ e) → Tests cause test is (Err e) → (test ≡ false → reading ≡ Spoilt cause) → Reads block r reading
refused block cause test is reading (Ok x) e g t k = absurd g
refused block cause test is reading (Err f) (refusals.Spoilt told) g t k = subst (λ (y : Refusal). Reads block (Err y) reading) (sym g) (k t.0 ∙ ap (λ (s : Spoil). Spoilt s) (sym t.1))
refused block cause test is reading (Err f) refusals.Memory g t k = subst (λ (y : Refusal). Reads block (Err y) reading) (sym g) tt

pub refused_first : {X Y : Type 0} (block : X → Reading) (rows : List (Bool × Spoil)) (is : Y → Type 0) (reading : Reading) (r : Result X Refusal) (e : Refusal)
    → IsErrAnd r (λ f. f ≡ e) → Spoils rows is (Err e) → ((cause : Spoil) → first_cause rows ≡ Some cause → reading ≡ Spoilt cause) → Reads block r reading
refused_first block rows is reading (Ok x) e g t k = absurd g
refused_first block rows is reading (Err f) (refusals.Spoilt told) g t k = subst (λ (y : Refusal). Reads block (Err y) reading) (sym g) (k told t)
refused_first block rows is reading (Err f) refusals.Memory g t k = subst (λ (y : Refusal). Reads block (Err y) reading) (sym g) tt
