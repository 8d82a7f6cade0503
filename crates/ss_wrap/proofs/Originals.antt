-- The octets in a text of the form of a wrap, and whether a message needs one.
use Rattle.std.proofs.Common.{◌≡◌, ℕ, true, false, List, Option, Some, None, Result, Bor, refl, sym, ap, inl, inr, is_some}
use Rattle.std.specs.Prelude.{◌⊎◌, ◌≢◌}
use Rattle.std.specs.Option.{option_copied}
use Rattle.std.proofs.lemmas.Bool.{true≢false}
use Rattle.ss_message.specs.declared.fault.BadPart.{BadPart}
use Rattle.ss_message.specs.Layout.{Layout}
use Rattle.ss_message.specs.Reading.{layout_at}
use Rattle.ss_block.specs.declared.reading.Reading.{Reading}
use Rattle.ss_block.specs.declared.reading.Reading.TheVariants.{Plain, Unparsed, Signature, Certificate, Spoilt}
use Rattle.ss_block.specs.Reading.{reading}
use Rattle.ss_origin.specs.declared.fault.OriginFault.{OriginFault}
use Rattle.ss_origin.specs.declared.fault.OriginFault.TheVariants.{NotSyslog, HasBlock, Memory}
use Rattle.ss_origin.specs.Refusals.{is_unparsed, is_plain}
use Rattle.ss_wrap.specs.Wrap.{original, original_from, needs_wrap}

pub original_is : (t : List ℕ) (r : Result Layout BadPart) → layout_at t ≡ r → original t ≡ original_from t r
unfolding original
original_is t r e = ap (original_from t) e

-- ---- whether a message needs a wrap

some_copied : {X : Type 0} (o : Option (Bor X)) → is_some (option_copied o) ≡ is_some o
some_copied None = refl
some_copied (Some r) = refl

pub plain_needs : (m : List ℕ) (found : Option (Bor (List ℕ))) → is_plain (reading m) ≡ true → option_copied found ≡ original m → is_some found ≡ needs_wrap m
unfolding needs_wrap
plain_needs m found plain is = rw (plain, ← is) (sym (some_copied found))

not_plain : (r : Reading) → is_unparsed r ≡ true → is_plain r ≡ false
not_plain Plain e = absurd (true≢false (sym e))
not_plain (Unparsed part pos) e = refl
not_plain (Signature b) e = refl
not_plain (Certificate b) e = refl
not_plain (Spoilt cause) e = refl

other_needs : (m : List ℕ) → is_plain (reading m) ≡ false → true ≡ needs_wrap m
unfolding needs_wrap
other_needs m other = rw other refl

pub refused_needs : (m : List ℕ) (f : OriginFault) → f ≢ Memory
    → (f ≡ Memory) ⊎ ((f ≡ NotSyslog) × (is_unparsed (reading m) ≡ true)) ⊎ ((f ≡ HasBlock) × (is_unparsed (reading m) ≡ false) × (is_plain (reading m) ≡ false))
    → true ≡ needs_wrap m
refused_needs m f kept (inl memory) = absurd (kept memory)
refused_needs m f kept (inr (inl none)) = other_needs m (not_plain (reading m) none.1)
refused_needs m f kept (inr (inr block)) = other_needs m block.2
