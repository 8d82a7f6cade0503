-- An answers file that has a seal for each line of a plan.
use Rattle.std.proofs.Common.{◌≡◌, inl, inr, ℕ, ◌<◌, Bool, true, false, cond, List, [], ◌∷◌, length, find, Some, None, Ok, Err, refl, sym, ap, ◌∙◌, subst, arith}
use Rattle.std.specs.Prelude.{option_and_then}
use Rattle.std.specs.Str.{bytes_eq}
use Rattle.std.proofs.lemmas.Option.{same_Some}
use Rattle.std.proofs.lemmas.Slice.Eq.{bytes_eq-Decides}
use Rattle.ss_octets.proofs.Members.{Has, all-has, contains_from_has, has_from_contains}
use Rattle.ss_frame.specs.Laws.{OneReading}
use Rattle.ss_origin.specs.declared.sealer.SealFault.TheVariants.{Refused, Memory}
use Rattle.ss_answers.specs.Answers.{Answer, Trust, Yes, Seal, HasFields, HasLines, SaysTheSame, given_signature, is_seal, seal_of}
use Rattle.ss_answers.specs.Seals.{seals_of}
use Rattle.ss_laws.specs.plans.SealedPlans.{HasSeals, PlansWithSealsAreNotRefused, SealsPlan}
use Rattle.ss_laws.proofs.of_plans.SealedPlans.{refuses_no_seal_of_plans}

some_or_none : {X : Type 0} (x : X) → Some x ≡ None → ⊥
some_or_none x e = cc

-- a signature that is given stands in a line
seal_stands : (lines : List Answer) (octets signature : List ℕ) → seal_of lines octets ≡ Some signature → Has lines (Seal octets signature)
seal_stands [] octets signature e = absurd (cc)
seal_stands (Trust payload ∷ lines) octets signature e = inr (seal_stands lines octets signature e)
seal_stands (Yes payload other valid ∷ lines) octets signature e = inr (seal_stands lines octets signature e)
seal_stands (Seal o given ∷ lines) octets signature e = by (bytes_eq o octets) refl (seal_stands lines octets signature) e
  where
    by : (b : Bool) → bytes_eq o octets ≡ b → (seal_of lines octets ≡ Some signature → Has lines (Seal octets signature))
        → option_and_then given_signature (cond b (Some (Seal o given)) (find (is_seal octets) lines)) ≡ Some signature → Has (Seal o given ∷ lines) (Seal octets signature)
    by true same rest is = inl (λ i. Seal ((bytes_eq-Decides o octets).0 same i) (same_Some given signature is i))
    by false same rest is = inr (rest is)

-- octets that have a line are given a signature
seal_there : (lines : List Answer) (octets signature : List ℕ) → Has lines (Seal octets signature) → seal_of lines octets ≡ None → ⊥
seal_there [] octets signature has none = has
seal_there (line ∷ lines) octets signature (inl e) none =
    let first : option_and_then given_signature (cond (is_seal octets (Seal octets signature)) (Some (Seal octets signature)) (find (is_seal octets) lines)) ≡ None
    = subst (λ l. option_and_then given_signature (cond (is_seal octets l) (Some l) (find (is_seal octets) lines)) ≡ None) e none in
    let same : is_seal octets (Seal octets signature) ≡ true = (bytes_eq-Decides octets octets).1 refl in
    some_or_none signature (sym (ap (λ b. option_and_then given_signature (cond b (Some (Seal octets signature)) (find (is_seal octets) lines))) same) ∙ first)
seal_there (Trust payload ∷ lines) octets signature (inr has) none = seal_there lines octets signature has none
seal_there (Yes payload other valid ∷ lines) octets signature (inr has) none = seal_there lines octets signature has none
seal_there (Seal o given ∷ lines) octets signature (inr has) none = by (bytes_eq o octets) (seal_there lines octets signature has) none
  where
    by : (b : Bool) → (seal_of lines octets ≡ None → ⊥) → option_and_then given_signature (cond b (Some (Seal o given)) (find (is_seal octets) lines)) ≡ None → ⊥
    by true rest is = some_or_none given is
    by false rest is = rest is

seals_plan : (file plan : List ℕ) (lines answers : List Answer) → HasLines file lines → SaysTheSame lines answers → HasSeals lines plan → SealsPlan (seals_of (Some answers)) plan
seals_plan file plan lines answers read says has octets wanted (Ok signature) gives =
    let there : Has lines (Seal octets signature) = seal_stands lines octets signature (sym (says.seal octets) ∙ gives) in
    let fields : HasFields (Seal octets signature) = all-has HasFields lines (Seal octets signature) read.fields there in
    let some : 0 < length signature = fields.1.some in
    (omega (arith, some), has.short octets signature wanted (contains_from_has lines (Seal octets signature) there))
seals_plan file plan lines answers read says has octets wanted (Err Refused) gives =
    let there = has.there octets wanted in
    seal_there lines octets there.0 (has_from_contains lines (Seal octets there.0) there.1) (sym (says.seal octets) ∙ gives)
seals_plan file plan lines answers read says has octets wanted (Err Memory) gives = tt

pub plans_with_seals_are_not_refused : OneReading → PlansWithSealsAreNotRefused
plans_with_seals_are_not_refused one s start stamp wraps limits log plan file lines answers range p read says has =
    refuses_no_seal_of_plans one (seals_of (Some answers)) s start stamp wraps limits log plan range p (seals_plan file plan lines answers read says has)
