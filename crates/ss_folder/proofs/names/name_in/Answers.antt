use Rattle.std.proofs.Common.{◌≡◌, ℕ, List, [], ◌∷◌, ◌++◌, drop, Bool, true, false, if◌then◌else◌, Option, Some, None, IfSome, option_map, refl, sym, ap, subst, ◌∙◌, decimal, ◌≤◌, ◌<◌, ◌^◌, ◌≢◌, Bor, arith}
use Rattle.std.proofs.lemmas.Bool.Decides.{Decides-eqb}
use Rattle.std.proofs.lemmas.Slice.Eq.{strip_prefix_is}
use Rattle.ss_octets.specs.Cut.{parts_at}
use Rattle.ss_octets.specs.Number.{number, is_number, number_in}
use Rattle.std.proofs.lemmas.List.{append_cancel_left}
use Rattle.ss_octets.proofs.Numbers.{is_spelled, number_in-decimal}
use Rattle.ss_folder.specs.Names.{called_as}
use Rattle.ss_folder.proofs.Cuts.{parts_again}
use Rattle.ss_folder.proofs.names.name_in.Goals as goal

spelled : (least most : ℕ) (text : List ℕ) (r : Option ℕ) → r ≡ number_in least most text → IfSome r (λ n. text ≡ decimal n)
spelled least most text r is = subst (λ (x : Option ℕ). IfSome x (λ n. text ≡ decimal n)) (sym is) (by_test (is_number least most text) refl)
  where
    by_test : (b : Bool) → is_number least most text ≡ b → IfSome (if b then Some (number text) else None) (λ n. text ≡ decimal n)
    by_test true e = (is_spelled least most text e).spelled
    by_test false e = tt

joined : (stem called rest more digits ending : List ℕ) (n : ℕ) → called ≡ stem ++ rest → rest ≡ 45 ∷ more → more ≡ digits ++ 46 ∷ ending → digits ≡ decimal n
    → called ≡ called_as stem n ending
joined stem called rest more digits ending n a b c d =
    a ∙ ap (λ (t : List ℕ). stem ++ t) (b ∙ ap (λ (t : List ℕ). 45 ∷ t) (c ∙ ap (λ (t : List ℕ). t ++ 46 ∷ ending) d))

-- what stands after the stem and the hyphen
after : (stem called rest more : List ℕ) (n : ℕ) (ending : List ℕ) → called ≡ stem ++ rest → rest ≡ 45 ∷ more → called ≡ called_as stem n ending → more ≡ decimal n ++ 46 ∷ ending
after stem called rest more n ending a b e =
    ap (λ (t : List ℕ). drop 1 t) (sym b ∙ append_cancel_left stem rest (45 ∷ (decimal n ++ 46 ∷ ending)) (sym a ∙ e))

small : (n : ℕ) → n ≤ 9999999999 → n < 2 ^ 64
small n high = omega (arith, high)

some_is : {A : Type 0} (x y : A) → Some x ≡ Some y → x ≡ y
some_is x y e = cc

none_isnt : {A : Type 0} (r : Option A) (x : A) → r ≡ Some x → r ≡ None → ⊥
none_isnt r x some none = let e : None ≡ Some x = sym none ∙ some in absurd cc

abbrev Cut : Type 0
Cut = Option (Bor (List ℕ) × Bor (List ℕ))

abbrev now : Cut → Option (List ℕ × List ℕ)
now r = option_map {U = List ℕ × List ℕ} (λ y. (y.0.now, y.1.now)) r

cut_none : (r : Cut) (x : List ℕ × List ℕ) → now r ≡ Some x → r ≡ None → ⊥
cut_none r x m e = none_isnt (now r) x m (ap now e)

cut_some : (r : Cut) (x : List ℕ × List ℕ) (y : Bor (List ℕ) × Bor (List ℕ)) → now r ≡ Some x → r ≡ Some y → (y.0.now ≡ x.0) × (y.1.now ≡ x.1)
cut_some r x y m e =
    let is : ◌≡◌ {A = List ℕ × List ℕ} (y.0.now, y.1.now) x = some_is _ _ (sym (ap now e) ∙ m) in
    (ap (λ (p : List ℕ × List ℕ). p.0) is, ap (λ (p : List ℕ × List ℕ). p.1) is)

both : (n name : ℕ) (e ending : List ℕ) → n ≡ name → e ≡ ending → ◌≡◌ {A = Option (ℕ × List ℕ)} (Some (n, e)) (Some (name, ending))
both n name e ending a b = rw (a, b) refl

pub returns-in_err-rest-clause-each : goal.returns-in_err-rest-clause-each
returns-in_err-rest-clause-each c name ending low high e =
    let first = strip_prefix_is Decides-eqb c.args.called.now c.args.stem.now _ c.strip_prefix.ensures.cases in
    let none : (rest : List ℕ) → c.args.called.now ≢ c.args.stem.now ++ rest = rw c.in_err-rest.was at first in
    absurd (none _ e)

pub returns-in_err-digits-clause-each : goal.returns-in_err-digits-clause-each
returns-in_err-digits-clause-each c name ending low high e =
    let first = strip_prefix_is Decides-eqb c.args.called.now c.args.stem.now _ c.strip_prefix.ensures.cases in
    let a : c.args.called.now ≡ c.args.stem.now ++ c.in_ok-rest.rest.now = rw c.in_ok-rest.was at first in
    let second = strip_prefix_is Decides-eqb c.in_ok-rest.rest.now (45 ∷ []) _ c.strip_prefix-2.ensures.cases in
    let b : c.in_ok-rest.rest.now ≡ 45 ∷ c.in_ok-rest-2.rest.now = rw c.in_ok-rest-2.was at second in
    let parts = c.cut_first.ensures.parts ∙ (ap (λ (t : List ℕ). parts_at 46 t) (after _ _ _ _ name ending a b e) ∙ parts_again name ending (small name high)) in
    absurd (cut_none c.cut_first.result (decimal name, ending) parts c.in_err-digits.was)

pub returns-in_err-name-clause-each : goal.returns-in_err-name-clause-each
returns-in_err-name-clause-each c name ending low high e =
    let first = strip_prefix_is Decides-eqb c.args.called.now c.args.stem.now _ c.strip_prefix.ensures.cases in
    let a : c.args.called.now ≡ c.args.stem.now ++ c.in_ok-rest.rest.now = rw c.in_ok-rest.was at first in
    let second = strip_prefix_is Decides-eqb c.in_ok-rest.rest.now (45 ∷ []) _ c.strip_prefix-2.ensures.cases in
    let b : c.in_ok-rest.rest.now ≡ 45 ∷ c.in_ok-rest-2.rest.now = rw c.in_ok-rest-2.was at second in
    let parts = c.cut_first.ensures.parts ∙ (ap (λ (t : List ℕ). parts_at 46 t) (after _ _ _ _ name ending a b e) ∙ parts_again name ending (small name high)) in
    let pieces = cut_some c.cut_first.result (decimal name, ending) (c.in_ok-digits.digits, c.in_ok-digits.ending) parts c.in_ok-digits.was in
    absurd (none_isnt c.number_of.result name (c.number_of.ensures ∙ number_in-decimal 1 9999999999 name _ (small name high) low high pieces.0) c.in_err-name.was)

pub returns-clause-each : goal.returns-clause-each
returns-clause-each c name ending low high e =
    let first = strip_prefix_is Decides-eqb c.args.called.now c.args.stem.now _ c.strip_prefix.ensures.cases in
    let a : c.args.called.now ≡ c.args.stem.now ++ c.in_ok-rest.rest.now = rw c.in_ok-rest.was at first in
    let second = strip_prefix_is Decides-eqb c.in_ok-rest.rest.now (45 ∷ []) _ c.strip_prefix-2.ensures.cases in
    let b : c.in_ok-rest.rest.now ≡ 45 ∷ c.in_ok-rest-2.rest.now = rw c.in_ok-rest-2.was at second in
    let parts = c.cut_first.ensures.parts ∙ (ap (λ (t : List ℕ). parts_at 46 t) (after _ _ _ _ name ending a b e) ∙ parts_again name ending (small name high)) in
    let pieces = cut_some c.cut_first.result (decimal name, ending) (c.in_ok-digits.digits, c.in_ok-digits.ending) parts c.in_ok-digits.was in
    let named = c.number_of.ensures ∙ number_in-decimal 1 9999999999 name _ (small name high) low high pieces.0 in
    both _ _ _ _ (some_is _ _ (sym c.in_ok-name.was ∙ named)) pieces.1

pub returns-clause-so : goal.returns-clause-so
returns-clause-so c =
    let first = strip_prefix_is Decides-eqb c.args.called.now c.args.stem.now _ c.strip_prefix.ensures.cases in
    let a : c.args.called.now ≡ c.args.stem.now ++ c.in_ok-rest.rest.now = rw c.in_ok-rest.was at first in
    let second = strip_prefix_is Decides-eqb c.in_ok-rest.rest.now (45 ∷ []) _ c.strip_prefix-2.ensures.cases in
    let b : c.in_ok-rest.rest.now ≡ 45 ∷ c.in_ok-rest-2.rest.now = rw c.in_ok-rest-2.was at second in
    let found = c.cut_first.ensures.cut in
    let cut = rw c.in_ok-digits.was at found in
    let number = spelled 1 9999999999 c.in_ok-digits.digits.now c.number_of.result c.number_of.ensures in
    let d : c.in_ok-digits.digits.now ≡ decimal c.in_ok-name.name = rw c.in_ok-name.was at number in
    joined _ _ _ _ _ _ c.in_ok-name.name a b cut.1 d
