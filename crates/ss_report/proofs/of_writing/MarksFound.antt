-- `[ssign` in a text.
use Rattle.std.proofs.Common.{◌≡◌, inl, inr, ℕ, Bool, true, false, List, [], ◌∷◌, ◌++◌, take, drop, refl, sym, ap, ◌∙◌, codes}
use Rattle.std.specs.Str.{bytes_eq}
use Rattle.std.specs.Prelude.{◌↔◌, IsTrue}
use Rattle.std.proofs.lemmas.Bool.{or_cases, or_right}
use Rattle.std.proofs.lemmas.List.{take-append-drop}
use Rattle.std.proofs.lemmas.Slice.Eq.{bytes_eq-Decides}
use Rattle.ss_block.specs.Mark.{HoldsMark}
use Rattle.ss_report.specs.texts.Facts.{holds_mark}

before : (octet : ℕ) (octets : List ℕ) → HoldsMark octets → HoldsMark (octet ∷ octets)
before octet octets found = record { front = octet ∷ found.front; back = found.back; is = ap (λ t. octet ∷ t) found.is }

at_front : (t : List ℕ) → bytes_eq (take 6 t) (codes "[ssign") ≡ true → HoldsMark t
at_front t e =
    let same = (bytes_eq-Decides (take 6 t) (codes "[ssign")).0 e in
    record { front = []; back = drop 6 t; is = sym (take-append-drop 6 t) ∙ ap (λ front. front ++ drop 6 t) same }

pub found : (t : List ℕ) → holds_mark t ≡ true → HoldsMark t
found [] e = cc
found (octet ∷ octets) e =
    elim (or_cases (bytes_eq (take 6 (octet ∷ octets)) (codes "[ssign")) (holds_mark octets) e) [
      | inl here ↦ at_front (octet ∷ octets) here
      | inr later ↦ before octet octets (found octets later)
    ]

stands : (front back : List ℕ) → holds_mark (front ++ (codes "[ssign" ++ back)) ≡ true
stands [] back = refl
stands (octet ∷ front) back = or_right _ _ (stands front back)

pub finds : (t : List ℕ) → HoldsMark t → holds_mark t ≡ true
finds t holds = ap holds_mark holds.is ∙ stands holds.front holds.back

-- the test that finds them gives the same
pub same_test : (t : List ℕ) (told : Bool) → (IsTrue told ↔ HoldsMark t) → told ≡ holds_mark t
same_test t told tells = by told (holds_mark t) refl refl where
  by : (a b : Bool) → told ≡ a → holds_mark t ≡ b → told ≡ holds_mark t
  by true true e f = e ∙ sym f
  by false false e f = e ∙ sym f
  by true false e f = let holds : holds_mark t ≡ true = finds t (tells.0 e) in cc
  by false true e f = let holds : told ≡ true = tells.1 (found t f) in cc
