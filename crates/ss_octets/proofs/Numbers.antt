-- The one spelling of a number determines the number.
use Rattle.std.proofs.Common.{◌≡◌, ℕ, ◌<◌, ◌≤◌, ◌^◌, true, List, Some, None, ap, sym, ◌∙◌, arith}
use Rattle.std.specs.Fmt.{decimal}
use Rattle.std.proofs.lemmas.Bool.{and_parts, and_from, leb-true, le-leb, cond-true, cond-false, false_from_ne_true}
use Rattle.std.proofs.lemmas.Fmt.{decimal_is_IsNumeral}
use Rattle.std.proofs.lemmas.Slice.Eq.{bytes_eq-Decides}
use Rattle.ss_octets.specs.Number.{number, is_number, number_in}

-- the digits of a number write it
pub number-decimal : (n : ℕ) → n < 2 ^ 64 → number (decimal n) ≡ n
unfolding number
number-decimal n small = (decimal_is_IsNumeral n small).1

-- what holds of a text that spells a number
pub record IsSpelled (least most : ℕ) (text : List ℕ) : Type 0 where
  pub spelled : text ≡ decimal (number text)
  pub low : least ≤ number text
  pub high : number text ≤ most

pub is_spelled : (least most : ℕ) (text : List ℕ) → is_number least most text ≡ true → IsSpelled least most text
unfolding is_number
is_spelled least most text h =
    let t = and_parts _ _ h in
    let s = and_parts _ _ t.0 in
    record {
      spelled = sym ((bytes_eq-Decides (decimal (number text)) text).0 s.0);
      low = leb-true least (number text) s.1;
      high = leb-true (number text) most t.1;
    }

-- a number's digits are its one spelling
pub is_number-decimal : (least most n : ℕ) → n < 2 ^ 64 → least ≤ n → n ≤ most → is_number least most (decimal n) ≡ true
unfolding is_number
is_number-decimal least most n small low high =
    let same = number-decimal n small in
    and_from _ _ (and_from _ _ ((bytes_eq-Decides (decimal (number (decimal n))) (decimal n)).1 (ap decimal same)) (le-leb least (number (decimal n)) (omega arith))) (le-leb (number (decimal n)) most (omega arith))

pub number_in-decimal : (least most n : ℕ) (text : List ℕ) → n < 2 ^ 64 → least ≤ n → n ≤ most → text ≡ decimal n → number_in least most text ≡ Some n
number_in-decimal least most n text small low high e =
    ap (number_in least most) e ∙ cond-true (is_number least most (decimal n)) (Some (number (decimal n))) None (is_number-decimal least most n small low high) ∙ ap Some (number-decimal n small)

-- a text that isn't the spelling of a number has none
pub number_in-none : (least most : ℕ) (text : List ℕ) → (IsSpelled least most text → ⊥) → number_in least most text ≡ None
number_in-none least most text fails = cond-false (is_number least most text) (Some (number text)) None (false_from_ne_true (is_number least most text) (λ h. fails (is_spelled least most text h)))
