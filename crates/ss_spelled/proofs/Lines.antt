-- Numbers of lines.
use Rattle.std.proofs.Common.{◌≡◌, ◌≤◌, ℕ, Bool, true, false, cond, List, Some, None, ◌++◌, refl, sym, ap, subst, ◌∙◌, append_assoc}
use Rattle.ss_octets.specs.Number.{number, is_number, number_in}
use Rattle.ss_octets.proofs.Numbers.{is_spelled}

-- a number that was read is at most the greatest one
pub small : (text : List ℕ) (n : ℕ) → number_in 1 99999999 text ≡ Some n → n ≤ 99999999
small text n e = by (is_number 1 99999999 text) (λ h. (is_spelled 1 99999999 text h).high) e
  where
    by : (b : Bool) → (b ≡ true → number text ≤ 99999999) → cond b (Some (number text)) None ≡ Some n → n ≤ 99999999
    by true high e = let same : number text ≡ n = cc in subst (λ (m : ℕ). m ≤ 99999999) same (high refl)
    by false high e = absurd cc

-- three parts at the end of a text
pub three_parts : (t a b c x y z : List ℕ) → x ≡ t ++ a → y ≡ x ++ b → z ≡ y ++ c → z ≡ t ++ (a ++ b ++ c)
three_parts t a b c x y z e f g =
    g ∙ ap (λ m. m ++ c) (f ∙ ap (λ m. m ++ b) e) ∙ append_assoc (t ++ a) b c ∙ append_assoc t a (b ++ c) ∙ ap (λ m. t ++ m) (sym (append_assoc a b c))
