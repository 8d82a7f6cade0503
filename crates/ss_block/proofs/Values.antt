-- Values of the parameters of an element, by their places.
use Rattle.std.proofs.Common.{◌≡◌, ℕ, zero, suc, ◌<◌, ◌≤◌, Bool, true, false, cond, List, [], ◌∷◌, length, get_or, drop, Some, None, refl, sym, subst, arith}
use Rattle.std.specs.List.{list_all}
use Rattle.std.specs.Str.{is_utf8, bytes_eq}
use Rattle.std.proofs.lemmas.Bool.{and_parts}
use Rattle.std.proofs.lemmas.Str.{IsUtf8-nil, is_utf8-from_IsUtf8}
use Rattle.ss_message.specs.declared.message.Parameter.{Parameter}
use Rattle.ss_message.specs.Octets.{part_of}
use Rattle.ss_message.specs.Raw.{meant, closes_after, is_raw}
use Rattle.ss_message.specs.Message.{ParameterValue, ElementValue, has_raws}
use Rattle.ss_message.specs.Layout.{parameter_values}
use Rattle.ss_octets.specs.Number.{number, is_number, number_in}
use Rattle.ss_block.specs.Reading.{first_text, text_at, element_with}
use Rattle.ss_octets.proofs.Numbers.{is_spelled}
use Rattle.ss_block.proofs.Meanings.{is_utf8-meant}

pub text_is : (source : List ℕ) (ps : List Parameter) (i : ℕ) (d : Parameter) → i < length ps → meant (part_of source (get_or ps i d).value) ≡ first_text (drop i (parameter_values source ps))
text_is source [] i d lt = absurd (omega arith)
text_is source (p ∷ ps) zero d lt = refl
text_is source (p ∷ ps) (suc i) d lt = text_is source ps i d (omega arith)

-- what a text spells lies in the range that it was asked for
pub in_range : (least most : ℕ) (text : List ℕ) (n : ℕ) → number_in least most text ≡ Some n → (least ≤ n) × (n ≤ most)
in_range least most text n e = by_test least most text n (is_number least most text) refl e
  where
    by_test : (least most : ℕ) (text : List ℕ) (n : ℕ) (t : Bool) → is_number least most text ≡ t → cond t (Some (number text)) None ≡ Some n → (least ≤ n) × (n ≤ most)
    by_test least most text n true is e =
        let s = is_spelled least most text is in
        let same : number text ≡ n = cc in
        subst (λ (k : ℕ). (least ≤ k) × (k ≤ most)) same (s.low, s.high)
    by_test least most text n false is e = absurd cc

raw_is_utf8 : (raw : List ℕ) → is_raw raw ≡ true → is_utf8 raw ≡ true
unfolding is_raw
raw_is_utf8 raw h = (and_parts (closes_after false raw) (is_utf8 raw) h).1

-- a value of a message is UTF-8, and so is what it stands for
pub text_is_utf8 : (e : ElementValue) (i : ℕ) → has_raws e ≡ true → is_utf8 (text_at e i) ≡ true
text_is_utf8 e i h = at_parameter e.parameters i h
  where
    at_parameter : (ps : List ParameterValue) (i : ℕ) → list_all (λ p. is_raw p.raw) ps ≡ true → is_utf8 (first_text (drop i ps)) ≡ true
    at_parameter [] zero h = is_utf8-from_IsUtf8 [] IsUtf8-nil
    at_parameter [] (suc i) h = is_utf8-from_IsUtf8 [] IsUtf8-nil
    at_parameter (p ∷ ps) (suc i) h = at_parameter ps i (and_parts (is_raw p.raw) (list_all (λ q. is_raw q.raw) ps) h).1
    at_parameter (p ∷ ps) zero h = is_utf8-meant p.raw (raw_is_utf8 p.raw (and_parts (is_raw p.raw) (list_all (λ q. is_raw q.raw) ps) h).0)

-- the values of the element with an SD-ID may stand there
pub raws_with : (id : List ℕ) (es : List ElementValue) (e : ElementValue) → list_all has_raws es ≡ true → Some e ≡ element_with id es → has_raws e ≡ true
raws_with id [] e h found = absurd cc
raws_with id (x ∷ es) e h found = by_test id x es e (bytes_eq x.id id) h (λ g k. raws_with id es e g k) found
  where
    by_test : (id : List ℕ) (x : ElementValue) (es : List ElementValue) (e : ElementValue) (t : Bool) → list_all has_raws (x ∷ es) ≡ true → (list_all has_raws es ≡ true → Some e ≡ element_with id es → has_raws e ≡ true)
        → Some e ≡ cond t (Some x) (element_with id es) → has_raws e ≡ true
    by_test id x es e true h rest found =
        let same : e ≡ x = cc in
        subst (λ (v : ElementValue). has_raws v ≡ true) (sym same) (and_parts (has_raws x) (list_all has_raws es) h).0
    by_test id x es e false h rest found = rest (and_parts (has_raws x) (list_all has_raws es) h).1 found
