-- Whether anything is left.
use Rattle.std.proofs.Common.{◌≡◌, ℕ, zero, suc, ◌+◌, ◌<◌, true, false, Option, Some, None, List, [], ◌∷◌, ◌++◌, length, get_or, take, filter_map, refl, ap, ◌∙◌, arith}
use Rattle.std.specs.List.{cons_option}
use Rattle.std.specs.Option.{is_some}
use Rattle.std.proofs.lemmas.List.{take_more}
use Rattle.std.proofs.lemmas.List.Elements.{filter_map-append}
use Rattle.ss_review.specs.report.Verdict.{is_none}

none_of : {Y : Type 0} (o : Option Y) → is_some o ≡ false → cons_option o [] ≡ []
none_of None is = refl
none_of (Some y) is = absurd cc

some_of : {Y : Type 0} (o : Option Y) (ys : List Y) → is_some o ≡ true → is_none (cons_option o ys) ≡ false
some_of None ys is = absurd cc
some_of (Some y) ys is = refl

some_after : {Y : Type 0} (o : Option Y) (ys : List Y) → is_none ys ≡ false → is_none (cons_option o ys) ≡ false
some_after None ys rest = rest
some_after (Some y) ys rest = refl

-- nothing is left of the items so far, and nothing of the next one
pub none_more : {X Y : Type 0} (h : X → Option Y) (xs : List X) (i : ℕ) (d : X) → i < length xs → filter_map h (take i xs) ≡ [] → is_some (h (get_or xs i d)) ≡ false → filter_map h (take (i + 1) xs) ≡ []
none_more h xs i d within none next =
    ap (filter_map h) (take_more xs i d within) ∙ filter_map-append h (take i xs) (get_or xs i d ∷ [])
    ∙ (λ j. none j ++ none_of (h (get_or xs i d)) next j)

-- something is left of one of them
pub some_left : {X Y : Type 0} (h : X → Option Y) (xs : List X) (i : ℕ) (d : X) → i < length xs → is_some (h (get_or xs i d)) ≡ true → is_none (filter_map h xs) ≡ false
some_left h [] i d within is = absurd (omega (arith, within))
some_left h (x ∷ xs) zero d within is = some_of (h x) (filter_map h xs) is
some_left h (x ∷ xs) (suc i) d within is = some_after (h x) (filter_map h xs) (some_left h xs i d (omega (arith, within)) is)
