-- Where a text is split at spaces.
use Rattle.std.proofs.Common.{◌≡◌, ◌==◌, ℕ, ◌+◌, ◌<◌, false, List, [], ◌∷◌, length, Option, Some, None, MatchOption, IfSome, arith, length-drop}
use Rattle.std.specs.Borrow.{Bor}
use Rattle.std.specs.List.{slice_split, position_or_len}
use Rattle.std.proofs.lemmas.List.Elements.{All-from_get_or}
use Rattle.std.proofs.lemmas.List.Splits.{slice_split_first, slice_split_none}
use Rattle.std.proofs.lemmas.List.Sums.{fails_before_first}
use Rattle.std.proofs.lemmas.Str.Pattern.{IsSplitOnceResult, split_once_first}

abbrev pub SplitsAtSpace : List ℕ → Option (Bor (List ℕ) × Bor (List ℕ)) → Type 0
SplitsAtSpace text r = MatchOption r (slice_split (λ octet. octet == 32) text ≡ text ∷ [])
    (λ x. slice_split (λ octet. octet == 32) text ≡ x.0.now ∷ slice_split (λ octet. octet == 32) x.1.now)

nowhere : (text : List ℕ) → position_or_len (λ octet. octet == 32) text ≡ length text → slice_split (λ octet. octet == 32) text ≡ text ∷ []
nowhere text e =
    slice_split_none (λ octet. octet == 32) text (All-from_get_or (λ octet. (octet == 32) ≡ false) text 0 (λ i lt. fails_before_first (λ octet. octet == 32) text i 0 (omega arith)))

pub split_parts_of : (text : List ℕ) (r : Option (Bor (List ℕ) × Bor (List ℕ))) → IsSplitOnceResult 32 text r → SplitsAtSpace text r
split_parts_of text None split = nowhere text (split_once_first 32 text None split (omega arith))
split_parts_of text (Some x) split =
    let first = split_once_first 32 text (Some x) split (omega arith) in
    rw (first.1, first.2) (slice_split_first (λ octet. octet == 32) text 0 first.0)

pub split_shorter : (text : List ℕ) (r : Option (Bor (List ℕ) × Bor (List ℕ))) → IsSplitOnceResult 32 text r → IfSome r (λ x. length x.1.now < length text)
split_shorter text None split = tt
split_shorter text (Some x) split =
    let first = split_once_first 32 text (Some x) split (omega arith) in
    rw first.2 (omega (arith, first.0, length-drop (position_or_len (λ octet. octet == 32) text + 1) text))
