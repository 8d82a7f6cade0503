-- The rows of blocks, as a review collects them.
use Rattle.std.proofs.Common.{◌≡◌, List, [], ◌∷◌, ◌++◌, map, ap, ◌∙◌}
use Rattle.std.specs.List.{flat_map}
use Rattle.std.specs.List.Sorted.{IsPermutation}
use Rattle.std.proofs.lemmas.List.{map-append, append_assoc}
use Rattle.std.proofs.lemmas.List.Sorted.{Contains-permutation, IsPermutation-sym}
use Rattle.ss_review.specs.declared.announced.announced_hash.AnnouncedHash as row
use Rattle.ss_review.specs.announced.Announced.{Row, row_cmp}
use Rattle.ss_review.specs.declared.sessions.joined_session.JoinedSession.{JoinedSession}
use Rattle.ss_review.specs.announced.Indexed.{row_at}
use Rattle.ss_review.specs.Ordered.{in_order}
use Rattle.ss_octets.proofs.Members.{Has, has_from_contains, contains_from_has, has-flat_map, from_has-flat_map}
use Rattle.ss_review.proofs.of_lists.Rising.{in_order_same}
use Rattle.ss_review.proofs.of_lists.TotalOrders.{row_cmp_total, row_cmp_exact}

-- one more row before others
pub row_more : (js : List JoinedSession) (rs : List row.AnnouncedHash) (r : row.AnnouncedHash) (others : List Row) → map (row_at js) (rs ++ r ∷ []) ++ others ≡ map (row_at js) rs ++ row_at js r ∷ others
row_more js rs r others = ap (λ qs. qs ++ others) (map-append (row_at js) rs (r ∷ [])) ∙ append_assoc (map (row_at js) rs) (row_at js r ∷ []) others

-- the rows of blocks in another order are the same in order
moved : {X : Type 0} (f : X → List Row) (xs ys : List X) → IsPermutation xs ys → (q : Row) → Has (flat_map f xs) q → Has (flat_map f ys) q
moved {X} f xs ys p q h =
    let w : (x : X) × Has xs x × Has (f x) q = from_has-flat_map f xs q h in
    has-flat_map f ys w.0 q (has_from_contains ys w.0 (Contains-permutation xs ys w.0 p (contains_from_has xs w.0 w.1))) w.2

pub rows_stay : {X : Type 0} (f : X → List Row) (xs ys : List X) → IsPermutation xs ys → in_order row_cmp (flat_map f ys) ≡ in_order row_cmp (flat_map f xs)
rows_stay f xs ys p = in_order_same row_cmp_total row_cmp_exact (flat_map f ys) (flat_map f xs) (moved f ys xs (IsPermutation-sym xs ys p)) (moved f xs ys p)
