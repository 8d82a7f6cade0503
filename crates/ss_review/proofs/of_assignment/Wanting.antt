-- What a key wants, by the one hash that is announced for it.
use Rattle.std.proofs.Common.{◌≡◌, List, [], ◌∷◌, map, refl, ◌∙◌}
use Rattle.std.proofs.lemmas.Simd.{map-map}
use Rattle.ss_block.specs.declared.hash.Hash.{Hash}
use Rattle.ss_review.specs.declared.keep.message.NormalMessage.{NormalMessage}
use Rattle.ss_review.specs.announced.Announced.{Key, Row, keys, hashes_for}
use Rattle.ss_review.specs.assign.Assigned.{wanted_with, wanted, assigned}
use Rattle.ss_review.specs.assign.Assigning.{pair_wanted, assigned_all}
use Rattle.ss_review.specs.announced.Numbered.{only_hash, only_hashes}
use Rattle.ss_review.proofs.of_lists.Counting.{all_assigned}

only_wanted : (ms : List NormalMessage) (hs : List Hash) → pair_wanted ms (only_hash hs) ≡ wanted_with ms hs
only_wanted ms [] = refl
only_wanted ms (h ∷ []) = refl
only_wanted ms (h ∷ g ∷ hs) = refl

-- a key wants the hashes of the bearer of its only hash, where it has one only
pub wanted_is : (ms : List NormalMessage) (rs : List Row) (k : Key) → pair_wanted ms (only_hash (hashes_for rs k)) ≡ wanted ms rs k
unfolding wanted
wanted_is ms rs k = only_wanted ms (hashes_for rs k)

-- the places that all keys are assigned, from the only hash of each
pub assigned_is : (ms : List NormalMessage) (rs : List Row) → assigned_all ms (only_hashes rs) ≡ map (assigned ms rs) (keys rs)
assigned_is ms rs =
    all_assigned ms rs (only_hashes rs)
    (map-map (pair_wanted ms) (λ k. only_hash (hashes_for rs k)) (keys rs) ∙ (λ i. map (λ k. wanted_is ms rs k i) (keys rs)))
