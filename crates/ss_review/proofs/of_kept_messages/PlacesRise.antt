-- The messages of each kind stand in the order of their places.
use Rattle.std.proofs.Common.{◌≡◌, ℕ, ◌+◌, ◌≤◌, List, [], ◌∷◌, map, refl, arith}
use Rattle.std.specs.Prelude.{Option, Some, None}
use Rattle.std.specs.declared.cmp.Ordering.TheVariants.{Less}
use Rattle.std.specs.Ordering.{nat_cmp}
use Rattle.std.specs.List.{enumerate_from, filter_map, cons_option}
use Rattle.std.specs.List.Sorted.{IsStrictlySortedBy}
use Rattle.ss_review.specs.declared.keep.message.NormalMessage.{NormalMessage}
use Rattle.ss_review.specs.keep.BlockMessage.{BlockMessage}
use Rattle.ss_review.specs.declared.keep.spoilt.SpoiltPlace.{SpoiltPlace}
use Rattle.ss_review.specs.keep.Notes.{Note}
use Rattle.ss_review.specs.keep.Contents.{normal_at, block_at, spoilt_at, normals, blocks, spoilts}
use Rattle.ss_review.proofs.of_numbers.Announcements.{numbered_from}
use Rattle.ss_review.proofs.of_lists.Keyed.{less}
use Rattle.ss_octets.proofs.Members.{Has, from_has-map, from_has-filter_map}
use Rattle.ss_review.proofs.of_kept_messages.NotesTold.{normal_place, block_place, spoilt_place}
use Rattle.ss_review.proofs.of_lists.Rising.{all_below}

module _ {Y : Type 0} (f : ℕ × Note → Option Y) (place : Y → ℕ) (told : (n : ℕ × Note) (y : Y) → f n ≡ Some y → place y ≡ n.0) where
  not_before : (k : ℕ) (ns : List Note) (y : Y) → Has (filter_map f (enumerate_from k ns)) y → k ≤ place y
  not_before k ns y h =
      let w : (n : ℕ × Note) × Has (enumerate_from k ns) n × (f n ≡ Some y) = from_has-filter_map f (enumerate_from k ns) y h in
      let i = numbered_from k ns w.0 w.1 in
      omega (arith, told w.0 y w.2, i.1)

  rise_at : (o : Option Y) (k : ℕ) (n : Note) (ns : List Note) → f (k, n) ≡ o → IsStrictlySortedBy nat_cmp (map place (filter_map f (enumerate_from (k + 1) ns))) → IsStrictlySortedBy nat_cmp (map place (cons_option o (filter_map f (enumerate_from (k + 1) ns))))
  unfolding IsStrictlySortedBy
  rise_at None k n ns e up = up
  rise_at (Some y) k n ns e up = (
    all_below (λ p. nat_cmp (place y) p ≡ Less) (map place (filter_map f (enumerate_from (k + 1) ns))) (λ p h.
        (let w = from_has-map place (filter_map f (enumerate_from (k + 1) ns)) p h in
        less (place y) p (omega (arith, told (k, n) y e, not_before (k + 1) ns w.0 w.1, w.2)))),
    up,
  )

  pub places_rise : (k : ℕ) (ns : List Note) → IsStrictlySortedBy nat_cmp (map place (filter_map f (enumerate_from k ns)))
  unfolding IsStrictlySortedBy
  places_rise k [] = tt
  places_rise k (n ∷ ns) = rise_at (f (k, n)) k n ns refl (places_rise (k + 1) ns)

pub normals_rise : (ns : List Note) → IsStrictlySortedBy nat_cmp (map (λ (m : NormalMessage). m.place) (normals ns))
unfolding normals
normals_rise ns = places_rise (λ (n : ℕ × Note). normal_at n.0 n.1) (λ (m : NormalMessage). m.place) (λ n y e. normal_place n.0 n.1 y e) 0 ns

pub blocks_rise : (ns : List Note) → IsStrictlySortedBy nat_cmp (map (λ (b : BlockMessage). b.place) (blocks ns))
unfolding blocks
blocks_rise ns = places_rise (λ (n : ℕ × Note). block_at n.0 n.1) (λ (b : BlockMessage). b.place) (λ n y e. block_place n.0 n.1 y e) 0 ns

pub spoilts_rise : (ns : List Note) → IsStrictlySortedBy nat_cmp (map (λ (s : SpoiltPlace). s.place) (spoilts ns))
unfolding spoilts
spoilts_rise ns = places_rise (λ (n : ℕ × Note). spoilt_at n.0 n.1) (λ (s : SpoiltPlace). s.place) (λ n y e. spoilt_place n.0 n.1 y e) 0 ns
