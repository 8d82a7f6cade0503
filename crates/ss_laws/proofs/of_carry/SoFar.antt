-- The files of all nights are the whole.
use Rattle.std.proofs.Common.{◌≡◌, ℕ, ◌<◌, ◌≤◌, Bool, true, List, length, filter, sym, ap, ◌∙◌, arith}
use Rattle.std.specs.Prelude.{count_by, nat_le}
use Rattle.std.specs.List.{range_with_len}
use Rattle.std.proofs.lemmas.Bool.{le-leb}
use Rattle.std.proofs.lemmas.List.FromFn.{length-range_with_len}
use Rattle.std.proofs.lemmas.Option.{slice_get_within}
use Rattle.ss_review.specs.declared.keep.message.NormalMessage.{NormalMessage}
use Rattle.ss_review.specs.keep.BlockMessage.{BlockMessage}
use Rattle.ss_review.specs.declared.keep.spoilt.SpoiltPlace.{SpoiltPlace}
use Rattle.ss_review.specs.keep.Notes.{Note, Normal, Block, Spoilt, notes}
use Rattle.ss_review.specs.keep.Contents.{Contents, normals, blocks, spoilts, contents}
use Rattle.ss_review.proofs.of_lists.EqualCounts.{count_by-all}
use Rattle.ss_review.proofs.of_kept_messages.NotesTold.{normal_noted, block_noted, spoilt_noted}
use Rattle.ss_review.proofs.of_lists.Rising.{all_below}
use Rattle.ss_review.proofs.of_lists.Sections.{keeps_all}
use Rattle.ss_review.proofs.of_lists.Sums.{count_by-same}
use Rattle.ss_review.proofs.of_lists.Tests.{from_in_range}
use Rattle.ss_laws.specs.carry.Nights.{Nights, at_places, so_far}

module _ (is : ℕ → Bool) (ns : List Note) (all : (place : ℕ) → place < length ns → is place ≡ true) where
  all_normals : filter (λ (m : NormalMessage). is m.place) (normals ns) ≡ normals ns
  all_normals =
      keeps_all (λ (m : NormalMessage). is m.place) (normals ns)
      (all_below (λ (m : NormalMessage). is m.place ≡ true) (normals ns) (λ m h. all m.place (slice_get_within ns m.place (Normal m.pair) (normal_noted ns m h))))

  all_blocks : filter (λ (b : BlockMessage). is b.place) (blocks ns) ≡ blocks ns
  all_blocks =
      keeps_all (λ (b : BlockMessage). is b.place) (blocks ns)
      (all_below (λ (b : BlockMessage). is b.place ≡ true) (blocks ns) (λ b h.
      (let w = block_noted ns b h in all b.place (slice_get_within ns b.place (Block w.0) w.1))))

  all_spoilts : filter (λ (s : SpoiltPlace). is s.place) (spoilts ns) ≡ spoilts ns
  all_spoilts =
      keeps_all (λ (s : SpoiltPlace). is s.place) (spoilts ns)
      (all_below (λ (s : SpoiltPlace). is s.place ≡ true) (spoilts ns) (λ s h. all s.place (slice_get_within ns s.place (Spoilt s.cause) (spoilt_noted ns s h))))

  all_places : count_by is (range_with_len 0 (length ns)) ≡ length ns
  all_places =
      count_by-same is (λ place. true) (range_with_len 0 (length ns)) (λ place h. all place (omega (arith, (from_in_range 0 (length ns) place h).1)))
      ∙ count_by-all (range_with_len 0 (length ns))
      ∙ length-range_with_len 0 (length ns)

  all_at_places : at_places is (contents ns) ≡ contents ns
  all_at_places = λ i. record { normal = all_normals i; blocks = all_blocks i; spoilt = all_spoilts i; count = all_places i }

pub whole_so_far : (x : Nights) (last : ℕ) (log : List (List ℕ)) → x.whole ≡ contents (notes log)
    → ((place : ℕ) → place < x.whole.count → x.file place ≤ last) → so_far x last ≡ x.whole
whole_so_far x last log e within =
    let is = λ (place : ℕ). nat_le (x.file place) last in
    let count : x.whole.count ≡ length (notes log) = ap (λ (c : Contents). c.count) e in
    ap (at_places is) e
    ∙ all_at_places is (notes log) (λ place below. le-leb (x.file place) last (within place (omega (arith, below, count))))
    ∙ sym e
