-- How many messages of a log without a block have hashes that pass a test.
use Rattle.std.proofs.Common.{◌≡◌, ℕ, ◌+◌, Bool, cond, ◌&&◌, List, [], ◌∷◌, length, map, filter, refl, sym, ap, ◌∙◌, arith}
use Rattle.std.specs.Prelude.{count_by}
use Rattle.std.specs.List.{enumerate_from, filter_map, cons_option}
use Rattle.std.proofs.lemmas.List.{length-map}
use Rattle.std.proofs.lemmas.List.Sums.{length-filter}
use Rattle.ss_block.specs.declared.hash.HashPair.{HashPair}
use Rattle.ss_block.specs.declared.reading.Reading.{Reading}
use Rattle.ss_block.specs.declared.reading.Reading.TheVariants as readings
use Rattle.ss_block.specs.Reading.{reading}
use Rattle.ss_block.specs.Hashes.{pair}
use Rattle.ss_review.specs.declared.keep.message.NormalMessage.{NormalMessage}
use Rattle.ss_review.specs.keep.Notes.{Note, noted, note, notes}
use Rattle.ss_review.specs.keep.Contents.{normal_at, normals}
use Rattle.ss_review.specs.assign.Assigned.{same_pair, places_with}
use Rattle.ss_review.specs.deliveries.Delivery.{is_normal}
use Rattle.ss_review.proofs.of_lists.Counting.{count_by-cons}

module _ (test : HashPair → Bool) where
  abbrev passes : NormalMessage → Bool
  passes m = test m.pair

  abbrev passes_text : List ℕ → Bool
  passes_text text = is_normal (note text) && test (pair text)

  one_more : (place : ℕ) (text : List ℕ) (r : Reading) (ms : List NormalMessage)
      → count_by passes (cons_option (normal_at place (noted text r)) ms) ≡ cond (is_normal (noted text r) && test (pair text)) 1 0 + count_by passes ms
  one_more place text readings.Plain ms = count_by-cons passes (record { place = place; pair = pair text }) ms
  one_more place text (readings.Unparsed part pos) ms = count_by-cons passes (record { place = place; pair = pair text }) ms
  one_more place text (readings.Signature b) ms = omega arith
  one_more place text (readings.Certificate b) ms = omega arith
  one_more place text (readings.Spoilt cause) ms = omega arith

  more : (place : ℕ) (text : List ℕ) (ms : List NormalMessage)
      → count_by passes (cons_option (normal_at place (note text)) ms) ≡ cond (passes_text text) 1 0 + count_by passes ms
  unfolding note
  more place text ms = one_more place text (reading text) ms

  counted_from : (place : ℕ) (log : List (List ℕ)) → count_by passes (filter_map (λ (n : ℕ × Note). normal_at n.0 n.1) (enumerate_from place (map note log))) ≡ count_by passes_text log
  counted_from place [] = refl
  counted_from place (text ∷ log) =
      more place text (filter_map (λ (n : ℕ × Note). normal_at n.0 n.1) (enumerate_from (place + 1) (map note log)))
      ∙ ap (λ n. cond (passes_text text) 1 0 + n) (counted_from (place + 1) log)
      ∙ sym (count_by-cons passes_text text log)

  pub normal_counts : (log : List (List ℕ)) → count_by passes (normals (notes log)) ≡ count_by passes_text log
  unfolding normals
  normal_counts log = counted_from 0 log

pub length-places_with : (ms : List NormalMessage) (p : HashPair) → length (places_with ms p) ≡ count_by (λ (m : NormalMessage). same_pair m.pair p) ms
unfolding places_with
length-places_with ms p =
    length-map (filter (λ (m : NormalMessage). same_pair m.pair p) ms) (λ (m : NormalMessage). m.place)
    ∙ length-filter (λ (m : NormalMessage). same_pair m.pair p) ms
