-- Whether some stored message has the two hashes of a message.
use Rattle.std.proofs.Common.{◌≡◌, ℕ, ◌<◌, true, List, length, refl, sym, ap, ◌∙◌}
use Rattle.std.specs.Prelude.{◌↔◌, Option, Some, option_map, slice_get}
use Rattle.std.proofs.lemmas.Bool.{lt-ltb, ltb-true}
use Rattle.std.proofs.lemmas.Option.{slice_get-map}
use Rattle.ss_block.specs.declared.hash.HashPair.{HashPair}
use Rattle.ss_block.specs.declared.reading.Reading.{Reading}
use Rattle.ss_block.specs.declared.reading.Reading.TheVariants as readings
use Rattle.ss_block.specs.Hashes.{pair}
use Rattle.ss_block.specs.Reading.{reading}
use Rattle.ss_review.specs.declared.keep.message.NormalMessage.{NormalMessage}
use Rattle.ss_review.specs.keep.Notes.{Note, Normal, noted, note, notes}
use Rattle.ss_review.specs.assign.Assigned.{same_pair, places_with}
use Rattle.ss_review.specs.deliveries.Delivery.{is_normal}
use Rattle.ss_review.specs.deliveries.DeliveryLaws.{Case, normals_in, IsStored}
use Rattle.ss_review.proofs.of_lists.Counting.{same_pair-is, same_itself}
use Rattle.ss_review.proofs.of_assignment.DifferentPairs.{any_place}
use Rattle.ss_review.proofs.of_lists.Keyed.{has-slice_get, slice_get-has}
use Rattle.ss_octets.proofs.Members.{has_from_contains, contains_from_has}
use Rattle.ss_review.proofs.of_kept_messages.NotesTold.{has-normal}
use Rattle.ss_review.proofs.of_lists.Tests.{any_member, member_any}
use Rattle.ss_review.proofs.of_reports.Witnesses.{stored_normal}

noted_pair : (m : List ℕ) (r : Reading) → is_normal (noted m r) ≡ true → noted m r ≡ Normal (pair m)
noted_pair m readings.Plain e = refl
noted_pair m (readings.Unparsed part pos) e = refl
noted_pair m (readings.Signature b) e = absurd (cc)
noted_pair m (readings.Certificate b) e = absurd (cc)
noted_pair m (readings.Spoilt cause) e = absurd (cc)

-- of a message without a block its hashes are noted
normal_note : (m : List ℕ) → is_normal (note m) ≡ true → note m ≡ Normal (pair m)
unfolding note
normal_note m e = noted_pair m (reading m) e

module _ (x : Case) (m : List ℕ) where
  abbrev many : ℕ
  many = length (places_with (normals_in x) (pair m))

  stored : 0 < many → IsStored x m
  stored some =
      let w = any_member (λ (n : NormalMessage). same_pair n.pair (pair m)) (normals_in x) (sym (any_place (pair m) (normals_in x)) ∙ lt-ltb 0 many some) in
      let t = stored_normal x.log w.0 w.1 in
      record {
        message = t.0;
        stored = contains_from_has x.log t.0 (has-slice_get x.log w.0.place t.0 t.1);
        no_block = ap is_normal t.2;
        pair_is = t.3 ∙ same_pair-is w.0.pair (pair m) w.2;
      }

  placed : IsStored x m → 0 < many
  placed s =
      let at = slice_get-has x.log s.message (has_from_contains x.log s.message s.stored) in
      let n : NormalMessage = record { place = at.0; pair = pair m } in
      let noted_so : slice_get (notes x.log) at.0 ≡ Some (Normal (pair m))
      = slice_get-map note x.log at.0 ∙ ap (λ (o : Option (List ℕ)). option_map note o) at.1
      ∙ ap (λ (k : Note). Some k) (normal_note s.message s.no_block ∙ ap (λ (p : HashPair). Normal p) s.pair_is) in
      ltb-true 0 many
      (any_place (pair m) (normals_in x)
      ∙ member_any (λ (n : NormalMessage). same_pair n.pair (pair m)) (normals_in x) n (has-normal (notes x.log) n noted_so) (same_itself (pair m)))

  -- there is a place with its hashes exactly where a message without a block that is stored has them
  pub places_stored : (0 < length (places_with (normals_in x) (pair m))) ↔ IsStored x m
  places_stored = (stored, placed)
