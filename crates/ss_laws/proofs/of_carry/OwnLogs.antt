-- The log that a night reviews, as a log of its own: what is carried over of both is the same, at the places of each.
use Rattle.std.proofs.Common.{◌≡◌, ◌⊎◌, inl, inr, ℕ, zero, suc, ◌<◌, List, [], ◌∷◌, ◌++◌, length, map, refl, sym, ap, ◌∙◌, subst, arith}
use Rattle.std.specs.Prelude.{slice_index}
use Rattle.std.specs.declared.cmp.Ordering.TheVariants.{Less}
use Rattle.std.specs.List.Sorted.{IsStrictlySortedBy}
use Rattle.std.specs.Ordering.{nat_cmp}
use Rattle.std.proofs.lemmas.List.{length-map}
use Rattle.std.proofs.lemmas.Option.{slice_get_within}
use Rattle.ss_review.specs.declared.keep.message.NormalMessage.{NormalMessage}
use Rattle.ss_review.specs.keep.BlockMessage.{BlockMessage}
use Rattle.ss_review.specs.declared.report.report.Report.{Report}
use Rattle.ss_review.specs.keep.Notes.{Normal, Block, note, notes}
use Rattle.ss_review.specs.keep.Contents.{normals, blocks, contents}
use Rattle.ss_laws.specs.parts.Parts.{blocks_of, moved, messages_of, places_of}
use Rattle.ss_review.specs.report.Report.{report_of}
use Rattle.ss_review.specs.sessions.Verified.{Answers}
use Rattle.ss_octets.proofs.Members.{Has, has_from_contains, contains_from_has, all-has}
use Rattle.ss_review.proofs.of_reports.Leftovers.{refused_are}
use Rattle.ss_review.proofs.of_lists.Keyed.{from_less}
use Rattle.ss_review.proofs.of_kept_messages.NotesTold.{normal_noted, block_noted}
use Rattle.ss_review.proofs.of_lists.Rising.{from_has-in_order}
use Rattle.std.specs.Cmp.{nat_cmp_total}
use Rattle.std.proofs.lemmas.Map.Lookups.{exact_unsigned}
use Rattle.ss_report.specs.runs.Carrying as carrying
use Rattle.ss_report.specs.runs.Carrying.{carried_by, carried, is_unjudged, is_first_certificate, has_gap}
use Rattle.ss_laws.proofs.of_carry.CarriedMoved.{carried_moved}
use Rattle.ss_laws.proofs.of_carry.CarriedEnough.{carried_places}
use Rattle.ss_laws.proofs.of_carry.ToldApart.{notes_apart}
use Rattle.ss_laws.proofs.of_parts.Places.{places_rise, as_many}
use Rattle.ss_laws.proofs.of_parts.PartTexts.{own_blocks}

-- ---- a part as a log of its own

-- the places of a list that rises, by their index
member_at : (ps : List ℕ) (q : ℕ) → q < length ps → Has ps (slice_index ps q)
member_at [] q below = absurd (omega (arith, below))
member_at (p ∷ ps) zero below = inl refl
member_at (p ∷ ps) (suc q) below = inr (member_at ps q (omega (arith, below)))

index_rises : (ps : List ℕ) → IsStrictlySortedBy nat_cmp ps → (p q : ℕ) → p < q → q < length ps → slice_index ps p < slice_index ps q
unfolding IsStrictlySortedBy
index_rises [] up p q low high = absurd (omega (arith, high))
index_rises (k ∷ ps) up p zero low high = absurd (omega (arith, low))
index_rises (k ∷ ps) up zero (suc q) low high =
    from_less k (slice_index ps q) (all-has (λ z. nat_cmp k z ≡ Less) ps (slice_index ps q) up.0 (member_at ps q (omega (arith, high))))
index_rises (k ∷ ps) up (suc p) (suc q) low high = index_rises ps up.1 p q (omega (arith, low)) (omega (arith, high))

module _ (part : ℕ → ℕ) (k : ℕ) (log : List (List ℕ)) where
  abbrev pub own : List (List ℕ)
  own = messages_of part k log

  abbrev pub there : ℕ → ℕ
  there = slice_index (places_of part k log)

  pub own_rises : (p q : ℕ) → p < q → q < length (messages_of part k log) → slice_index (places_of part k log) p < slice_index (places_of part k log) q
  own_rises p q low high = index_rises (places_of part k log) (places_rise part k log) p q low (let many = as_many part k log in omega (arith, high, many))

  module _ (says : Answers) where
    abbrev r : Report
    r = report_of says (contents (notes own))

    block_within : (b : BlockMessage) → Has (blocks (notes (messages_of part k log))) b → b.place < length (messages_of part k log)
    block_within b h =
        let w = block_noted (notes own) b h in
        let below = slice_get_within (notes own) b.place (Block w.0) w.1 in
        let long = length-map own note in
        omega (arith, below, long)

    normal_within : (m : NormalMessage) → Has (normals (notes (messages_of part k log))) m → m.place < length (messages_of part k log)
    normal_within m h =
        let below = slice_get_within (notes own) m.place (Normal m.pair) (normal_noted (notes own) m h) in
        let long = length-map own note in
        omega (arith, below, long)

    refused_within : (p : ℕ) → Has (report_of says (contents (notes (messages_of part k log)))).refused p → p < length (messages_of part k log)
    refused_within p h =
        let w = (refused_are says (contents (notes own)) p).0 (contains_from_has r.refused p h) in
        subst (λ q. q < length own) w.2 (block_within w.0 (has_from_contains (blocks (notes own)) w.0 w.1))

    all_within : (p : ℕ) → ((b : BlockMessage) × Has (blocks (notes (messages_of part k log))) b × (b.place ≡ p))
        ⊎ ((m : NormalMessage) × Has (normals (notes (messages_of part k log))) m × (m.place ≡ p)) → p < length (messages_of part k log)
    all_within p (inl w) = subst (λ q. q < length own) w.2 (block_within w.0 w.1)
    all_within p (inr w) = subst (λ q. q < length own) w.2 (normal_within w.0 w.1)

    pub carried_there : carried_by (moved (slice_index (places_of part k log)) (report_of says (contents (notes (messages_of part k log))))) (blocks_of part k (blocks (notes log)))
        ≡ map (slice_index (places_of part k log)) (carried says (messages_of part k log))
    carried_there =
        ap (carried_by (moved there r)) (sym (own_blocks part k log))
        ∙ carried_moved there r (length own) own_rises (blocks (notes own)) block_within refused_within
        (λ p h. all_within p (carried_places says (contents (notes own)) (notes_apart (notes own)) p h))

    -- what is carried over is within the log
    pub carried_within : (p : ℕ) → Has (carried says (messages_of part k log)) p → p < length (messages_of part k log)
    unfolding carried_by
    carried_within p h =
        all_within p (carried_places says (contents (notes own)) (notes_apart (notes own)) p
        (from_has-in_order nat_cmp_total exact_unsigned p
        (carrying.unjudged r (blocks (notes own)) ++ carrying.certificates r (blocks (notes own)) ++ carrying.gaps r (blocks (notes own)) ++ carrying.listed r (blocks (notes own)) ++ r.unlisted) h))
