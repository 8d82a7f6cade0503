-- A part as a log of its own has the messages that the part has in the whole, at places that rise as theirs do.
use Rattle.std.proofs.Common.{◌≡◌, ℕ, suc, ◌+◌, ◌<◌, ◌==◌, Bool, true, false, cond, List, [], ◌∷◌, length, get_or, map, filter, refl, sym, ap, ◌∙◌, subst, arith}
use Rattle.std.specs.Prelude.{Option, Some, None, option_map, count_by, slice_index}
use Rattle.std.specs.List.{enumerate_from, filter_map, cons_option, range_with_len}
use Rattle.std.proofs.lemmas.Cmp.{nat_cmp_total}
use Rattle.std.proofs.lemmas.List.{length-map}
use Rattle.std.proofs.lemmas.List.Sums.{length-filter}
use Rattle.std.proofs.lemmas.Map.Lookups.{exact_unsigned}
use Rattle.std.proofs.lemmas.Option.{slice_get_within, slice_get-get_or}
use Rattle.ss_review.specs.declared.keep.message.NormalMessage.{NormalMessage}
use Rattle.ss_review.specs.keep.BlockMessage.{BlockMessage}
use Rattle.ss_review.specs.declared.keep.spoilt.SpoiltPlace.{SpoiltPlace}
use Rattle.ss_review.specs.keep.Notes.{Note, Normal, notes}
use Rattle.ss_review.specs.keep.Contents.{normal_at, block_at, spoilt_at, normals, blocks, spoilts, contents}
use Rattle.ss_review.specs.sessions.Verified.{Answers}
use Rattle.ss_review.specs.report.Report.{report_of}
use Rattle.ss_laws.specs.parts.Parts.{moved_spoilt, moved, normals_of, blocks_of, spoilts_of, part_of, placed_of, messages_of, places_of, report_of_part}
use Rattle.ss_review.proofs.of_lists.Counting.{count_by-map}
use Rattle.ss_review.proofs.of_lists.Keyed.{one_index}
use Rattle.ss_review.proofs.of_lists.Mapped.{map-cons_option}
use Rattle.ss_laws.proofs.of_parts.MovedBlocks.{moved_block}
use Rattle.ss_laws.proofs.of_parts.MovedReports.{moved_normal, moved_log, KeepsApart, report_moved}
use Rattle.ss_review.proofs.of_kept_messages.NotesTold.{normal_place, block_place, spoilt_place, normal_noted}
use Rattle.ss_laws.proofs.of_parts.Moves.{normal_moves, block_moves, spoilt_moves}
use Rattle.ss_laws.proofs.of_parts.Places.{enumerated, places_rise, as_many, same_places, same_messages}

-- ---- what notes become, at other places

module _ {Y : Type 0} (at : ℕ → Note → Option Y) (move : (ℕ → ℕ) → Y → Y) (place : Y → ℕ)
    (moves : (f : ℕ → ℕ) (p : ℕ) (n : Note) → option_map (move f) (at p n) ≡ at (f p) n)
    (told : (p : ℕ) (n : Note) (y : Y) → at p n ≡ Some y → place y ≡ p) where
  abbrev tell : ℕ × Note → Option Y
  tell n = at n.0 n.1

  abbrev places : List (ℕ × Note) → List ℕ
  places own = map (λ (n : ℕ × Note). n.0) own

  abbrev messages : List (ℕ × Note) → List Note
  messages own = map (λ (n : ℕ × Note). n.1) own

  renumbered : (f : ℕ → ℕ) (i : ℕ) (own : List (ℕ × Note)) → ((j : ℕ) → j < length own → f (i + j) ≡ get_or (places own) j 0)
      → map (move f) (filter_map tell (enumerate_from i (messages own))) ≡ filter_map tell own
  renumbered f i [] e = refl
  renumbered f i (x ∷ own) e =
      let start : i ≡ i + 0 = omega arith in
      let here : f i ≡ x.0 = ap f start ∙ e 0 (omega arith) in
      map-cons_option (move f) (at i x.1) (filter_map tell (enumerate_from (i + 1) (messages own)))
      ∙ ap (λ o. cons_option o (map (move f) (filter_map tell (enumerate_from (i + 1) (messages own))))) (moves f i x.1 ∙ ap (λ p. at p x.1) here)
      ∙ ap (cons_option (at x.0 x.1)) (renumbered f (i + 1) own (λ j below. (let next : i + 1 + j ≡ i + suc j = omega arith in ap f next ∙ e (suc j) (omega arith))))

  module _ (part : ℕ → ℕ) (k : ℕ) where
    abbrev is_own : Y → Bool
    is_own y = part (place y) == k

    with_own : (x : ℕ × Note) (o : Option Y) (ys zs : List Y) → (part x.0 == k) ≡ true → tell x ≡ o → zs ≡ filter is_own ys → cons_option o zs ≡ filter is_own (cons_option o ys)
    with_own x None ys zs t e same = same
    with_own x (Some y) ys zs t e same =
        let own : is_own y ≡ true = ap (λ p. part p == k) (told x.0 x.1 y e) ∙ t in
        ap (λ ws. y ∷ ws) same ∙ ap (λ b. cond b (y ∷ filter is_own ys) (filter is_own ys)) (sym own)

    without : (x : ℕ × Note) (o : Option Y) (ys zs : List Y) → (part x.0 == k) ≡ false → tell x ≡ o → zs ≡ filter is_own ys → zs ≡ filter is_own (cons_option o ys)
    without x None ys zs t e same = same
    without x (Some y) ys zs t e same =
        let other : is_own y ≡ false = ap (λ p. part p == k) (told x.0 x.1 y e) ∙ t in
        same ∙ ap (λ b. cond b (y ∷ filter is_own ys) (filter is_own ys)) (sym other)

    own_at : (b : Bool) (x : ℕ × Note) (own : List (ℕ × Note)) (ys : List Y) → (part x.0 == k) ≡ b → filter_map tell own ≡ filter is_own ys → filter_map tell (cond b (x ∷ own) own) ≡ filter is_own (cons_option (tell x) ys)
    own_at true x own ys t e = with_own x (tell x) ys (filter_map tell own) t refl e
    own_at false x own ys t e = without x (tell x) ys (filter_map tell own) t refl e

    kept : (xs : List (ℕ × Note)) → filter_map tell (filter (λ (n : ℕ × Note). part n.0 == k) xs) ≡ filter is_own (filter_map tell xs)
    kept [] = refl
    kept (x ∷ xs) = own_at (part x.0 == k) x (filter (λ (n : ℕ × Note). part n.0 == k) xs) (filter_map tell xs) refl (kept xs)

    pub told_of_part : (ns : List Note) → map (move (slice_index (places_of part k ns))) (filter_map tell (enumerate_from 0 (messages_of part k ns))) ≡ filter is_own (filter_map tell (enumerate_from 0 ns))
    told_of_part ns =
        renumbered (slice_index (places_of part k ns)) 0 (placed_of part k ns) (λ j below. (let start : 0 + j ≡ j = omega arith in ap (slice_index (places_of part k ns)) start))
        ∙ kept (enumerate_from 0 ns)

-- ---- places

module _ (part : ℕ → ℕ) (k : ℕ) (ns : List Note) where
  abbrev there : ℕ → ℕ
  there = slice_index (places_of part k ns)

  apart : KeepsApart there (normals (messages_of part k ns))
  apart m n h i e =
      let first : m.place < length (places_of part k ns) = subst (λ l. m.place < l) (as_many part k ns) (slice_get_within (messages_of part k ns) m.place (Normal m.pair) (normal_noted (messages_of part k ns) m h)) in
      let second : n.place < length (places_of part k ns) = subst (λ l. n.place < l) (as_many part k ns) (slice_get_within (messages_of part k ns) n.place (Normal n.pair) (normal_noted (messages_of part k ns) n i)) in
      one_index nat_cmp_total exact_unsigned (places_of part k ns) (places_rise part k ns) m.place n.place (there m.place)
      (slice_get-get_or (places_of part k ns) m.place 0 first)
      (slice_get-get_or (places_of part k ns) n.place 0 second ∙ ap (λ (p : ℕ). Some p) (sym e))

  -- ---- messages

  same_normals : map (moved_normal there) (normals (messages_of part k ns)) ≡ normals_of part k (normals ns)
  unfolding normals
  same_normals = told_of_part normal_at moved_normal (λ (m : NormalMessage). m.place) normal_moves normal_place part k ns

  same_blocks : map (moved_block there) (blocks (messages_of part k ns)) ≡ blocks_of part k (blocks ns)
  unfolding blocks
  same_blocks = told_of_part block_at moved_block (λ (b : BlockMessage). b.place) block_moves block_place part k ns

  same_spoilts : map (moved_spoilt there) (spoilts (messages_of part k ns)) ≡ spoilts_of part k (spoilts ns)
  unfolding spoilts
  same_spoilts = told_of_part spoilt_at moved_spoilt (λ (s : SpoiltPlace). s.place) spoilt_moves spoilt_place part k ns

  same_count : length (messages_of part k ns) ≡ count_by (λ p. part p == k) (range_with_len 0 (length ns))
  same_count =
      length-map (placed_of part k ns) (λ (n : ℕ × Note). n.1)
      ∙ length-filter (λ (n : ℕ × Note). part n.0 == k) (enumerate_from 0 ns)
      ∙ sym (count_by-map (λ p. part p == k) (λ (n : ℕ × Note). n.0) (enumerate_from 0 ns))
      ∙ ap (count_by (λ p. part p == k)) (enumerated 0 ns)

  contents_of_part : moved_log there (contents (messages_of part k ns)) ≡ part_of part k (contents ns)
  contents_of_part = λ i. record { normal = same_normals i; blocks = same_blocks i; spoilt = same_spoilts i; count = same_count i }

  pub moved_is_part : (says : Answers) → moved there (report_of says (contents (messages_of part k ns))) ≡ report_of says (part_of part k (contents ns))
  moved_is_part says = sym (report_moved there says (contents (messages_of part k ns)) apart) ∙ ap (report_of says) contents_of_part

-- ---- notes

module _ (part : ℕ → ℕ) (k : ℕ) (log : List (List ℕ)) where
  -- the report of a part, at the places in the whole, is the report of what the part has there
  pub part_told : (says : Answers) → report_of_part says part k log ≡ report_of says (part_of part k (contents (notes log)))
  part_told says =
      (λ i. moved (slice_index (sym (same_places part k log) i)) (report_of says (contents (sym (same_messages part k log) i))))
      ∙ moved_is_part part k (notes log) says
