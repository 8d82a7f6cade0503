-- What is carried over of a log whose messages stand at other places, which rise as theirs do.
use Rattle.std.proofs.Common.{◌≡◌, inl, inr, ℕ, ◌+◌, ◌<◌, ◌==◌, ◌&&◌, ◌||◌, not, Bool, List, [], ◌∷◌, ◌++◌, length, map, filter, refl, sym, ap, ◌∙◌, subst, arith}
use Rattle.std.specs.Prelude.{nat_le, nat_lt, Option, Some, None, option_map}
use Rattle.std.specs.declared.cmp.Ordering.TheVariants.{Less}
use Rattle.std.specs.List.{list_any, flat_map, filter_map, cons_option}
use Rattle.std.specs.List.Sorted.{IsStrictlySortedBy}
use Rattle.std.specs.Ordering.{nat_cmp}
use Rattle.std.specs.Cmp.{nat_cmp_total}
use Rattle.std.proofs.lemmas.Bool.{cases_lt, cases_eq, eqb-true, eq-eqb, lt-ltb, ltb-true}
use Rattle.std.proofs.lemmas.List.{map-append}
use Rattle.std.proofs.lemmas.Map.Lookups.{exact_unsigned}
use Rattle.ss_block.specs.declared.block.Group.{Group}
use Rattle.ss_block.specs.declared.session.Session.{Session}
use Rattle.ss_review.specs.keep.BlockMessage.{BlockMessage, BlockContent, Hashes, Fragment}
use Rattle.ss_review.specs.declared.report.entry.Entry.{Entry}
use Rattle.ss_review.specs.declared.report.entry.Entry.TheVariants as entry
use Rattle.ss_review.specs.declared.report.group_report.GroupReport.{GroupReport}
use Rattle.ss_review.specs.declared.report.session_report.SessionReport.{SessionReport}
use Rattle.ss_review.specs.declared.report.report.Report.{Report}
use Rattle.ss_review.specs.report.Entries.{same_group}
use Rattle.ss_review.specs.report.Extract.{place_listed}
use Rattle.ss_review.specs.report.Meaning.{first_number}
use Rattle.ss_review.specs.Ordered.{in_order}
use Rattle.ss_laws.specs.parts.Parts.{moved_entry, moved_group, moved_session, moved}
use Rattle.ss_review.specs.sessions.Sessions.{same_session}
use Rattle.ss_review.specs.report.Verdict.{is_joined}
use Rattle.ss_octets.proofs.Members.{Has, has-map, from_has-map, all-has}
use Rattle.ss_review.proofs.of_lists.FilteredAlike.{one_test, flat_map-map}
use Rattle.ss_review.proofs.of_lists.Keyed.{less, from_less}
use Rattle.ss_review.proofs.of_lists.Mapped.{map-map, filter-map, map-flat_map, filter_agree}
use Rattle.ss_laws.proofs.of_parts.MovedBlocks.{moved_block}
use Rattle.ss_review.proofs.of_lists.Rising.{all_below, same_members, rises-in_order, has-in_order, from_has-in_order}
use Rattle.ss_report.specs.runs.Carrying as carrying
use Rattle.ss_report.specs.runs.Carrying.{told_of, is_joined_in, entries_in, is_numbered, entries_said, entries_under, places_of, is_refused_in, is_verified_in, has_fragment_at, is_fragment_of, is_first_said, is_gap, is_unjudged, is_first_certificate, has_gap, carried_by}
use Rattle.ss_laws.proofs.of_parts.Lists.{any_agree}

-- ---- lists

any-map : {X Y : Type 0} (p : Y → Bool) (g : X → Y) (xs : List X) → list_any p (map g xs) ≡ list_any (λ x. p (g x)) xs
any-map p g [] = refl
any-map p g (x ∷ xs) = ap (λ b. p (g x) || b) (any-map p g xs)

-- ---- entries at other places

module _ (f : ℕ → ℕ) where
  number_moved : (e : Entry) → first_number (moved_entry f e) ≡ first_number e
  number_moved (entry.Listed number place) = refl
  number_moved (entry.Gap number why) = refl
  number_moved (entry.Hole first last) = refl

  gap_moved : (e : Entry) → is_gap (moved_entry f e) ≡ is_gap e
  gap_moved (entry.Listed number place) = refl
  gap_moved (entry.Gap number why) = refl
  gap_moved (entry.Hole first last) = refl

  place_moved : (e : Entry) → place_listed (moved_entry f e) ≡ option_map f (place_listed e)
  place_moved (entry.Listed number place) = refl
  place_moved (entry.Gap number why) = refl
  place_moved (entry.Hole first last) = refl

  placed_at : (o : Option ℕ) (xs : List Entry) → cons_option (option_map f o) (map f (filter_map place_listed xs)) ≡ map f (cons_option o (filter_map place_listed xs))
  placed_at None xs = refl
  placed_at (Some p) xs = refl

  places_moved : (es : List Entry) → filter_map place_listed (map (moved_entry f) es) ≡ map f (filter_map place_listed es)
  places_moved [] = refl
  places_moved (e ∷ es) =
      (λ i. cons_option (place_moved e i) (places_moved es i)) ∙ placed_at (place_listed e) es

  module _ (r : Report) where
    told_moved : (s : Session) → told_of (moved f r) s ≡ map (moved_session f) (told_of r s)
    told_moved s = filter-map (λ (t : SessionReport). same_session t.session s) (moved_session f) r.sessions

    joined_in_moved : (s : Session) → is_joined_in (moved f r) s ≡ is_joined_in r s
    joined_in_moved s =
        ap (list_any (λ (t : SessionReport). is_joined t.state)) (told_moved s)
        ∙ any-map (λ (t : SessionReport). is_joined t.state) (moved_session f) (told_of r s)

    abbrev entries_of : Group → SessionReport → List Entry
    entries_of g t = flat_map (λ (h : GroupReport). h.entries) (filter (λ (h : GroupReport). same_group h.group g) t.groups)

    session_moved : (g : Group) (t : SessionReport) → entries_of g (moved_session f t) ≡ map (moved_entry f) (entries_of g t)
    session_moved g t =
        ap (flat_map (λ (h : GroupReport). h.entries)) (filter-map (λ (h : GroupReport). same_group h.group g) (moved_group f) t.groups)
        ∙ flat_map-map (λ (h : GroupReport). h.entries) (moved_group f) (filter (λ (h : GroupReport). same_group h.group g) t.groups)
        ∙ sym (map-flat_map (moved_entry f) (λ (h : GroupReport). h.entries) (filter (λ (h : GroupReport). same_group h.group g) t.groups))

    entries_moved : (s : Session) (g : Group) → entries_in (moved f r) s g ≡ map (moved_entry f) (entries_in r s g)
    entries_moved s g =
        ap (flat_map (entries_of g)) (told_moved s)
        ∙ flat_map-map (entries_of g) (moved_session f) (told_of r s)
        ∙ (λ i. flat_map (λ t. session_moved g t i) (told_of r s))
        ∙ sym (map-flat_map (moved_entry f) (entries_of g) (told_of r s))

    said_moved : (s : Session) (said : BlockContent) → entries_said (moved f r) s said ≡ map (moved_entry f) (entries_said r s said)
    said_moved s (Fragment c) = refl
    said_moved s (Hashes h) =
        ap (filter (is_numbered h.first (length h.hashes))) (entries_moved s h.group)
        ∙ filter-map (is_numbered h.first (length h.hashes)) (moved_entry f) (entries_in r s h.group)
        ∙ (λ i. map (moved_entry f) (filter (λ e. nat_le h.first (number_moved e i) && nat_lt (number_moved e i) (h.first + length h.hashes)) (entries_in r s h.group)))

    gaps_moved : (b : BlockMessage) → list_any is_gap (entries_under (moved f r) (moved_block f b)) ≡ list_any is_gap (entries_under r b)
    gaps_moved b =
        ap (list_any is_gap) (said_moved b.session b.said)
        ∙ any-map is_gap (moved_entry f) (entries_under r b)
        ∙ (λ i. list_any (λ e. gap_moved e i) (entries_under r b))

    -- ---- places that rise with theirs

    module _ (n : ℕ) (rises : (p q : ℕ) → p < q → q < n → f p < f q) where
      one_place : (p q : ℕ) → p < n → q < n → f p ≡ f q → p ≡ q
      one_place p q low high e =
          elim (cases_lt p q) [
            | inl under ↦ absurd (let up = rises p q under high in omega (arith, up, e))
            | inr over ↦ (elim (cases_lt q p) [
              | inl under ↦ absurd (let up = rises q p under low in omega (arith, up, e))
              | inr other ↦ omega (arith, over, other)
            ])
          ]

      same_place : (p q : ℕ) → p < n → q < n → (f p == f q) ≡ (p == q)
      same_place p q low high =
          one_test (f p == f q) (p == q)
          (λ e. eq-eqb p q (one_place p q low high (eqb-true (f p) (f q) e)))
          (λ e. eq-eqb (f p) (f q) (ap f (eqb-true p q e)))

      same_order : (p q : ℕ) → p < n → q < n → nat_lt (f p) (f q) ≡ nat_lt p q
      same_order p q low high =
          one_test (nat_lt (f p) (f q)) (nat_lt p q)
          (λ e. lt-ltb p q (elim (cases_lt p q) [
            | inl under ↦ under
            | inr over ↦ (let l = ltb-true (f p) (f q) e in elim (cases_eq q p) [
              | inl same ↦ absurd (let at = ap f same in omega (arith, l, at))
              | inr apart ↦ absurd (let up = rises q p (omega (arith, over, apart)) low in omega (arith, l, up))
            ])
          ]))
          (λ e. lt-ltb (f p) (f q) (rises p q (ltb-true p q e) high))

      rise_moved : (ps : List ℕ) → ((p : ℕ) → Has ps p → p < n) → IsStrictlySortedBy nat_cmp ps → IsStrictlySortedBy nat_cmp (map f ps)
      unfolding IsStrictlySortedBy
      rise_moved [] within up = tt
      rise_moved (p ∷ ps) within up = (
        all_below (λ q. nat_cmp (f p) q ≡ Less) (map f ps) (λ q h.
            (let w : (k : ℕ) × Has ps k × (f k ≡ q) = from_has-map f ps q h in
            less (f p) q (subst (λ k. f p < k) w.2 (rises p w.0 (from_less p w.0 (all-has (λ k. nat_cmp p k ≡ Less) ps w.0 up.0 w.1)) (within w.0 (inr w.1)))))),
        rise_moved ps (λ q h. within q (inr h)) up.1,
      )

      order_moved : (ps : List ℕ) → ((p : ℕ) → Has ps p → p < n) → in_order nat_cmp (map f ps) ≡ map f (in_order nat_cmp ps)
      order_moved ps within =
          same_members nat_cmp_total (in_order nat_cmp (map f ps)) (map f (in_order nat_cmp ps))
          (rises-in_order nat_cmp_total exact_unsigned (map f ps))
          (rise_moved (in_order nat_cmp ps) (λ p h. within p (from_has-in_order nat_cmp_total exact_unsigned p ps h)) (rises-in_order nat_cmp_total exact_unsigned ps))
          (λ q h.
          (let w : (p : ℕ) × Has ps p × (f p ≡ q) = from_has-map f ps q (from_has-in_order nat_cmp_total exact_unsigned q (map f ps) h) in
          subst (Has (map f (in_order nat_cmp ps))) w.2 (has-map f (in_order nat_cmp ps) w.0 (has-in_order nat_cmp_total exact_unsigned w.0 ps w.1))))
          (λ q h.
          (let w : (p : ℕ) × Has (in_order nat_cmp ps) p × (f p ≡ q) = from_has-map f (in_order nat_cmp ps) q h in
          has-in_order nat_cmp_total exact_unsigned q (map f ps) (subst (Has (map f ps)) w.2 (has-map f ps w.0 (from_has-in_order nat_cmp_total exact_unsigned w.0 ps w.1)))))

      -- ---- blocks

      module _ (bs : List BlockMessage) (blocks_within : (b : BlockMessage) → Has bs b → b.place < n) (refused_within : (p : ℕ) → Has r.refused p → p < n) where
        refused_in_moved : (b : BlockMessage) → Has bs b → is_refused_in (moved f r) (moved_block f b) ≡ is_refused_in r b
        refused_in_moved b h =
            any-map (λ place. place == f b.place) f r.refused
            ∙ any_agree (λ place. f place == f b.place) (λ place. place == b.place) r.refused (λ place i. same_place place b.place (refused_within place i) (blocks_within b h))

        verified_in_moved : (b : BlockMessage) → Has bs b → is_verified_in (moved f r) (moved_block f b) ≡ is_verified_in r b
        verified_in_moved b h = λ i. joined_in_moved b.session i && not (refused_in_moved b h i)

        fragment_moved : (s : Session) (index count : ℕ) (b : BlockMessage) → Has bs b → is_fragment_of (moved f r) s index count (moved_block f b) ≡ is_fragment_of r s index count b
        fragment_moved s index count b h = ap (λ v. same_session b.session s && has_fragment_at index count b.said && v) (verified_in_moved b h)

        first_moved : (b : BlockMessage) → Has bs b → (said : BlockContent) → is_first_said (moved f r) (map (moved_block f) bs) (moved_block f b) said ≡ is_first_said r bs b said
        first_moved b h (Hashes s) = refl
        first_moved b h (Fragment c) =
            ap not
            (any-map (λ (d : BlockMessage). nat_lt d.place (f b.place) && is_fragment_of (moved f r) b.session c.index (length c.fragment) d) (moved_block f) bs
            ∙ any_agree (λ (d : BlockMessage). nat_lt (f d.place) (f b.place) && is_fragment_of (moved f r) b.session c.index (length c.fragment) (moved_block f d))
            (λ (d : BlockMessage). nat_lt d.place b.place && is_fragment_of r b.session c.index (length c.fragment) d) bs
            (λ d i j. same_order d.place b.place (blocks_within d i) (blocks_within b h) j && fragment_moved b.session c.index (length c.fragment) d i j))

        unjudged_moved : (b : BlockMessage) → Has bs b → is_unjudged (moved f r) (moved_block f b) ≡ is_unjudged r b
        unjudged_moved b h = ap not (joined_in_moved b.session)

        certificate_moved : (b : BlockMessage) → Has bs b → is_first_certificate (moved f r) (map (moved_block f) bs) (moved_block f b) ≡ is_first_certificate r bs b
        certificate_moved b h = λ i. verified_in_moved b h i && first_moved b h b.said i

        gap_in_moved : (b : BlockMessage) → Has bs b → has_gap (moved f r) (moved_block f b) ≡ has_gap r b
        gap_in_moved b h = λ i. verified_in_moved b h i && gaps_moved b i

        filtered : (p q : BlockMessage → Bool) → ((b : BlockMessage) → Has bs b → p (moved_block f b) ≡ q b) → filter p (map (moved_block f) bs) ≡ map (moved_block f) (filter q bs)
        filtered p q e = filter-map p (moved_block f) bs ∙ ap (map (moved_block f)) (filter_agree (λ (b : BlockMessage). p (moved_block f b)) q bs e)

        placed : (p q : BlockMessage → Bool) → ((b : BlockMessage) → Has bs b → p (moved_block f b) ≡ q b) → places_of (filter p (map (moved_block f) bs)) ≡ map f (places_of (filter q bs))
        placed p q e =
            ap places_of (filtered p q e)
            ∙ map-map (λ (b : BlockMessage). b.place) (moved_block f) (filter q bs)
            ∙ sym (map-map f (λ (b : BlockMessage). b.place) (filter q bs))

        listed_moved : carrying.listed (moved f r) (map (moved_block f) bs) ≡ map f (carrying.listed r bs)
        listed_moved =
            ap (flat_map (λ (b : BlockMessage). filter_map place_listed (entries_under (moved f r) b))) (filtered (has_gap (moved f r)) (has_gap r) gap_in_moved)
            ∙ flat_map-map (λ (b : BlockMessage). filter_map place_listed (entries_under (moved f r) b)) (moved_block f) (filter (has_gap r) bs)
            ∙ (λ i. flat_map (λ (b : BlockMessage). (ap (filter_map place_listed) (said_moved b.session b.said) ∙ places_moved (entries_under r b)) i) (filter (has_gap r) bs))
            ∙ sym (map-flat_map f (λ (b : BlockMessage). filter_map place_listed (entries_under r b)) (filter (has_gap r) bs))

        abbrev five : List ℕ
        five = carrying.unjudged r bs ++ carrying.certificates r bs ++ carrying.gaps r bs ++ carrying.listed r bs ++ r.unlisted

        four_joined : (u c g l o : List ℕ) → map f u ++ map f c ++ map f g ++ map f l ++ map f o ≡ map f (u ++ c ++ g ++ l ++ o)
        four_joined u c g l o =
            ap (λ z. z ++ map f c ++ map f g ++ map f l ++ map f o) refl
            ∙ ap (λ z. z ++ map f g ++ map f l ++ map f o) (sym (map-append f u c))
            ∙ ap (λ z. z ++ map f l ++ map f o) (sym (map-append f (u ++ c) g))
            ∙ ap (λ z. z ++ map f o) (sym (map-append f (u ++ c ++ g) l))
            ∙ sym (map-append f (u ++ c ++ g ++ l) o)

        pub carried_moved : ((p : ℕ) → Has five p → p < n) → carried_by (moved f r) (map (moved_block f) bs) ≡ map f (carried_by r bs)
        unfolding carried_by
        carried_moved within =
            (λ i. in_order nat_cmp (placed (is_unjudged (moved f r)) (is_unjudged r) unjudged_moved i
            ++ placed (is_first_certificate (moved f r) (map (moved_block f) bs)) (is_first_certificate r bs) certificate_moved i
            ++ placed (has_gap (moved f r)) (has_gap r) gap_in_moved i
            ++ listed_moved i
            ++ map f r.unlisted))
            ∙ ap (in_order nat_cmp) (four_joined (carrying.unjudged r bs) (carrying.certificates r bs) (carrying.gaps r bs) (carrying.listed r bs) r.unlisted)
            ∙ order_moved five within
