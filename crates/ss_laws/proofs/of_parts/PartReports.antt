-- The report of a whole is the reports of its parts put together.
use Rattle.std.proofs.Common.{◌≡◌, ℕ, ◌<◌, ◌==◌, Bool, true, not, List, length, map, filter, refl, sym, ap, ◌∙◌, subst, arith}
use Rattle.std.specs.Ordering.{nat_cmp}
use Rattle.std.specs.List.{flat_map, range_with_len}
use Rattle.std.specs.List.Sorted.{IsStrictlySortedBy}
use Rattle.std.proofs.lemmas.Bool.{eq-eqb}
use Rattle.std.proofs.lemmas.Cmp.{nat_cmp_total, on_total}
use Rattle.std.proofs.lemmas.List.FromFn.{length-range_with_len}
use Rattle.std.proofs.lemmas.Map.Lookups.{exact_unsigned}
use Rattle.std.proofs.lemmas.Option.{slice_get_within}
use Rattle.ss_block.specs.declared.session.Session.{Session}
use Rattle.ss_block.specs.Order.{session_cmp}
use Rattle.ss_block.specs.OrderLaws.{session_cmp_total, session_cmp_exact}
use Rattle.ss_review.specs.declared.keep.message.NormalMessage.{NormalMessage}
use Rattle.ss_review.specs.keep.BlockMessage.{BlockMessage}
use Rattle.ss_review.specs.declared.keep.spoilt.SpoiltPlace.{SpoiltPlace}
use Rattle.ss_review.specs.declared.report.session_report.SessionReport.{SessionReport}
use Rattle.ss_review.specs.declared.report.report.Report.{Report}
use Rattle.ss_review.specs.keep.Notes.{Note, Normal, Block, Spoilt}
use Rattle.ss_review.specs.keep.Contents.{Contents, normals, blocks, spoilts, contents}
use Rattle.ss_review.specs.sessions.Sessions.{sessions}
use Rattle.ss_review.specs.sessions.Verified.{Answers, is_verified}
use Rattle.ss_review.specs.announced.Announced.{Row, rows}
use Rattle.ss_review.specs.assign.Assigned.{is_taken}
use Rattle.ss_review.specs.report.Report.{session_report, unlisted, refused, report_of}
use Rattle.ss_laws.specs.parts.Parts.{normals_of, blocks_of, part_of, AreParts, together}
use Rattle.ss_octets.proofs.Members.{Has, has-map, from_has-map, has-filter, from_has-filter, has-flat_map, from_has-flat_map}
use Rattle.ss_review.proofs.of_lists.Keyed.{keys_rise-filter}
use Rattle.ss_review.proofs.of_kept_messages.NotesTold.{normal_noted, block_noted, spoilt_noted}
use Rattle.ss_review.proofs.of_lists.OnesInOrder.{in_order_of_ones, rise_told, rise_by_key}
use Rattle.ss_laws.proofs.of_parts.PartAssigned.{from_own_message}
use Rattle.ss_laws.proofs.of_parts.PartBlocks.{IsOwn, from_own, has-own, is_own, its_own, has-sessions, from_has-sessions, own_verified}
use Rattle.ss_laws.proofs.of_parts.PartCounts.{sum_by-map, counts_add_up}
use Rattle.ss_laws.proofs.of_parts.PartSessions.{same_session_report, same_taken}
use Rattle.ss_review.proofs.of_kept_messages.PlacesRise.{normals_rise, blocks_rise, spoilts_rise}
use Rattle.ss_review.proofs.of_lists.Rising.{in_order_is, rises-in_order}
use Rattle.ss_review.proofs.of_lists.Tests.{in_range, from_in_range}

module _ (says : Answers) (ns : List Note) (part : ℕ → ℕ) (parts : ℕ) (are : AreParts says (contents ns) part parts) where
  abbrev log : Contents
  log = contents ns

  abbrev pub own_report : ℕ → Report
  own_report k = report_of says (part_of part k log)

  abbrev pub own_reports : List Report
  own_reports = map own_report (range_with_len 0 parts)

  abbrev rs : List Row
  rs = rows says log.blocks

  abbrev os : ℕ → List Row
  os k = rows says (blocks_of part k log.blocks)

  -- ---- what one of the reports has

  among : {X : Type 0} (f : Report → List X) (k : ℕ) (x : X) → k < parts → Has (f (own_report k)) x → Has (flat_map f own_reports) x
  among f k x below h =
      has-flat_map f own_reports (own_report k) x (has-map own_report (range_with_len 0 parts) k (in_range 0 parts k (omega arith) (omega arith))) h

  from_among : {X : Type 0} (f : Report → List X) (x : X) → Has (flat_map f own_reports) x → (k : ℕ) × (k < parts) × Has (f (own_report k)) x
  from_among {X} f x h =
      let w : (r : Report) × Has own_reports r × Has (f r) x = from_has-flat_map f own_reports x h in
      let v : (k : ℕ) × Has (range_with_len 0 parts) k × (own_report k ≡ w.0) = from_has-map own_report (range_with_len 0 parts) w.0 w.1 in
      (v.0, omega (arith, (from_in_range 0 parts v.0 v.1).1), subst (λ r. Has (f r) x) (sym v.2) w.2)

  -- ---- each place is of a part

  block_within : (b : BlockMessage) → Has (blocks ns) b → part b.place < parts
  block_within b h =
      let w = block_noted ns b h in
      are.within b.place (slice_get_within ns b.place (Block w.0) w.1)

  normal_within : (m : NormalMessage) → Has (normals ns) m → part m.place < parts
  normal_within m h = are.within m.place (slice_get_within ns m.place (Normal m.pair) (normal_noted ns m h))

  spoilt_within : (s : SpoiltPlace) → Has (spoilts ns) s → part s.place < parts
  spoilt_within s h = are.within s.place (slice_get_within ns s.place (Spoilt s.cause) (spoilt_noted ns s h))

  -- ---- sessions

  abbrev told : Session → SessionReport
  told s = session_report says log rs s

  abbrev own_told : ℕ → Session → SessionReport
  own_told k s = session_report says (part_of part k log) (os k) s

  pub session_there : (t : SessionReport) → Has (report_of says log).sessions t → (k : ℕ) × (k < parts) × Has (own_report k).sessions t
  unfolding report_of
  session_there t h =
      let w : (s : Session) × Has (sessions (blocks ns)) s × (told s ≡ t) = from_has-map told (sessions (blocks ns)) t h in
      let b = from_has-sessions (blocks ns) w.0 w.1 in
      let k = part b.0.place in
      let i : IsOwn part (blocks ns) k w.0 = (b.0, has-own part (blocks ns) k b.0 b.1 refl, b.2) in
      let one : own_told k w.0 ≡ t = same_session_report part log k are.sessions says are.messages w.0 i ∙ w.2 in
      (k, block_within b.0 b.1, subst (Has (map (own_told k) (sessions (blocks_of part k (blocks ns))))) one (has-map (own_told k) (sessions (blocks_of part k (blocks ns))) w.0 (its_own part (blocks ns) k w.0 i)))

  pub session_back : (k : ℕ) (t : SessionReport) → Has (own_report k).sessions t → Has (report_of says log).sessions t
  unfolding report_of
  session_back k t h =
      let w : (s : Session) × Has (sessions (blocks_of part k (blocks ns))) s × (own_told k s ≡ t) = from_has-map (own_told k) (sessions (blocks_of part k (blocks ns))) t h in
      let i = is_own part (blocks ns) k w.0 w.1 in
      let here : Has (sessions (blocks ns)) w.0 = subst (Has (sessions (blocks ns))) i.2 (has-sessions (blocks ns) i.0 (from_own part (blocks ns) k i.0 i.1).0) in
      subst (Has (map told (sessions (blocks ns)))) (sym (same_session_report part log k are.sessions says are.messages w.0 i) ∙ w.2) (has-map told (sessions (blocks ns)) w.0 here)

  sessions_rise : IsStrictlySortedBy (λ (s t : SessionReport). session_cmp s.session t.session) (report_of says log).sessions
  unfolding report_of
  sessions_rise = rise_told session_cmp (λ (s t : SessionReport). session_cmp s.session t.session) told (λ j k. refl) (sessions (blocks ns)) (rises-in_order session_cmp_total session_cmp_exact (map (λ (b : BlockMessage). b.session) (blocks ns)))

  sessions_add_up : (report_of says log).sessions ≡ (together own_reports).sessions
  sessions_add_up =
      in_order_of_ones (on_total (λ (t : SessionReport). t.session) session_cmp_total) (report_of says log).sessions (flat_map (λ (r : Report). r.sessions) own_reports) sessions_rise
      (λ t h. (let w = session_there t h in among (λ (r : Report). r.sessions) w.0 t w.1 w.2))
      (λ t h. (let w = from_among (λ (r : Report). r.sessions) t h in session_back w.0 t w.2))

  -- ---- messages that aren't listed

  abbrev is_free : NormalMessage → Bool
  is_free m = not (is_taken (normals ns) rs m.place)

  abbrev is_own_free : ℕ → NormalMessage → Bool
  is_own_free k m = not (is_taken (normals_of part k (normals ns)) (os k) m.place)

  abbrev place_of_normal : NormalMessage → ℕ
  place_of_normal m = m.place

  pub unlisted_there : (p : ℕ) → Has (report_of says log).unlisted p → (k : ℕ) × (k < parts) × Has (own_report k).unlisted p
  unfolding report_of
  unlisted_there p h =
      let w = from_has-map place_of_normal (filter is_free (normals ns)) p h in
      let f = from_has-filter is_free (normals ns) w.0 w.1 in
      let k = part w.0.place in
      let own = normals_of part k (normals ns) in
      let here : Has own w.0 = has-filter (λ (m : NormalMessage). part m.place == k) (normals ns) w.0 f.0 (eq-eqb (part w.0.place) k refl) in
      let free : is_own_free k w.0 ≡ true = ap not (same_taken part log k are.sessions says are.messages w.0 here) ∙ f.1 in
      (k, normal_within w.0 f.0, subst (Has (unlisted own (os k))) w.2 (has-map place_of_normal (filter (is_own_free k) own) w.0 (has-filter (is_own_free k) own w.0 here free)))

  pub unlisted_back : (k p : ℕ) → Has (own_report k).unlisted p → Has (report_of says log).unlisted p
  unfolding report_of
  unlisted_back k p h =
      let own = normals_of part k (normals ns) in
      let w = from_has-map place_of_normal (filter (is_own_free k) own) p h in
      let f = from_has-filter (is_own_free k) own w.0 w.1 in
      let free : is_free w.0 ≡ true = sym (ap not (same_taken part log k are.sessions says are.messages w.0 f.0)) ∙ f.1 in
      subst (Has (unlisted (normals ns) rs)) w.2 (has-map place_of_normal (filter is_free (normals ns)) w.0 (has-filter is_free (normals ns) w.0 (from_own_message part log k are.sessions says are.messages w.0 f.0).0 free))

  unlisted_rise : IsStrictlySortedBy nat_cmp (report_of says log).unlisted
  unfolding report_of
  unlisted_rise = keys_rise-filter place_of_normal nat_cmp is_free (normals ns) (normals_rise ns)

  unlisted_add_up : (report_of says log).unlisted ≡ (together own_reports).unlisted
  unlisted_add_up =
      in_order_is nat_cmp_total exact_unsigned (report_of says log).unlisted (flat_map (λ (r : Report). r.unlisted) own_reports) unlisted_rise
      (λ p h. (let w = unlisted_there p h in among (λ (r : Report). r.unlisted) w.0 p w.1 w.2))
      (λ p h. (let w = from_among (λ (r : Report). r.unlisted) p h in unlisted_back w.0 p w.2))

  -- ---- blocks that aren't verified

  abbrev is_refused : BlockMessage → Bool
  is_refused b = not (is_verified says (blocks ns) b)

  abbrev is_own_refused : ℕ → BlockMessage → Bool
  is_own_refused k b = not (is_verified says (blocks_of part k (blocks ns)) b)

  abbrev place_of_block : BlockMessage → ℕ
  place_of_block b = b.place

  pub refused_there : (p : ℕ) → Has (report_of says log).refused p → (k : ℕ) × (k < parts) × Has (own_report k).refused p
  unfolding report_of
  refused_there p h =
      let w = from_has-map place_of_block (filter is_refused (blocks ns)) p h in
      let f = from_has-filter is_refused (blocks ns) w.0 w.1 in
      let k = part w.0.place in
      let own = blocks_of part k (blocks ns) in
      let here : Has own w.0 = has-own part (blocks ns) k w.0 f.0 refl in
      let fails : is_own_refused k w.0 ≡ true = ap not (own_verified part (blocks ns) k are.sessions says w.0 here) ∙ f.1 in
      (k, block_within w.0 f.0, subst (Has (refused says own)) w.2 (has-map place_of_block (filter (is_own_refused k) own) w.0 (has-filter (is_own_refused k) own w.0 here fails)))

  pub refused_back : (k p : ℕ) → Has (own_report k).refused p → Has (report_of says log).refused p
  unfolding report_of
  refused_back k p h =
      let own = blocks_of part k (blocks ns) in
      let w = from_has-map place_of_block (filter (is_own_refused k) own) p h in
      let f = from_has-filter (is_own_refused k) own w.0 w.1 in
      let fails : is_refused w.0 ≡ true = sym (ap not (own_verified part (blocks ns) k are.sessions says w.0 f.0)) ∙ f.1 in
      subst (Has (refused says (blocks ns))) w.2 (has-map place_of_block (filter is_refused (blocks ns)) w.0 (has-filter is_refused (blocks ns) w.0 (from_own part (blocks ns) k w.0 f.0).0 fails))

  refused_rise : IsStrictlySortedBy nat_cmp (report_of says log).refused
  unfolding report_of
  refused_rise = keys_rise-filter place_of_block nat_cmp is_refused (blocks ns) (blocks_rise ns)

  refused_add_up : (report_of says log).refused ≡ (together own_reports).refused
  refused_add_up =
      in_order_is nat_cmp_total exact_unsigned (report_of says log).refused (flat_map (λ (r : Report). r.refused) own_reports) refused_rise
      (λ p h. (let w = refused_there p h in among (λ (r : Report). r.refused) w.0 p w.1 w.2))
      (λ p h. (let w = from_among (λ (r : Report). r.refused) p h in refused_back w.0 p w.2))

  -- ---- spoilt messages

  pub spoilt_there : (s : SpoiltPlace) → Has (report_of says log).spoilt s → (k : ℕ) × (k < parts) × Has (own_report k).spoilt s
  unfolding report_of
  spoilt_there s h =
      (part s.place, spoilt_within s h, has-filter (λ (t : SpoiltPlace). part t.place == part s.place) (spoilts ns) s h (eq-eqb (part s.place) (part s.place) refl))

  pub spoilt_back : (k : ℕ) (s : SpoiltPlace) → Has (own_report k).spoilt s → Has (report_of says log).spoilt s
  unfolding report_of
  spoilt_back k s h = (from_has-filter (λ (t : SpoiltPlace). part t.place == k) (spoilts ns) s h).0

  spoilt_rise : IsStrictlySortedBy (λ (s t : SpoiltPlace). nat_cmp s.place t.place) (report_of says log).spoilt
  unfolding report_of
  spoilt_rise = rise_by_key (λ (s : SpoiltPlace). s.place) nat_cmp (spoilts ns) (spoilts_rise ns)

  spoilt_add_up : (report_of says log).spoilt ≡ (together own_reports).spoilt
  spoilt_add_up =
      in_order_of_ones (on_total (λ (s : SpoiltPlace). s.place) nat_cmp_total) (report_of says log).spoilt (flat_map (λ (r : Report). r.spoilt) own_reports) spoilt_rise
      (λ s h. (let w = spoilt_there s h in among (λ (r : Report). r.spoilt) w.0 s w.1 w.2))
      (λ s h. (let w = from_among (λ (r : Report). r.spoilt) s h in spoilt_back w.0 s w.2))

  -- ---- the count

  count_adds_up : (report_of says log).count ≡ (together own_reports).count
  unfolding report_of
  count_adds_up =
      sym (sum_by-map (λ (r : Report). r.count) own_report (range_with_len 0 parts)
      ∙ counts_add_up part parts (range_with_len 0 (length ns)) (λ p h. are.within p (omega (arith, (from_in_range 0 (length ns) p h).1)))
      ∙ length-range_with_len 0 (length ns))

  -- ---- all of it

  pub add_up : report_of says log ≡ together own_reports
  add_up = λ i. record {
    sessions = sessions_add_up i;
    unlisted = unlisted_add_up i;
    refused = refused_add_up i;
    spoilt = spoilt_add_up i;
    count = count_adds_up i;
  }
