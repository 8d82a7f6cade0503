-- The report of a log by given payloads is the reports of its parts put together.
use Rattle.std.proofs.Common.{◌≡◌, ℕ, ◌<◌, ◌==◌, ◌&&◌, Bool, true, false, not, List, [], length, map, filter, refl, sym, ap, ◌∙◌, subst, arith}
use Rattle.std.specs.Prelude.{Some, None, slice_index, sum_by, count_by}
use Rattle.std.specs.Ordering.{nat_cmp}
use Rattle.std.specs.List.{flat_map, range_with_len}
use Rattle.std.proofs.lemmas.Bool.{eq-eqb}
use Rattle.std.proofs.lemmas.Cmp.{nat_cmp_total, on_total}
use Rattle.std.proofs.lemmas.List.{length-map}
use Rattle.std.proofs.lemmas.Map.Lookups.{exact_unsigned}
use Rattle.std.proofs.lemmas.Option.{slice_get_within, slice_get-get_or}
use Rattle.ss_block.specs.Order.{session_cmp}
use Rattle.ss_review.specs.declared.keep.message.NormalMessage.{NormalMessage}
use Rattle.ss_review.specs.keep.BlockMessage.{BlockMessage}
use Rattle.ss_review.specs.declared.keep.spoilt.SpoiltPlace.{SpoiltPlace}
use Rattle.ss_review.specs.declared.report.report.Report.{Report}
use Rattle.ss_review.specs.declared.report.session_report.SessionReport.{SessionReport}
use Rattle.ss_review.specs.Ordered.{in_order}
use Rattle.ss_review.specs.keep.Notes.{Normal, Block, Spoilt, note, notes}
use Rattle.ss_review.specs.keep.Contents.{Contents, normal_at, normals, blocks, spoilts, contents}
use Rattle.ss_review.specs.sessions.Sessions.{of_session}
use Rattle.ss_review.specs.sessions.Verified.{Answers, is_verified}
use Rattle.ss_review.specs.pinned.Pinned.{keeps, kept, is_verified_pinned, refused_pinned, pinned_contents, pinned_report}
use Rattle.ss_review.specs.pinned.Stands.{IsReportedAs, PinnedReportsAreOfLogs}
use Rattle.ss_review.specs.report.Report.{report_of}
use Rattle.ss_laws.specs.parts.Parts.{SessionsStayWhole, AreParts, normals_of, blocks_of, spoilts_of, part_of, moved_spoilt, moved, messages_of, places_of, together}
use Rattle.ss_laws.specs.parts.PartLaws.{PartsAddUp}
use Rattle.ss_octets.proofs.Members.{Has, has-map, from_has-map, has-filter, from_has-filter, has-flat_map, from_has-flat_map}
use Rattle.ss_review.proofs.of_kept_messages.NotesTold.{normal_place, normal_noted, block_noted, spoilt_noted}
use Rattle.ss_review.proofs.of_kept_messages.PlacesRise.{blocks_rise, spoilts_rise}
use Rattle.ss_review.proofs.of_lists.FilteredAlike.{flat_map-map}
use Rattle.ss_review.proofs.of_lists.Keyed.{one_index, keys_rise-filter}
use Rattle.ss_review.proofs.of_lists.Mapped.{map-map, filter-map}
use Rattle.ss_review.proofs.of_lists.OnesInOrder.{in_order_of_ones, rise_by_key}
use Rattle.ss_review.proofs.of_lists.Rising.{in_order_is}
use Rattle.ss_review.proofs.of_lists.Tests.{in_range, from_in_range}
use Rattle.ss_laws.proofs.of_parts.MovedBlocks.{moved_block}
use Rattle.ss_laws.proofs.of_parts.MovedReports.{moved_normal, moved_log, KeepsApart, report_moved}
use Rattle.ss_laws.proofs.of_parts.PartBlocks.{from_own, has-own, all_own, own_verified}
use Rattle.ss_laws.proofs.of_parts.PartLogs.{told_of_part, part_told}
use Rattle.ss_laws.proofs.of_parts.PartCounts.{sum_by-map}
use Rattle.ss_laws.proofs.of_parts.PartReports.{add_up}
use Rattle.ss_laws.specs.parts.PinnedParts.{contents_by, report_of_part_by, ReportsByPayloadsAddUp}
use Rattle.ss_laws.proofs.of_parts.BareSessions.{verified_moved}
use Rattle.ss_laws.proofs.of_parts.PartTexts.{own_blocks, keeps_there, kept_moved, kept_own, whole_by}
use Rattle.ss_laws.proofs.of_parts.Moves.{normal_moves}
use Rattle.ss_laws.proofs.of_parts.Places.{places_rise, as_many, same_places, same_messages}

-- ---- a report says of sessions and messages what follows from the messages without a block, and the blocks

abbrev of_both : List NormalMessage → List BlockMessage → Contents
of_both ms bs = record { normal = ms; blocks = bs; spoilt = []; count = 0 }

sessions_of : (says : Answers) (log : Contents) → (report_of says log).sessions ≡ (report_of says (of_both log.normal log.blocks)).sessions
unfolding report_of
sessions_of says log = refl

unlisted_of : (says : Answers) (log : Contents) → (report_of says log).unlisted ≡ (report_of says (of_both log.normal log.blocks)).unlisted
unfolding report_of
unlisted_of says log = refl

count_of : (says : Answers) (log : Contents) → (report_of says log).count ≡ log.count
unfolding report_of
count_of says log = refl

spoilt_of : (says : Answers) (log : Contents) → (report_of says log).spoilt ≡ log.spoilt
unfolding report_of
spoilt_of says log = refl

module _ (says : Answers) (log other : Contents) (same_normal : log.normal ≡ other.normal) (same_blocks : log.blocks ≡ other.blocks) where
  sessions_alike : (report_of says log).sessions ≡ (report_of says other).sessions
  sessions_alike =
      sessions_of says log ∙ (λ i. (report_of says (of_both (same_normal i) (same_blocks i))).sessions) ∙ sym (sessions_of says other)

  unlisted_alike : (report_of says log).unlisted ≡ (report_of says other).unlisted
  unlisted_alike =
      unlisted_of says log ∙ (λ i. (report_of says (of_both (same_normal i) (same_blocks i))).unlisted) ∙ sym (unlisted_of says other)

-- ---- the messages without a block of a part

module _ (part : ℕ → ℕ) (k : ℕ) (log : List (List ℕ)) where
  abbrev there : ℕ → ℕ
  there = slice_index (places_of part k log)

  abbrev own : List (List ℕ)
  own = messages_of part k log

  part_normals : map (moved_normal (slice_index (places_of part k (notes log)))) (normals (messages_of part k (notes log))) ≡ normals_of part k (normals (notes log))
  unfolding normals
  part_normals = told_of_part normal_at moved_normal (λ (m : NormalMessage). m.place) normal_moves normal_place part k (notes log)

  own_normals : map (moved_normal there) (normals (notes own)) ≡ normals_of part k (normals (notes log))
  own_normals = (λ i. map (moved_normal (slice_index (sym (same_places part k log) i))) (normals (sym (same_messages part k log) i))) ∙ part_normals

  own_spoilts : (says : Answers) → map (moved_spoilt there) (spoilts (notes own)) ≡ spoilts_of part k (spoilts (notes log))
  own_spoilts says =
      sym (ap (map (moved_spoilt there)) (spoilt_of says (contents (notes own))))
      ∙ ap (λ (r : Report). r.spoilt) (part_told part k log says)
      ∙ spoilt_of says (part_of part k (contents (notes log)))

  own_count : (says : Answers) → length (notes own) ≡ count_by (λ place. part place == k) (range_with_len 0 (length (notes log)))
  own_count says =
      sym (count_of says (contents (notes own)))
      ∙ ap (λ (r : Report). r.count) (part_told part k log says)
      ∙ count_of says (part_of part k (contents (notes log)))

  placed : (m : NormalMessage) → Has (normals (notes (messages_of part k log))) m → m.place < length (places_of part k log)
  placed m h =
      let below = slice_get_within (notes own) m.place (Normal m.pair) (normal_noted (notes own) m h) in
      let long = length-map own note in
      (let many = as_many part k log in omega (arith, below, long, many))

  apart : KeepsApart (slice_index (places_of part k log)) (normals (notes (messages_of part k log)))
  apart m n h i e =
      one_index nat_cmp_total exact_unsigned (places_of part k log) (places_rise part k log) m.place n.place (there m.place)
      (slice_get-get_or (places_of part k log) m.place 0 (placed m h))
      (slice_get-get_or (places_of part k log) n.place 0 (placed n i) ∙ ap (λ (p : ℕ). Some p) (sym e))

-- ---- blocks that are refused

module _ (f : ℕ → ℕ) (says : Answers) (ps : List (List ℕ)) (bs : List BlockMessage) where
  abbrev ds : List BlockMessage
  ds = map (moved_block f) bs

  pinned_moved : (b : BlockMessage) → is_verified_pinned says ps (map (moved_block f) bs) (moved_block f b) ≡ is_verified_pinned says ps bs b
  pinned_moved b =
      let kept_so : keeps says ps (of_session ds b.session) (moved_block f b) ≡ keeps says ps (of_session bs b.session) b = keeps_there f says ps bs b in
      let verified_so : is_verified says (kept says ps ds) (moved_block f b) ≡ is_verified says (kept says ps bs) b
      = ap (λ xs. is_verified says xs (moved_block f b)) (kept_moved f says ps bs) ∙ verified_moved f says (kept says ps bs) b in
      λ i. kept_so i && verified_so i

  refused_moved : refused_pinned says ps (map (moved_block f) bs) ≡ map f (refused_pinned says ps bs)
  refused_moved =
      ap (map (λ (b : BlockMessage). b.place))
      (filter-map (λ b. not (is_verified_pinned says ps ds b)) (moved_block f) bs
      ∙ (λ i. map (moved_block f) (filter (λ b. not (pinned_moved b i)) bs)))
      ∙ map-map (λ (b : BlockMessage). b.place) (moved_block f) (filter (λ b. not (is_verified_pinned says ps bs b)) bs)
      ∙ sym (map-map f (λ (b : BlockMessage). b.place) (filter (λ b. not (is_verified_pinned says ps bs b)) bs))

module _ (part : ℕ → ℕ) (bs : List BlockMessage) (k : ℕ) (whole : SessionsStayWhole part bs) (says : Answers) (ps : List (List ℕ)) where
  pinned_where : (x : Bool) (b : BlockMessage) → Has (blocks_of part k bs) b → keeps says ps (of_session bs b.session) b ≡ x
      → x && is_verified says (kept says ps (blocks_of part k bs)) b ≡ x && is_verified says (kept says ps bs) b
  pinned_where false b h e = refl
  pinned_where true b h e =
      let f = from_own part bs k b h in
      let here : Has (kept says ps bs) b = has-filter (λ d. keeps says ps (of_session bs d.session) d) bs b f.0 e in
      ap (λ xs. is_verified says xs b) (kept_own part bs k whole says ps)
      ∙ own_verified part (kept says ps bs) k (whole_by (Some ps) says part bs whole) says b (has-own part (kept says ps bs) k b here f.1)

  pinned_own : (b : BlockMessage) → Has (blocks_of part k bs) b → is_verified_pinned says ps (blocks_of part k bs) b ≡ is_verified_pinned says ps bs b
  pinned_own b h =
      ap (λ own. keeps says ps own b && is_verified says (kept says ps (blocks_of part k bs)) b) (all_own part bs k whole b.session (b, h, refl))
      ∙ pinned_where (keeps says ps (of_session bs b.session) b) b h refl

-- ---- the reports of parts

module _ (says : Answers) (ps : List (List ℕ)) (log : List (List ℕ)) (part : ℕ → ℕ) (parts : ℕ) (whole : SessionsStayWhole part (blocks (notes log)))
    (are : AreParts says (contents_by (Some ps) says (contents (notes log))) part parts)
    (other : List (List ℕ)) (is : IsReportedAs says ps log other) where
  abbrev bs : List BlockMessage
  bs = blocks (notes log)

  abbrev reported : Report
  reported = pinned_report says ps (contents (notes log))

  abbrev own_reported : ℕ → Report
  own_reported k = report_of_part_by (Some ps) says part k log

  abbrev own_others : ℕ → Report
  own_others k = report_of says (part_of part k (contents (notes other)))

  abbrev all_reported : List Report
  all_reported = map own_reported (range_with_len 0 parts)

  same_count : length (notes other) ≡ length (notes log)
  same_count =
      sym (count_of says (contents (notes other))) ∙ is.count ∙ count_of says (pinned_contents says ps (contents (notes log)))

  others_are : AreParts says (contents (notes other)) part parts
  others_are =
      let start : AreParts says (record { normal = normals (notes log); blocks = kept says ps (blocks (notes log)); spoilt = spoilts (notes other); count = length (notes log) }) part parts
      = record { within = are.within; sessions = are.sessions; messages = are.messages } in
      subst (λ (l : Contents). AreParts says l part parts)
      (λ i. record { normal = sym is.normals_are i; blocks = sym is.blocks_are i; spoilt = spoilts (notes other); count = sym same_count i }) start

  others_add_up : report_of says (contents (notes other)) ≡ together (map (λ k. report_of says (part_of part k (contents (notes other)))) (range_with_len 0 parts))
  others_add_up = add_up says (notes other) part parts others_are

  -- ---- one part

  abbrev there_at : ℕ → ℕ → ℕ
  there_at k = slice_index (places_of part k log)

  abbrev own_contents : ℕ → Contents
  own_contents k = pinned_contents says ps (contents (notes (messages_of part k log)))

  own_moved : (k : ℕ) → report_of says (moved_log (there_at k) (own_contents k)) ≡ moved (there_at k) (report_of says (own_contents k))
  own_moved k = report_moved (there_at k) says (own_contents k) (apart part k log)

  own_normal : (k : ℕ) → (moved_log (there_at k) (own_contents k)).normal ≡ (part_of part k (contents (notes other))).normal
  own_normal k = own_normals part k log ∙ ap (normals_of part k) (sym is.normals_are)

  own_kept : (k : ℕ) → (moved_log (there_at k) (own_contents k)).blocks ≡ (part_of part k (contents (notes other))).blocks
  own_kept k =
      sym (kept_moved (there_at k) says ps (blocks (notes (messages_of part k log))))
      ∙ ap (kept says ps) (own_blocks part k log)
      ∙ kept_own part bs k whole says ps
      ∙ ap (blocks_of part k) (sym is.blocks_are)

  own_sessions : (k : ℕ) → (own_others k).sessions ≡ (own_reported k).sessions
  own_sessions k =
      sym (sessions_alike says (moved_log (there_at k) (own_contents k)) (part_of part k (contents (notes other))) (own_normal k) (own_kept k))
      ∙ ap (λ (r : Report). r.sessions) (own_moved k)

  own_unlisted : (k : ℕ) → (own_others k).unlisted ≡ (own_reported k).unlisted
  own_unlisted k =
      sym (unlisted_alike says (moved_log (there_at k) (own_contents k)) (part_of part k (contents (notes other))) (own_normal k) (own_kept k))
      ∙ ap (λ (r : Report). r.unlisted) (own_moved k)

  own_counts : (k : ℕ) → (own_others k).count ≡ (own_reported k).count
  own_counts k =
      count_of says (part_of part k (contents (notes other)))
      ∙ ap (λ n. count_by (λ place. part place == k) (range_with_len 0 n)) same_count
      ∙ sym (own_count part k log says)
      ∙ sym (count_of says (own_contents k))

  own_spoilt : (k : ℕ) → (own_reported k).spoilt ≡ spoilts_of part k (spoilts (notes log))
  own_spoilt k = ap (map (moved_spoilt (there_at k))) (spoilt_of says (own_contents k)) ∙ own_spoilts part k log says

  own_refused : (k : ℕ) → (own_reported k).refused ≡ refused_pinned says ps (blocks_of part k bs)
  own_refused k =
      sym (refused_moved (there_at k) says ps (blocks (notes (messages_of part k log))))
      ∙ ap (refused_pinned says ps) (own_blocks part k log)

  -- ---- what the whole and the other log share

  each : {X : Type 0} (f : Report → List X) → ((k : ℕ) → f (own_others k) ≡ f (own_reported k)) → flat_map f (map own_others (range_with_len 0 parts)) ≡ flat_map f all_reported
  each f same =
      flat_map-map f own_others (range_with_len 0 parts)
      ∙ (λ i. flat_map (λ k. same k i) (range_with_len 0 parts))
      ∙ sym (flat_map-map f own_reported (range_with_len 0 parts))

  sessions_add_up : reported.sessions ≡ (together all_reported).sessions
  sessions_add_up =
      sym is.sessions
      ∙ ap (λ (r : Report). r.sessions) others_add_up
      ∙ ap (in_order (λ (s t : SessionReport). session_cmp s.session t.session)) (each (λ (r : Report). r.sessions) own_sessions)

  unlisted_add_up : reported.unlisted ≡ (together all_reported).unlisted
  unlisted_add_up =
      sym is.unlisted
      ∙ ap (λ (r : Report). r.unlisted) others_add_up
      ∙ ap (in_order nat_cmp) (each (λ (r : Report). r.unlisted) own_unlisted)

  counts_add_up : reported.count ≡ (together all_reported).count
  counts_add_up =
      sym is.count
      ∙ ap (λ (r : Report). r.count) others_add_up
      ∙ sum_by-map (λ (r : Report). r.count) own_others (range_with_len 0 parts)
      ∙ (λ i. sum_by (λ k. own_counts k i) (range_with_len 0 parts))
      ∙ sym (sum_by-map (λ (r : Report). r.count) own_reported (range_with_len 0 parts))

  -- ---- what one of the parts has

  among : {X : Type 0} (f : Report → List X) (k : ℕ) (x : X) → k < parts → Has (f (own_reported k)) x → Has (flat_map f all_reported) x
  among f k x low h =
      has-flat_map f all_reported (own_reported k) x (has-map own_reported (range_with_len 0 parts) k (in_range 0 parts k (omega arith) (omega (arith, low)))) h

  from_among : {X : Type 0} (f : Report → List X) (x : X) → Has (flat_map f all_reported) x → (k : ℕ) × (k < parts) × Has (f (own_reported k)) x
  from_among {X} f x h =
      let w : (r : Report) × Has all_reported r × Has (f r) x = from_has-flat_map f all_reported x h in
      let v : (k : ℕ) × Has (range_with_len 0 parts) k × (own_reported k ≡ w.0) = from_has-map own_reported (range_with_len 0 parts) w.0 w.1 in
      let low = (from_in_range 0 parts v.0 v.1).1 in
      (v.0, omega (arith, low), subst (λ r. Has (f r) x) (sym v.2) w.2)

  -- ---- blocks that are refused

  abbrev is_refused : BlockMessage → Bool
  is_refused b = not (is_verified_pinned says ps bs b)

  abbrev is_own_refused : ℕ → BlockMessage → Bool
  is_own_refused k b = not (is_verified_pinned says ps (blocks_of part k bs) b)

  abbrev place_of : BlockMessage → ℕ
  place_of b = b.place

  refused_there : (p : ℕ) → Has reported.refused p → (k : ℕ) × (k < parts) × Has (own_reported k).refused p
  refused_there p h =
      let w = from_has-map place_of (filter is_refused bs) p h in
      let f = from_has-filter is_refused bs w.0 w.1 in
      let k = part w.0.place in
      let here : Has (blocks_of part k bs) w.0 = has-own part bs k w.0 f.0 refl in
      let fails : is_own_refused k w.0 ≡ true = ap not (pinned_own part bs k whole says ps w.0 here) ∙ f.1 in
      let n = block_noted (notes log) w.0 f.0 in
      let low = are.within w.0.place (slice_get_within (notes log) w.0.place (Block n.0) n.1) in (
        k,
        low,
        subst (λ xs. Has xs p) (sym (own_refused k))
            (subst (Has (refused_pinned says ps (blocks_of part k bs))) w.2 (has-map place_of (filter (is_own_refused k) (blocks_of part k bs)) w.0 (has-filter (is_own_refused k) (blocks_of part k bs) w.0 here fails))),
      )

  refused_back : (k p : ℕ) → Has (own_reported k).refused p → Has reported.refused p
  refused_back k p h =
      let i : Has (refused_pinned says ps (blocks_of part k bs)) p = subst (λ xs. Has xs p) (own_refused k) h in
      let w = from_has-map place_of (filter (is_own_refused k) (blocks_of part k bs)) p i in
      let f = from_has-filter (is_own_refused k) (blocks_of part k bs) w.0 w.1 in
      let fails : is_refused w.0 ≡ true = sym (ap not (pinned_own part bs k whole says ps w.0 f.0)) ∙ f.1 in
      subst (Has reported.refused) w.2 (has-map place_of (filter is_refused bs) w.0 (has-filter is_refused bs w.0 (from_own part bs k w.0 f.0).0 fails))

  refused_add_up : reported.refused ≡ (together all_reported).refused
  refused_add_up =
      in_order_is nat_cmp_total exact_unsigned reported.refused (flat_map (λ (r : Report). r.refused) all_reported)
      (keys_rise-filter place_of nat_cmp is_refused bs (blocks_rise (notes log)))
      (λ p h. (let w = refused_there p h in among (λ (r : Report). r.refused) w.0 p w.1 w.2))
      (λ p h. (let w = from_among (λ (r : Report). r.refused) p h in refused_back w.0 p w.2))

  -- ---- spoilt messages

  abbrev spoilt_here : List SpoiltPlace
  spoilt_here = spoilts (notes log)

  spoilt_there : (s : SpoiltPlace) → Has (spoilts (notes log)) s → (k : ℕ) × (k < parts) × Has (own_reported k).spoilt s
  spoilt_there s h =
      let k = part s.place in
      let low = are.within s.place (slice_get_within (notes log) s.place (Spoilt s.cause) (spoilt_noted (notes log) s h)) in
      (k, low, subst (λ xs. Has xs s) (sym (own_spoilt k)) (has-filter (λ (t : SpoiltPlace). part t.place == k) spoilt_here s h (eq-eqb k k refl)))

  spoilt_back : (k : ℕ) (s : SpoiltPlace) → Has (own_reported k).spoilt s → Has (spoilts (notes log)) s
  spoilt_back k s h =
      (from_has-filter (λ (t : SpoiltPlace). part t.place == k) spoilt_here s (subst (λ xs. Has xs s) (own_spoilt k) h)).0

  spoilt_adds_up : reported.spoilt ≡ (together all_reported).spoilt
  spoilt_adds_up =
      spoilt_of says (pinned_contents says ps (contents (notes log)))
      ∙ in_order_of_ones (on_total (λ (s : SpoiltPlace). s.place) nat_cmp_total) spoilt_here (flat_map (λ (r : Report). r.spoilt) all_reported)
      (rise_by_key (λ (s : SpoiltPlace). s.place) nat_cmp spoilt_here (spoilts_rise (notes log)))
      (λ s h. (let w = spoilt_there s h in among (λ (r : Report). r.spoilt) w.0 s w.1 w.2))
      (λ s h. (let w = from_among (λ (r : Report). r.spoilt) s h in spoilt_back w.0 s w.2))

  pub pinned_add_up : pinned_report says ps (contents (notes log)) ≡ together (map (λ k. report_of_part_by (Some ps) says part k log) (range_with_len 0 parts))
  pinned_add_up = λ i. record {
    sessions = sessions_add_up i;
    unlisted = unlisted_add_up i;
    refused = refused_add_up i;
    spoilt = spoilt_adds_up i;
    count = counts_add_up i;
  }

-- ---- by given payloads, or without any

pub by_payloads : PartsAddUp → PinnedReportsAreOfLogs → ReportsByPayloadsAddUp
by_payloads plain of_logs None says log part parts whole are = plain says log part parts are
by_payloads plain of_logs (Some ps) says log part parts whole are =
    let o = of_logs says ps log in
    pinned_add_up says ps log part parts whole are o.0 o.1
