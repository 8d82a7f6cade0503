-- What is carried over of a log, by its report, is enough to leave over.
use Rattle.std.proofs.Common.{◌≡◌, ◌⊎◌, inl, inr, ℕ, zero, suc, ◌+◌, ◌-◌, ◌<◌, ◌≤◌, ◌==◌, ◌&&◌, not, Bool, true, false, List, [], ◌∷◌, ◌++◌, length, filter, refl, sym, ap, ◌∙◌, subst, arith}
use Rattle.std.specs.Prelude.{nat_le, nat_lt, Some, None, slice_get}
use Rattle.std.specs.List.{list_any, flat_map, filter_map}
use Rattle.std.specs.Ordering.{nat_cmp, is_eq}
use Rattle.std.specs.Cmp.{nat_cmp_total, Equal-is}
use Rattle.std.proofs.lemmas.Bool.{cases_Bool, true≢false, eqb-true, eq-eqb, not-true, le-leb, leb-true, lt-ltb, ltb-true, and_from, and_parts, false_from_ne_true}
use Rattle.std.proofs.lemmas.Cmp.{tied_itself}
use Rattle.std.proofs.lemmas.Map.Lookups.{exact_unsigned}
use Rattle.std.proofs.lemmas.Option.{slice_get_within}
use Rattle.ss_block.specs.Block as block
use Rattle.ss_block.specs.declared.hash.Hash.{Hash}
use Rattle.ss_block.specs.declared.block.Group.{Group}
use Rattle.ss_block.specs.declared.session.Session.{Session}
use Rattle.ss_block.specs.Order.{group_cmp}
use Rattle.ss_block.specs.OrderLaws.{session_cmp_total, group_cmp_total, group_cmp_exact}
use Rattle.ss_review.specs.declared.keep.message.NormalMessage.{NormalMessage}
use Rattle.ss_review.specs.keep.BlockMessage.{BlockMessage, BlockContent, Hashes, Fragment}
use Rattle.ss_review.specs.declared.keep.spoilt.SpoiltPlace.{SpoiltPlace}
use Rattle.ss_review.specs.declared.report.entry.Entry.{Entry}
use Rattle.ss_review.specs.declared.report.entry.Entry.TheVariants as entry
use Rattle.ss_review.specs.declared.report.group_report.GroupReport.{GroupReport}
use Rattle.ss_review.specs.declared.report.session_report.SessionReport.{SessionReport}
use Rattle.ss_review.specs.declared.report.session_report.SessionState.{SessionState}
use Rattle.ss_review.specs.declared.report.session_report.SessionState.TheVariants as states
use Rattle.ss_review.specs.declared.report.report.Report.{Report}
use Rattle.ss_review.specs.keep.Contents.{Contents}
use Rattle.ss_review.specs.Ordered.{in_order}
use Rattle.ss_review.specs.sessions.Sessions.{same_session, sessions, of_session}
use Rattle.ss_review.specs.sessions.Verified.{Answers, joined, state_in, is_verified}
use Rattle.ss_review.specs.report.Verdict.{is_joined}
use Rattle.ss_review.specs.announced.Announced.{Key, Row, rows}
use Rattle.ss_review.specs.announced.Announcing.{Announces}
use Rattle.ss_review.specs.assign.Assigned.{assigned, is_taken}
use Rattle.ss_review.specs.report.Entries.{same_group}
use Rattle.ss_review.specs.report.Meaning.{Tells, first_number}
use Rattle.ss_review.specs.report.Extract.{place_listed}
use Rattle.ss_review.specs.report.Report.{session_report, report_of}
use Rattle.ss_octets.proofs.Members.{Has, has_from_contains, contains_from_has, has-append_left, has-append_right, has-append_cases, has-map, from_has-map, from_has-flat_map, has-filter, from_has-filter, has-flat_map, has-filter_map, from_has-filter_map}
use Rattle.ss_review.proofs.of_reports.Leftovers.{takes, unlisted_are, refused_are}
use Rattle.ss_review.proofs.of_reports.Listings.{listed_assigned, assigned_listed, gaps_are}
use Rattle.ss_review.proofs.of_assignment.OnePlaceOneKey.{one_key, assigned_cases, from_has-places_with}
use Rattle.ss_laws.proofs.of_parts.PartBlocks.{has-sessions}
use Rattle.ss_review.proofs.of_lists.Rising.{has-in_order, from_has-in_order}
use Rattle.ss_review.proofs.of_sessions.StatesTold.{joined_under, state_told}
use Rattle.ss_review.proofs.of_lists.Tests.{any_member, member_any}
use Rattle.ss_review.proofs.of_lists.Keyed.{has-slice_get}
use Rattle.ss_review.specs.assign.Assigned.{places_with, rank}
use Rattle.ss_report.specs.runs.Carrying as carrying
use Rattle.ss_report.specs.runs.Carrying.{told_of, is_joined_in, entries_in, is_numbered, entries_said, entries_under, places_of, is_refused_in, is_verified_in, has_fragment_at, is_fragment_of, is_first_said, is_gap, is_unjudged, is_first_certificate, has_gap, carried_by}
use Rattle.ss_laws.specs.carry.CarriedNights.{is_carried}
use Rattle.ss_laws.specs.carry.Nights.{IsJoined, HasVerifiedOctet, IsKept, LeavesEnough}
use Rattle.ss_laws.proofs.of_carry.AnnouncedNights.{verified_joined}
use Rattle.ss_laws.proofs.of_carry.ToldApart.{AreApart}
use Rattle.ss_review.proofs.of_pinned.KeptOfSessions.{session_is}

group_is : (g h : Group) → same_group g h ≡ true → g ≡ h
group_is g h e = group_cmp_exact g h ((Equal-is (group_cmp g h)).0 e)

no_place : (place : ℕ) → None ≡ Some place → ⊥
no_place place e = cc

joined_state : (s : SessionState) → is_joined s ≡ true → s ≡ states.Joined
joined_state states.Joined e = refl
joined_state states.Disputed e = absurd (cc)
joined_state states.Incomplete e = absurd (cc)
joined_state states.Malformed e = absurd (cc)
joined_state states.Untrusted e = absurd (cc)
joined_state states.Unaccepted e = absurd (cc)

module _ (says : Answers) (log : Contents) (apart : AreApart log) where
  abbrev r : Report
  r = report_of says log

  abbrev bs : List BlockMessage
  bs = log.blocks

  abbrev rs : List Row
  rs = rows says log.blocks

  -- ---- joined sessions

  session_told : (s : Session) → Has (sessions log.blocks) s → Has (report_of says log).sessions (session_report says log (rows says log.blocks) s)
  unfolding report_of
  session_told s h = has-map (session_report says log rs) (sessions bs) s h

  from_told : (t : SessionReport) → Has (report_of says log).sessions t → t.state ≡ state_in (joined says (of_session log.blocks t.session))
  unfolding report_of
  from_told t h =
      let w : (s : Session) × Has (sessions bs) s × (session_report says log rs s ≡ t) = from_has-map (session_report says log rs) (sessions bs) t h in
      ap (λ (u : SessionReport). u.state) (sym w.2) ∙ ap (λ (u : SessionReport). state_in (joined says (of_session bs u.session))) w.2

  joined_there : (s : Session) → is_joined_in (report_of says log) s ≡ true → IsJoined says log.blocks s
  joined_there s e =
      let w : (t : SessionReport) × Has (told_of r s) t × (is_joined t.state ≡ true) = any_member (λ (t : SessionReport). is_joined t.state) (told_of r s) e in
      let f = from_has-filter (λ (t : SessionReport). same_session t.session s) r.sessions w.0 w.1 in
      let at = session_is w.0.session s f.1 in
      let state : state_in (joined says (of_session bs s)) ≡ states.Joined
      = ap (λ (u : Session). state_in (joined says (of_session bs u))) (sym at) ∙ sym (from_told w.0 f.0) ∙ joined_state w.0.state w.2 in
      let j = state_told says (of_session bs s) states.Joined state in
      (j.0, joined_under says (of_session bs s) j.0 j.1)

  joined_here : (b : BlockMessage) → Has log.blocks b → IsJoined says log.blocks b.session → is_joined_in (report_of says log) b.session ≡ true
  joined_here b h j =
      let t = session_report says log rs b.session in
      member_any (λ (u : SessionReport). is_joined u.state) (told_of r b.session) t
      (has-filter (λ (u : SessionReport). same_session u.session b.session) r.sessions t (session_told b.session (has-sessions bs b h))
      (ap is_eq (tied_itself session_cmp_total b.session)))
      (ap (λ q. is_joined (state_in q)) j.1)

  -- ---- verified blocks

  refused_here : (b : BlockMessage) → Has log.blocks b → is_verified says log.blocks b ≡ false → is_refused_in (report_of says log) b ≡ true
  refused_here b h v =
      member_any (λ place. place == b.place) r.refused b.place
      (has_from_contains r.refused b.place ((refused_are says log b.place).1 (b, contains_from_has bs b h, refl, λ t. true≢false (sym t ∙ v))))
      (eq-eqb b.place b.place refl)

  refused_there : (b : BlockMessage) → Has log.blocks b → is_refused_in (report_of says log) b ≡ true → is_verified says log.blocks b ≡ true → ⊥
  refused_there b h e v =
      let w : (place : ℕ) × Has r.refused place × ((place == b.place) ≡ true) = any_member (λ place. place == b.place) r.refused e in
      let d = (refused_are says log w.0).0 (contains_from_has r.refused w.0 w.1) in
      let same : d.0 ≡ b = apart.blocks d.0 b (has_from_contains bs d.0 d.1) h (d.2 ∙ eqb-true w.0 b.place w.2) in
      d.3 (ap (is_verified says bs) same ∙ v)

  verified_there : (b : BlockMessage) → Has log.blocks b → is_verified_in (report_of says log) b ≡ true → is_verified says log.blocks b ≡ true
  verified_there b h e =
      let p = and_parts (is_joined_in r b.session) (not (is_refused_in r b)) e in
      elim (cases_Bool (is_verified says bs b)) [
        | inl v ↦ v
        | inr v ↦ absurd (true≢false (sym (refused_here b h v) ∙ not-true (is_refused_in r b) p.1))
      ]

  verified_here : (b : BlockMessage) → Has log.blocks b → is_verified says log.blocks b ≡ true → is_verified_in (report_of says log) b ≡ true
  verified_here b h v =
      and_from (is_joined_in r b.session) (not (is_refused_in r b)) (joined_here b h (verified_joined says bs b v))
      (ap not (false_from_ne_true (is_refused_in r b) (λ e. refused_there b h e v)))

  -- ---- entries

  entry_there : (s : Session) (g : Group) (e : Entry) → Has (entries_in (report_of says log) s g) e → Tells (report_of says log) s g e
  entry_there s g e h =
      let w : (t : SessionReport) × Has (told_of r s) t × Has (flat_map (λ (u : GroupReport). u.entries) (filter (λ (u : GroupReport). same_group u.group g) t.groups)) e
      = from_has-flat_map (λ (t : SessionReport). flat_map (λ (u : GroupReport). u.entries) (filter (λ (u : GroupReport). same_group u.group g) t.groups)) (told_of r s) e h in
      let f = from_has-filter (λ (t : SessionReport). same_session t.session s) r.sessions w.0 w.1 in
      let v : (u : GroupReport) × Has (filter (λ (u : GroupReport). same_group u.group g) w.0.groups) u × Has u.entries e
      = from_has-flat_map (λ (u : GroupReport). u.entries) (filter (λ (u : GroupReport). same_group u.group g) w.0.groups) e w.2 in
      let q = from_has-filter (λ (u : GroupReport). same_group u.group g) w.0.groups v.0 v.1 in
      record {
        session = w.0;
        session_told = contains_from_has r.sessions w.0 f.0;
        session_is = session_is w.0.session s f.1;
        group = v.0;
        group_told = contains_from_has w.0.groups v.0 q.0;
        group_is = group_is v.0.group g q.1;
        entry_told = contains_from_has v.0.entries e v.2;
      }

  entry_here : (s : Session) (g : Group) (e : Entry) → Tells (report_of says log) s g e → Has (entries_in (report_of says log) s g) e
  entry_here s g e t =
      has-flat_map (λ (u : SessionReport). flat_map (λ (v : GroupReport). v.entries) (filter (λ (v : GroupReport). same_group v.group g) u.groups)) (told_of r s) t.session e
      (has-filter (λ (u : SessionReport). same_session u.session s) r.sessions t.session (has_from_contains r.sessions t.session t.session_told)
      (ap (λ (u : Session). same_session u s) t.session_is ∙ ap is_eq (tied_itself session_cmp_total s)))
      (has-flat_map (λ (v : GroupReport). v.entries) (filter (λ (v : GroupReport). same_group v.group g) t.session.groups) t.group e
      (has-filter (λ (v : GroupReport). same_group v.group g) t.session.groups t.group (has_from_contains t.session.groups t.group t.group_told)
      (ap (λ (u : Group). same_group u g) t.group_is ∙ ap is_eq (tied_itself group_cmp_total g)))
      (has_from_contains t.group.entries e t.entry_told))

  -- an entry of a number of a signature block
  under_there : (b : BlockMessage) (said : block.Signature) → b.said ≡ Hashes said → (e : Entry) → Has (entries_under (report_of says log) b) e
      → Tells (report_of says log) b.session said.group e × (said.first ≤ first_number e) × (first_number e < said.first + length said.hashes)
  under_there b said s e h =
      let here : Has (entries_said r b.session (Hashes said)) e = subst (λ (x : BlockContent). Has (entries_said r b.session x) e) s h in
      let f = from_has-filter (is_numbered said.first (length said.hashes)) (entries_in r b.session said.group) e here in
      let p = and_parts (nat_le said.first (first_number e)) (nat_lt (first_number e) (said.first + length said.hashes)) f.1 in
      (entry_there b.session said.group e f.0, leb-true said.first (first_number e) p.0, ltb-true (first_number e) (said.first + length said.hashes) p.1)

  -- the entry of an announced number stands under each block that announces it
  under_here : (k : Key) (h : Hash) (a : Announces says log.blocks k h) (e : Entry) → first_number e ≡ k.number → Tells (report_of says log) k.session k.group e
      → Has (entries_under (report_of says log) a.message) e
  under_here k h a e number t =
      let b = a.message in
      let within = slice_get_within a.said.hashes a.index h a.hash in
      let at : first_number e ≡ a.said.first + a.index = number ∙ a.number in
      let told : Tells r b.session a.said.group e = subst (λ (s : Session). Tells r s a.said.group e) (sym a.session_is) (subst (λ (g : Group). Tells r k.session g e) (sym a.group_is) t) in
      subst (λ (x : BlockContent). Has (entries_said r b.session x) e) (sym a.says_so)
      (has-filter (is_numbered a.said.first (length a.said.hashes)) (entries_in r b.session a.said.group) e (entry_here b.session a.said.group e told)
      (and_from (nat_le a.said.first (first_number e)) (nat_lt (first_number e) (a.said.first + length a.said.hashes))
      (le-leb a.said.first (first_number e) (omega (arith, at)))
      (lt-ltb (first_number e) (a.said.first + length a.said.hashes) (omega (arith, at, within)))))

  -- ---- places that are carried

  abbrev OfFive : ℕ → Type 0
  OfFive place =
      Has (carrying.unjudged (report_of says log) log.blocks) place
      ⊎ (Has (carrying.certificates (report_of says log) log.blocks) place
      ⊎ (Has (carrying.gaps (report_of says log) log.blocks) place
      ⊎ (Has (carrying.listed (report_of says log) log.blocks) place ⊎ Has (report_of says log).unlisted place)))

  abbrev of_unjudged : List ℕ
  of_unjudged = carrying.unjudged r bs

  abbrev of_certificates : List ℕ
  of_certificates = carrying.certificates r bs

  abbrev of_gaps : List ℕ
  of_gaps = carrying.gaps r bs

  abbrev of_listed : List ℕ
  of_listed = carrying.listed r bs

  abbrev five : List ℕ
  five = carrying.unjudged r bs ++ carrying.certificates r bs ++ carrying.gaps r bs ++ carrying.listed r bs ++ r.unlisted

  carried_here : (place : ℕ) → OfFive place → is_carried says log place ≡ true
  unfolding carried_by
  carried_here place o =
      member_any (λ p. p == place) (in_order nat_cmp five) place (has-in_order nat_cmp_total exact_unsigned place five (among o)) (eq-eqb place place refl)
    where
      among : OfFive place → Has five place
      among (inl h) =
          has-append_left (of_unjudged ++ of_certificates ++ of_gaps ++ of_listed) r.unlisted place (has-append_left (of_unjudged ++ of_certificates ++ of_gaps) of_listed place (has-append_left (of_unjudged ++ of_certificates) of_gaps place (has-append_left of_unjudged of_certificates place h)))
      among (inr (inl h)) =
          has-append_left (of_unjudged ++ of_certificates ++ of_gaps ++ of_listed) r.unlisted place (has-append_left (of_unjudged ++ of_certificates ++ of_gaps) of_listed place (has-append_left (of_unjudged ++ of_certificates) of_gaps place (has-append_right of_unjudged of_certificates place h)))
      among (inr (inr (inl h))) =
          has-append_left (of_unjudged ++ of_certificates ++ of_gaps ++ of_listed) r.unlisted place (has-append_left (of_unjudged ++ of_certificates ++ of_gaps) of_listed place (has-append_right (of_unjudged ++ of_certificates) of_gaps place h))
      among (inr (inr (inr (inl h)))) = has-append_left (of_unjudged ++ of_certificates ++ of_gaps ++ of_listed) r.unlisted place (has-append_right (of_unjudged ++ of_certificates ++ of_gaps) of_listed place h)
      among (inr (inr (inr (inr h)))) = has-append_right (of_unjudged ++ of_certificates ++ of_gaps ++ of_listed) r.unlisted place h

  in_five : (place : ℕ) → Has five place → OfFive place
  in_five place h =
      elim (has-append_cases (of_unjudged ++ of_certificates ++ of_gaps ++ of_listed) r.unlisted place h) [
        | inr m ↦ inr (inr (inr (inr m)))
        | inl i ↦ (elim (has-append_cases (of_unjudged ++ of_certificates ++ of_gaps) of_listed place i) [
          | inr m ↦ inr (inr (inr (inl m)))
          | inl j ↦ (elim (has-append_cases (of_unjudged ++ of_certificates) of_gaps place j) [
            | inr m ↦ inr (inr (inl m))
            | inl k ↦ (elim (has-append_cases of_unjudged of_certificates place k) [ inl m ↦ inl m | inr m ↦ inr (inl m) ])
          ])
        ])
      ]

  carried_there : (place : ℕ) → is_carried says log place ≡ true → OfFive place
  unfolding carried_by
  carried_there place e =
      let w : (p : ℕ) × Has (in_order nat_cmp five) p × ((p == place) ≡ true) = any_member (λ p. p == place) (in_order nat_cmp five) e in
      in_five place (subst (Has five) (eqb-true w.0 place w.2) (from_has-in_order nat_cmp_total exact_unsigned w.0 five w.1))

  -- a block that passes a test, at its place
  has_place : (p : BlockMessage → Bool) (b : BlockMessage) → Has log.blocks b → p b ≡ true → Has (places_of (filter p log.blocks)) b.place
  has_place p b h t = has-map (λ (d : BlockMessage). d.place) (filter p bs) b (has-filter p bs b h t)

  from_place : (p : BlockMessage → Bool) (place : ℕ) → Has (places_of (filter p log.blocks)) place → (b : BlockMessage) × Has log.blocks b × (p b ≡ true) × (b.place ≡ place)
  from_place p place h =
      let w : (b : BlockMessage) × Has (filter p bs) b × (b.place ≡ place) = from_has-map (λ (d : BlockMessage). d.place) (filter p bs) place h in
      let f = from_has-filter p bs w.0 w.1 in
      (w.0, f.0, f.1, w.2)

  test_at : (p : BlockMessage → Bool) (b : BlockMessage) → Has log.blocks b → Has (places_of (filter p log.blocks)) b.place → p b ≡ true
  test_at p b h i =
      let w = from_place p b.place i in
      ap p (sym (apart.blocks w.0 b w.1 h w.3)) ∙ w.2

  -- a message that is listed
  listed_message : (k : Key) (place : ℕ) → assigned log.normal (rows says log.blocks) k ≡ Some place → (m : NormalMessage) × Has log.normal m × (m.place ≡ place)
  listed_message k place e =
      let a = assigned_cases log.normal rs k place e in
      let n = from_has-places_with log.normal rs a.0 place (has-slice_get (places_with log.normal a.0) (rank log.normal rs k a.0) place a.2) in
      (n.0, n.1, n.3)

  -- a place that is listed under a block with a gap: its key, and the block
  record IsUnder (place : ℕ) : Type 0 where
    message : BlockMessage
    stored : Has log.blocks message
    has_one : has_gap (report_of says log) message ≡ true
    key : Key
    hash : Hash
    announced : Announces says log.blocks key hash
    message_is : announced.message ≡ message
    listed : assigned log.normal (rows says log.blocks) key ≡ Some place

  listed_entry : (e : Entry) (place : ℕ) → place_listed e ≡ Some place → e ≡ entry.Listed (first_number e) place
  listed_entry (entry.Listed number p) place e = let same : p ≡ place = cc in ap (entry.Listed number) same
  listed_entry (entry.Gap number why) place e = absurd (cc)
  listed_entry (entry.Hole first last) place e = absurd (cc)

  hash_at : (hs : List Hash) (i : ℕ) → i < length hs → (h : Hash) × (slice_get hs i ≡ Some h)
  hash_at [] i low = absurd (omega arith)
  hash_at (h ∷ hs) zero low = (h, refl)
  hash_at (h ∷ hs) (suc i) low = hash_at hs i (omega (arith, low))

  entry_under : (b : BlockMessage) → Has log.blocks b → has_gap (report_of says log) b ≡ true → (place : ℕ) (e : Entry) → Has (entries_under (report_of says log) b) e → place_listed e ≡ Some place
      → (x : BlockContent) → b.said ≡ x → IsUnder place
  entry_under b h t place e i l (Fragment c) s = absurd (subst (λ (x : BlockContent). Has (entries_said r b.session x) e) s i)
  entry_under b h t place e i l (Hashes said) s =
      let u = under_there b said s e i in
      let number = first_number e in
      let at : said.first + (number - said.first) ≡ number = omega (arith, u.1) in
      let w = hash_at said.hashes (number - said.first) (omega (arith, u.1, u.2)) in
      let k : Key = record { session = b.session; group = said.group; number = number } in
      record {
        message = b;
        stored = h;
        has_one = t;
        key = k;
        hash = w.0;
        announced = record {
          message = b;
          stored = contains_from_has bs b h;
          verified = verified_there b h (and_parts (is_verified_in r b) (list_any is_gap (entries_under r b)) t).0;
          session_is = refl;
          said = said;
          says_so = s;
          group_is = refl;
          index = number - said.first;
          number = sym at;
          hash = w.1;
        };
        message_is = refl;
        listed = listed_assigned says log k place (subst (λ (x : Entry). Tells r b.session said.group x) (listed_entry e place l) u.0);
      }

  from_listed : (place : ℕ) → Has (carrying.listed (report_of says log) log.blocks) place → IsUnder place
  from_listed place h =
      let w : (b : BlockMessage) × Has (filter (has_gap r) bs) b × Has (filter_map place_listed (entries_under r b)) place
      = from_has-flat_map (λ (b : BlockMessage). filter_map place_listed (entries_under r b)) (filter (has_gap r) bs) place h in
      let f = from_has-filter (has_gap r) bs w.0 w.1 in
      let v : (e : Entry) × Has (entries_under r w.0) e × (place_listed e ≡ Some place) = from_has-filter_map place_listed (entries_under r w.0) place w.2 in
      entry_under w.0 f.0 f.1 place v.0 v.1 v.2 w.0.said refl

  -- a carried place of a message without a block
  normal_place : (place : ℕ) → Has (carrying.listed (report_of says log) log.blocks) place ⊎ Has (report_of says log).unlisted place
      → (m : NormalMessage) × Has log.normal m × (m.place ≡ place)
  normal_place place (inl h) = let w = from_listed place h in listed_message w.key place w.listed
  normal_place place (inr h) =
      let w = (unlisted_are says log place).0 (contains_from_has r.unlisted place h) in
      (w.0.0, has_from_contains log.normal w.0.0 w.0.1, w.0.2)

  -- each place of the five lists is that of a block or of a message without one
  pub carried_places : (place : ℕ) → Has (carrying.unjudged (report_of says log) log.blocks ++ carrying.certificates (report_of says log) log.blocks ++ carrying.gaps (report_of says log) log.blocks ++ carrying.listed (report_of says log) log.blocks ++ (report_of says log).unlisted) place
      → ((b : BlockMessage) × Has log.blocks b × (b.place ≡ place)) ⊎ ((m : NormalMessage) × Has log.normal m × (m.place ≡ place))
  carried_places place h = cases (in_five place h)
    where
      block : (p : BlockMessage → Bool) → Has (places_of (filter p log.blocks)) place → (b : BlockMessage) × Has log.blocks b × (b.place ≡ place)
      block p i = let w = from_place p place i in (w.0, w.1, w.3)

      cases : OfFive place → ((b : BlockMessage) × Has log.blocks b × (b.place ≡ place)) ⊎ ((m : NormalMessage) × Has log.normal m × (m.place ≡ place))
      cases (inl i) = inl (block (is_unjudged r) i)
      cases (inr (inl i)) = inl (block (is_first_certificate r bs) i)
      cases (inr (inr (inl i))) = inl (block (has_gap r) i)
      cases (inr (inr (inr o))) = inr (normal_place place o)

  -- a carried place of a block
  carried_block : (b : BlockMessage) → Has log.blocks b → is_carried says log b.place ≡ true
      → (is_unjudged (report_of says log) b ≡ true) ⊎ ((is_first_certificate (report_of says log) log.blocks b ≡ true) ⊎ (has_gap (report_of says log) b ≡ true))
  carried_block b h e = cases (carried_there b.place e)
    where
      none : Has (carrying.listed (report_of says log) log.blocks) b.place ⊎ Has (report_of says log).unlisted b.place → ⊥
      none o = let m = normal_place b.place o in apart.block_normal b m.0 h m.1 (sym m.2)

      cases : OfFive b.place → (is_unjudged (report_of says log) b ≡ true) ⊎ ((is_first_certificate (report_of says log) log.blocks b ≡ true) ⊎ (has_gap (report_of says log) b ≡ true))
      cases (inl i) = inl (test_at (is_unjudged r) b h i)
      cases (inr (inl i)) = inr (inl (test_at (is_first_certificate r bs) b h i))
      cases (inr (inr (inl i))) = inr (inr (test_at (has_gap r) b h i))
      cases (inr (inr (inr o))) = absurd (none o)

  -- ---- certificate blocks

  fragment_is : (said : BlockContent) (index count : ℕ) → has_fragment_at index count said ≡ true → (c : block.Certificate) × (said ≡ Fragment c) × (c.index ≡ index) × (length c.fragment ≡ count)
  fragment_is (Hashes h) index count e = absurd (cc)
  fragment_is (Fragment c) index count e =
      let p = and_parts (c.index == index) (length c.fragment == count) e in
      (c, refl, eqb-true c.index index p.0, eqb-true (length c.fragment) count p.1)

  fragment_parts : (s : Session) (index count : ℕ) (b : BlockMessage) → is_fragment_of (report_of says log) s index count b ≡ true
      → (b.session ≡ s) × (has_fragment_at index count b.said ≡ true) × (is_verified_in (report_of says log) b ≡ true)
  fragment_parts s index count b f =
      let p = and_parts (same_session b.session s && has_fragment_at index count b.said) (is_verified_in r b) f in
      let q = and_parts (same_session b.session s) (has_fragment_at index count b.said) p.0 in
      (session_is b.session s q.0, q.1, p.1)

  -- the first block with this fragment stands at or before each of them
  first_of : (s : Session) (index count n : ℕ) (b : BlockMessage) → b.place < n → Has log.blocks b → is_fragment_of (report_of says log) s index count b ≡ true
      → (d : BlockMessage) × Has log.blocks d × (is_fragment_of (report_of says log) s index count d ≡ true) × (is_first_certificate (report_of says log) log.blocks d ≡ true)
  first_of s index count zero b low h f = absurd (omega (arith, low))
  first_of s index count (suc n) b low h f =
      elim (cases_Bool (list_any (λ other. nat_lt other.place b.place && is_fragment_of r s index count other) bs)) [
        | inl e ↦ earlier (λ d under i g. first_of s index count n d under i g) e
        | inr e ↦ (b, h, f, and_from (is_verified_in r b) (is_first_said r bs b b.said) (fragment_parts s index count b f).2 (first e))
      ]
    where
      earlier : ((d : BlockMessage) → d.place < n → Has log.blocks d → is_fragment_of (report_of says log) s index count d ≡ true
          → (g : BlockMessage) × Has log.blocks g × (is_fragment_of (report_of says log) s index count g ≡ true) × (is_first_certificate (report_of says log) log.blocks g ≡ true))
          → list_any (λ other. nat_lt other.place b.place && is_fragment_of (report_of says log) s index count other) log.blocks ≡ true
          → (d : BlockMessage) × Has log.blocks d × (is_fragment_of (report_of says log) s index count d ≡ true) × (is_first_certificate (report_of says log) log.blocks d ≡ true)
      earlier again e =
          let w : (d : BlockMessage) × Has bs d × ((nat_lt d.place b.place && is_fragment_of r s index count d) ≡ true) = any_member (λ (d : BlockMessage). nat_lt d.place b.place && is_fragment_of r s index count d) bs e in
          let q = and_parts (nat_lt w.0.place b.place) (is_fragment_of r s index count w.0) w.2 in
          let l = ltb-true w.0.place b.place q.0 in
          again w.0 (omega (arith, l, low)) w.1 q.1

      first : list_any (λ other. nat_lt other.place b.place && is_fragment_of (report_of says log) s index count other) log.blocks ≡ false
          → is_first_said (report_of says log) log.blocks b b.said ≡ true
      first e =
          let p = fragment_parts s index count b f in
          let c = fragment_is b.said index count p.1 in
          let at = p.0 in
          ap (is_first_said r bs b) c.1
          ∙ (λ i. not (list_any (λ (other : BlockMessage). nat_lt other.place b.place && is_fragment_of r (at i) (c.2 i) (c.3 i) other) bs))
          ∙ ap not e

  certificate_left : (s : Session) (index : ℕ) → HasVerifiedOctet says log.blocks s index → (o : HasVerifiedOctet says log.blocks s index) × (is_carried says log o.message.place ≡ true)
  certificate_left s index o =
      let b = o.message in
      let h = has_from_contains bs b o.stored in
      let c = o.said in
      let f : is_fragment_of r s c.index (length c.fragment) b ≡ true
      = and_from (same_session b.session s && has_fragment_at c.index (length c.fragment) b.said) (is_verified_in r b)
      (and_from (same_session b.session s) (has_fragment_at c.index (length c.fragment) b.said)
      (ap (λ (t : Session). same_session t s) o.session_is ∙ ap is_eq (tied_itself session_cmp_total s))
      (ap (has_fragment_at c.index (length c.fragment)) o.says_so ∙ and_from (c.index == c.index) (length c.fragment == length c.fragment) (eq-eqb c.index c.index refl) (eq-eqb (length c.fragment) (length c.fragment) refl)))
      (verified_here b h o.verified) in
      let d = first_of s c.index (length c.fragment) (suc b.place) b (omega arith) h f in
      let p = fragment_parts s c.index (length c.fragment) d.0 d.2 in
      let g = fragment_is d.0.said c.index (length c.fragment) p.1 in (
        record {
          message = d.0;
          stored = contains_from_has bs d.0 d.1;
          verified = verified_there d.0 d.1 p.2;
          session_is = p.0;
          said = g.0;
          says_so = g.1;
          from = omega (arith, o.from, g.2);
          to = omega (arith, o.to, g.2, g.3);
        },
        carried_here d.0.place (inr (inl (has_place (is_first_certificate r bs) d.0 d.1 d.3))),
      )

  -- ---- blocks with a gap

  gap_left : (k : Key) (h : Hash) (a : Announces says log.blocks k h) → assigned log.normal (rows says log.blocks) k ≡ None → is_carried says log a.message.place ≡ true
  gap_left k h a e =
      let b = a.message in
      let i = has_from_contains bs b a.stored in
      let t = (gaps_are says log k).1 ((h, a), λ place f. no_place place (sym e ∙ f)) in
      let g = entry.Gap k.number t.0 in
      carried_here b.place (inr (inr (inl (has_place (has_gap r) b i
      (and_from (is_verified_in r b) (list_any is_gap (entries_under r b)) (verified_here b i a.verified)
      (member_any is_gap (entries_under r b) g (under_here k h a g refl t.1) refl))))))

  no_certificate : (b : BlockMessage) (said : block.Signature) → b.said ≡ Hashes said → is_first_certificate (report_of says log) log.blocks b ≡ true → ⊥
  no_certificate b said s e =
      true≢false (sym (and_parts (is_verified_in r b) (is_first_said r bs b b.said) e).1 ∙ ap (is_first_said r bs b) s)

  judged : (b : BlockMessage) → Has log.blocks b → IsJoined says log.blocks b.session → is_unjudged (report_of says log) b ≡ true → ⊥
  judged b h j e = true≢false (sym (joined_here b h j) ∙ not-true (is_joined_in r b.session) e)

  kept_left : (k : Key) (place : ℕ) → assigned log.normal (rows says log.blocks) k ≡ Some place → IsKept says log (is_carried says log) k → is_carried says log place ≡ true
  kept_left k place e kept =
      let a = kept.announced in
      let b = a.message in
      let h = has_from_contains bs b a.stored in
      let l = entry.Listed k.number place in
      let gap : has_gap r b ≡ true
      = elim (carried_block b h kept.left_over) [
        | inl n ↦ absurd (judged b h (verified_joined says bs b a.verified) n)
        | inr (inl n) ↦ absurd (no_certificate b a.said a.says_so n)
        | inr (inr g) ↦ g
      ] in
      carried_here place (inr (inr (inr (inl
      (has-flat_map (λ (d : BlockMessage). filter_map place_listed (entries_under r d)) (filter (has_gap r) bs) b place (has-filter (has_gap r) bs b h gap)
      (has-filter_map place_listed (entries_under r b) l place (under_here k kept.hash a l refl (assigned_listed says log k place e)) refl))))))

  unkept_left : (k : Key) (place : ℕ) → assigned log.normal (rows says log.blocks) k ≡ Some place → ¬ IsKept says log (is_carried says log) k → is_carried says log place ≡ false
  unkept_left k place e n = false_from_ne_true (is_carried says log place) (λ t. cases (carried_there place t))
    where
      no_block : (p : BlockMessage → Bool) → Has (places_of (filter p log.blocks)) place → ⊥
      no_block p h = let w = from_place p place h in let m = listed_message k place e in apart.block_normal w.0 m.0 w.1 m.1 (w.3 ∙ sym m.2)

      cases : OfFive place → ⊥
      cases (inl h) = no_block (is_unjudged r) h
      cases (inr (inl h)) = no_block (is_first_certificate r bs) h
      cases (inr (inr (inl h))) = no_block (has_gap r) h
      cases (inr (inr (inr (inl h)))) =
          let u = from_listed place h in
          let same : u.key ≡ k = one_key log.normal rs apart.normals_rise u.key k place u.listed e in
          let left : is_carried says log u.announced.message.place ≡ true
          = ap (λ (d : BlockMessage). is_carried says log d.place) u.message_is ∙ carried_here u.message.place (inr (inr (inl (has_place (has_gap r) u.message u.stored u.has_one)))) in
          n (subst (IsKept says log (is_carried says log)) same (record { hash = u.hash; announced = u.announced; left_over = left }))
      cases (inr (inr (inr (inr h)))) = ((unlisted_are says log place).0 (contains_from_has r.unlisted place h)).1 k e

  refused_left : (b : BlockMessage) → Has log.blocks b → IsJoined says log.blocks b.session → is_verified says log.blocks b ≡ false → is_carried says log b.place ≡ false
  refused_left b h j v =
      false_from_ne_true (is_carried says log b.place) (λ t.
      elim (carried_block b h t) [
        | inl n ↦ judged b h j n
        | inr (inl n) ↦ true≢false (sym (verified_there b h (and_parts (is_verified_in r b) (is_first_said r bs b b.said) n).0) ∙ v)
        | inr (inr n) ↦ true≢false (sym (verified_there b h (and_parts (is_verified_in r b) (list_any is_gap (entries_under r b)) n).0) ∙ v)
      ])

  spoilt_left : (s : SpoiltPlace) → Has log.spoilt s → is_carried says log s.place ≡ false
  spoilt_left s h = false_from_ne_true (is_carried says log s.place) (λ t. cases (carried_there s.place t))
    where
      no_block : (p : BlockMessage → Bool) → Has (places_of (filter p log.blocks)) s.place → ⊥
      no_block p i = let w = from_place p s.place i in apart.spoilt_block s w.0 h w.1 (sym w.3)

      no_normal : Has (carrying.listed (report_of says log) log.blocks) s.place ⊎ Has (report_of says log).unlisted s.place → ⊥
      no_normal o = let m = normal_place s.place o in apart.spoilt_normal s m.0 h m.1 (sym m.2)

      cases : OfFive s.place → ⊥
      cases (inl i) = no_block (is_unjudged r) i
      cases (inr (inl i)) = no_block (is_first_certificate r bs) i
      cases (inr (inr (inl i))) = no_block (has_gap r) i
      cases (inr (inr (inr o))) = no_normal o

  unlisted_left : (m : NormalMessage) → Has log.normal m → is_taken log.normal (rows says log.blocks) m.place ≡ false → is_carried says log m.place ≡ true
  unlisted_left m h n =
      carried_here m.place (inr (inr (inr (inr (has_from_contains r.unlisted m.place ((unlisted_are says log m.place).1
      ((m, contains_from_has log.normal m h, refl), λ k e. true≢false (sym (takes log.normal rs k m.place e) ∙ n))))))))

  pub carried_enough : LeavesEnough says log (is_carried says log)
  carried_enough = record {
    unjudged = λ b c n.
        (let h = has_from_contains bs b c in
        carried_here b.place (inl (has_place (is_unjudged r) b h (ap not (false_from_ne_true (is_joined_in r b.session) (λ e. n (joined_there b.session e)))))));
    certificates = certificate_left;
    gaps = gap_left;
    unlisted = λ m c n. unlisted_left m (has_from_contains log.normal m c) n;
    kept = kept_left;
    unkept = unkept_left;
    refused = λ b c j v. refused_left b (has_from_contains bs b c) j v;
    spoilt = λ s c. spoilt_left s (has_from_contains log.spoilt s c);
  }
