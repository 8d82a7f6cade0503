-- The counters of a log are in range, since its blocks are.
use Rattle.std.proofs.Common.{◌≡◌, inl, inr, ℕ, ◌<◌, ◌≤◌, true, List, map, refl, sym, ap, ◌∙◌, subst, arith}
use Rattle.std.specs.Prelude.{All, Contains, Option, Some, None, Result, Ok, Err}
use Rattle.std.proofs.lemmas.List.Elements.{All-contains, All-from_recursion}
use Rattle.std.proofs.lemmas.Option.{same_Some}
use Rattle.ss_message.specs.declared.fault.BadPart.{BadPart}
use Rattle.ss_message.specs.Laws.{FaultsAreOfNoMessage}
use Rattle.ss_message.specs.Layout.{Layout, value_at}
use Rattle.ss_message.specs.Message.{MessageValue, IsMessage, is_field}
use Rattle.ss_message.specs.Reading.{layout_at}
use Rattle.ss_block.specs.declared.reading.Reading.{Reading}
use Rattle.ss_block.specs.declared.reading.Reading.TheVariants as readings
use Rattle.ss_block.specs.declared.session.Session.{Session}
use Rattle.ss_block.specs.Block.{IsGroup}
use Rattle.ss_block.specs.OrderLaws.{session_cmp_total, session_cmp_exact}
use Rattle.ss_block.specs.Ranges.{last_number, past_last_number}
use Rattle.ss_block.specs.Reading.{reading, value_reading}
use Rattle.ss_block.specs.ReadingLaws.{BlocksAreInRange}
use Rattle.ss_block.specs.Session.{field_from, session_from, session_if_block, session_at, session}
use Rattle.ss_block.proofs.Readings.{reading_is}
use Rattle.ss_review.specs.declared.counted.counted_session.CountedSession.{CountedSession}
use Rattle.ss_review.specs.declared.counted.counter.Counter.{Counter}
use Rattle.ss_review.specs.declared.counted.counter.Counts.TheVariants.{Messages}
use Rattle.ss_review.specs.keep.BlockMessage.{BlockMessage}
use Rattle.ss_review.specs.declared.report.group_report.GroupReport.{GroupReport}
use Rattle.ss_review.specs.declared.report.session_report.SessionReport.{SessionReport}
use Rattle.ss_review.specs.keep.Notes.{notes}
use Rattle.ss_review.specs.keep.Contents.{blocks, contents}
use Rattle.ss_review.specs.sessions.Sessions.{sessions}
use Rattle.ss_review.specs.sessions.Verified.{Answers}
use Rattle.ss_review.specs.announced.Announced.{keys, rows}
use Rattle.ss_review.specs.announced.Announcing.{IsAnnounced}
use Rattle.ss_review.specs.report.Report.{groups, group_report, report}
use Rattle.ss_review.specs.counted.Counted.{counted_session, next_number}
use Rattle.ss_review.specs.counted.CountedLaws.{IsInRange, CountedAreInRange, NextNumbersAreInRange, NextNumbersFollow}
use Rattle.ss_review.specs.counted.CounterRange.{IsName, IsSession, IsNext, IsCounter}
use Rattle.ss_review.specs.counted.KeptLaws.{LogCountersAreInRange}
use Rattle.ss_review.specs.Laws.{KeysAreAnnounced}
use Rattle.ss_octets.proofs.Members.{Has, has-map, contains_from_has, from_has-map}
use Rattle.ss_review.proofs.of_counters.CountedRange.{said_in_range}
use Rattle.ss_review.proofs.of_counters.CountersGiven.{IsGiven, given, given_by}
use Rattle.ss_review.proofs.of_lists.Rising.{all_below, from_has-in_order}
use Rattle.ss_review.proofs.of_counters.Shortfalls.{report_of_session, reports_are}
use Rattle.ss_review.proofs.of_reports.Telling.{from_has-groups}
use Rattle.ss_review.proofs.of_reports.Witnesses.{stored_block}

-- ---- the session of a block

name_from : (limit : ℕ) (f : Option (List ℕ)) → is_field limit f ≡ true → IsName limit (field_from f)
name_from limit None h = h
name_from limit (Some octets) h = h

session_of_value : (v : MessageValue) (rsid : ℕ) → IsMessage v → rsid ≤ last_number → IsSession (session_from v rsid)
session_of_value v rsid valid most = record {
  host = name_from 255 v.hostname valid.hostname;
  app = name_from 48 v.app_name valid.app_name;
  procid = name_from 128 v.procid valid.procid;
  rsid = most;
}

by_reading : BlocksAreInRange → (t : List ℕ) (v : MessageValue) (r : Reading) (s : Session)
    → IsMessage v → reading t ≡ r → session_if_block r v ≡ Some s → IsSession s
by_reading range t v readings.Plain s valid is e = absurd (cc)
by_reading range t v (readings.Unparsed part pos) s valid is e = absurd (cc)
by_reading range t v (readings.Signature b) s valid is e =
    subst IsSession (same_Some _ _ e) (session_of_value v b.rsid valid (range.0 t b is).rsid)
by_reading range t v (readings.Certificate b) s valid is e =
    subst IsSession (same_Some _ _ e) (session_of_value v b.rsid valid (range.1 t b is).rsid)
by_reading range t v (readings.Spoilt cause) s valid is e = absurd (cc)

by_layout : FaultsAreOfNoMessage → BlocksAreInRange → (t : List ℕ) (r : Result Layout BadPart) (s : Session)
    → layout_at t ≡ r → session_at t r ≡ Some s → IsSession s
by_layout faults range t (Ok l) s is e =
    by_reading range t (value_at t l) (value_reading (value_at t l)) s (faults.0 t l is).0 (reading_is t (Ok l) is) e
by_layout faults range t (Err fault) s is e = absurd (cc)

read_in_range : FaultsAreOfNoMessage → BlocksAreInRange
    → (t : List ℕ) (s : Session) → session t ≡ Some s → IsSession s
unfolding session
read_in_range faults range t s e = by_layout faults range t (layout_at t) s refl e

session_in_range : FaultsAreOfNoMessage → BlocksAreInRange
    → (log : List (List ℕ)) (s : Session) → Has (sessions (blocks (notes log))) s → IsSession s
session_in_range faults range log s h =
    let bs = blocks (notes log) in
    let own : BlockMessage → Session = λ b. b.session in
    let w = from_has-map own bs s (from_has-in_order session_cmp_total session_cmp_exact s (map own bs) h) in
    let t = stored_block log w.0 w.1 in
    subst IsSession w.2 (read_in_range faults range t.0 w.0.session t.2.session_is)

-- ---- the group of an announced number, and the number that comes next

module _
    (range : BlocksAreInRange) (announced : KeysAreAnnounced) (follow : NextNumbersFollow)
    (within : NextNumbersAreInRange) (says : Answers) (log : List (List ℕ)) where
  abbrev stored : List BlockMessage
  stored = blocks (notes log)

  abbrev told : List SessionReport
  told = (report says log).sessions

  abbrev IsBelowLast : GroupReport → Type 0
  IsBelowLast g = next_number g ≤ past_last_number

  next_in_range : (s : Session) (r : GroupReport)
      → Has (sessions stored) s → Has (report_of_session says log s).groups r → IsNext (Messages r.group) (next_number r)
  next_in_range s r known has_group =
      let rs = rows says stored in
      let its = report_of_session says log s in
      let w = from_has-map (group_report (contents (notes log)).normal rs s) (groups rs s) r has_group in
      let k = from_has-groups rs s w.0 w.1 in
      let of_group : k.0.group ≡ r.group = k.3 ∙ ap (λ (x : GroupReport). x.group) w.2 in
      let there : IsAnnounced says stored k.0 = (announced says log k.0).0.0 (contains_from_has (keys rs) k.0 k.1) in
      let said = said_in_range range log there.1.message there.1.said there.1.stored there.1.says_so in
      let same : k.0 ≡ record { session = s; group = r.group; number = k.0.number }
      = λ i. record { session = k.2 i; group = of_group i; number = k.0.number } in
      let has_session : Has told its
      = subst (λ ss. Has ss its) (sym (reports_are says log)) (has-map (report_of_session says log) (sessions stored) s known) in
      let s_told : Contains told its = contains_from_has told its has_session in
      let r_told : Contains its.groups r = contains_from_has its.groups r has_group in
      let above : k.0.number < next_number r
      = (follow says log its r s_told r_told).above k.0.number (subst (IsAnnounced says stored) same there) in
      let all : All IsBelowLast its.groups
      = All-contains (λ (x : SessionReport). All IsBelowLast x.groups) told its (within says log) s_told in
      let most : next_number r ≤ past_last_number = All-contains IsBelowLast its.groups r all r_told in
      (subst IsGroup (there.1.group_is ∙ of_group) said.group, omega (arith, above), most)

-- ---- the counters

pub log_counters_are_in_range : FaultsAreOfNoMessage → BlocksAreInRange → KeysAreAnnounced → CountedAreInRange
    → NextNumbersAreInRange → NextNumbersFollow → LogCountersAreInRange
log_counters_are_in_range faults range announced counted within follow says log =
    let bs = blocks (notes log) in
    let cs = given says log in
    let found : Session → CountedSession = counted_session says bs in
    let by_session : (c : Counter) (s : Session) → Has (sessions bs) s → IsGiven says log s c → IsCounter c
    = λ c s known is.
    (let own = session_in_range faults range log s known in
    elim is [
      | inl e ↦ (
          let all : List CountedSession = map found (sessions bs) in
          let there : Contains all (found s) = contains_from_has all (found s) (has-map found (sessions bs) s known) in
          let most = All-contains IsInRange all (found s) (counted says log) there in
          subst IsCounter (sym e) (record { session = own; next = most.next }))
      | inr w ↦ (
          let next = next_in_range range announced follow within says log s w.0 known w.1 in
          subst IsCounter (sym w.2) (record { session = own; next = next }))
    ]) in
    All-from_recursion IsCounter cs (all_below IsCounter cs (λ c h. (let w = given_by says log c h in by_session c w.0 w.1 w.2)))
