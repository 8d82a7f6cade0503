-- The report of all files so far, put together from those of the nights.
use Rattle.std.proofs.Common.{◌≡◌, ◌⊎◌, inl, inr, ℕ, ◌+◌, ◌-◌, ◌==◌, Bool, true, not, ◌&&◌, List, map, filter, refl, sym, ap, ◌∙◌, subst}
use Rattle.std.specs.Prelude.{◌↔◌, Option, Some, None}
use Rattle.std.specs.List.{list_any}
use Rattle.std.specs.Ordering.{nat_cmp}
use Rattle.std.specs.List.Sorted.{IsStrictlySortedBy}
use Rattle.std.proofs.lemmas.Bool.{and_parts, and_from, eqb-true, eq-eqb}
use Rattle.std.proofs.lemmas.Cmp.{nat_cmp_total, on_total}
use Rattle.std.proofs.lemmas.Simd.{map-map}
use Rattle.ss_block.specs.declared.block.Group.{Group}
use Rattle.ss_block.specs.declared.hash.Hash.{Hash}
use Rattle.ss_block.specs.declared.hash.HashPair.{HashPair}
use Rattle.ss_block.specs.declared.session.Session.{Session}
use Rattle.ss_review.specs.declared.report.entry.Why.{Why}
use Rattle.ss_review.specs.declared.report.entry.Why.TheVariants as whys
use Rattle.ss_review.specs.declared.report.entry.Entry.TheVariants as entry
use Rattle.ss_review.specs.declared.report.session_report.SessionReport.{SessionReport}
use Rattle.ss_review.specs.declared.report.report.Report.{Report}
use Rattle.ss_review.specs.declared.keep.message.NormalMessage.{NormalMessage}
use Rattle.ss_review.specs.keep.Contents.{Contents}
use Rattle.ss_review.specs.sessions.Sessions.{sessions, of_session}
use Rattle.ss_review.specs.sessions.Verified.{Answers, joined, state_in}
use Rattle.ss_review.specs.announced.Announced.{Key, rows}
use Rattle.ss_review.specs.assign.Assigned.{same_pair, is_taken}
use Rattle.ss_review.specs.announced.Announcing.{IsAnnounced, IsDisputedKey}
use Rattle.ss_review.specs.report.Meaning.{IsHole, Tells, IsGap, IsTold}
use Rattle.ss_review.specs.report.Report.{session_report, unlisted, report_of}
use Rattle.ss_octets.proofs.Members.{Has, has_from_contains, contains_from_has, has-map, from_has-map, has-filter, from_has-filter}
use Rattle.ss_review.proofs.of_numbers.Announcements.{announced_key}
use Rattle.ss_review.proofs.of_reports.EntriesMeant.{entry_told, entry_tells}
use Rattle.ss_review.proofs.of_lists.FilteredAlike.{same_count}
use Rattle.ss_review.proofs.of_reports.Listings.{listed_assigned, assigned_listed, gaps_are}
use Rattle.ss_review.proofs.of_assignment.OnePlaceOneKey.{assigned_cases, wanted_key}
use Rattle.ss_review.proofs.of_lists.OnesInOrder.{rise_by_key}
use Rattle.ss_review.proofs.of_lists.Tests.{any_member, member_any}
use Rattle.ss_laws.specs.carry.Nights.{Nights, night_log, so_far, listed, LeaveEnough, IsSettledBefore}
use Rattle.ss_laws.specs.carry.Together.{IsLost, IsListedWith, IsSettledWith, unlisted_with, TellPlaces, TellNumbers}
use Rattle.ss_laws.specs.carry.Reports.{night_report, states_told, ListsWith, unlisted_in, IsPutTogether}
use Rattle.ss_laws.proofs.of_carry.KeysStay.{one_hash}
use Rattle.ss_laws.proofs.of_carry.OnePair.{assigned_one}
use Rattle.ss_laws.proofs.of_carry.SettledCounts.{same_message, night_rise, so_far_rise}
use Rattle.ss_laws.proofs.of_carry.SettledKeys.{from_night_normal, from_so_far_normal, lists_one, has_pair, settled_or_not}
use Rattle.ss_review.proofs.of_assignment.StoredRuns.{PlacesRise}

-- ---- the report of a log that is part of another

module _ (says : Answers) (log : Contents) where
  -- a number is reported where it is announced
  pub told_announced : (k : Key) → IsTold (report_of says log) k → IsAnnounced says log.blocks k
  told_announced k (inl l) =
      let a = assigned_cases log.normal (rows says log.blocks) k l.0 (listed_assigned says log k l.0 l.1) in
      announced_key says log.blocks k (wanted_key log.normal (rows says log.blocks) k a.0 a.1)
  told_announced k (inr g) = ((gaps_are says log k).0 g).0

  pub announced_told : (k : Key) → IsAnnounced says log.blocks k → IsTold (report_of says log) k
  announced_told k a = at (listed says log k) refl
    where
      at : (o : Option ℕ) → listed says log k ≡ o → IsTold (report_of says log) k
      at None e = inr ((gaps_are says log k).1 (a, λ place f. (let no : None ≡ Some place = sym e ∙ f in cc)))
      at (Some place) e = inl (place, assigned_listed says log k place e)

  -- what is disputed is listed nowhere
  disputed_unlisted : (k : Key) → IsDisputedKey says log.blocks k → (o : Option ℕ) → listed says log k ≡ o → listed says log k ≡ None
  disputed_unlisted k d None e = e
  disputed_unlisted k d (Some place) e =
      let a = assigned_one log.normal (rows says log.blocks) k place e in
      absurd (d.4 (one_hash says log.blocks log.normal k a.0 a.1.wants d.0 d.1 d.2 d.3))

  pub gap_disputed : (k : Key) → IsGap (report_of says log) k whys.Disputed ↔ IsDisputedKey says log.blocks k
  gap_disputed k = (
    λ t. (entry_told says log k.session k.group (entry.Gap k.number whys.Disputed) t).2.0 refl,
    λ d. entry_tells says log k.session k.group (entry.Gap k.number whys.Disputed) ((d.0, d.2), disputed_unlisted k d (listed says log k) refl, (λ e. d, λ e. refl)),
  )

  pub gap_lost : (k : Key) → IsGap (report_of says log) k whys.Lost ↔ ((h : Hash) × IsLost says log k h)
  gap_lost k = (
    λ t. (let e = entry_told says log k.session k.group (entry.Gap k.number whys.Lost) t in
        (e.0.0, record { announced = e.0.1; undisputed = λ d. (let no : whys.Lost ≡ whys.Disputed = e.2.1 d in cc); unlisted = e.1 })),
    λ l. entry_tells says log k.session k.group (entry.Gap k.number whys.Lost) ((l.0, l.1.announced), l.1.unlisted, (λ e. absurd (cc), λ d. absurd (l.1.undisputed d))),
  )

  sessions_with : states_told (report_of says log) ≡ map (λ (s : Session). (s, state_in (joined says (of_session log.blocks s)))) (sessions log.blocks)
  unfolding report_of
  sessions_with = map-map (λ (s : SessionReport). (s.session, s.state)) (session_report says log (rows says log.blocks)) (sessions log.blocks)

module _ (x : Nights) (up : PlacesRise x.whole.normal) (says : Answers) (log : Contents) (rise : PlacesRise log.normal) (within : (m : NormalMessage) → Has log.normal m → Has x.whole.normal m) where
  -- a report lists a number with a message as the log does
  pub lists_with : (k : Key) (p : HashPair) → ListsWith x.whole (report_of says log) k p ↔ IsListedWith says log k p
  lists_with k p = (there, back)
    where
      there : ListsWith x.whole (report_of says log) k p → IsListedWith says log k p
      there l =
          let e = listed_assigned says log k l.0 l.1 in
          let a = assigned_one log.normal (rows says log.blocks) k l.0 e in
          let m = a.1.message in
          let both : Some m.place ≡ Some l.0 = sym a.1.place ∙ e in
          let at : m.place ≡ l.0 = cc in
          let h = l.2 in
          let same = same_message x up m h.message (within m a.1.stored) (has_from_contains x.whole.normal h.message h.stored) (at ∙ sym h.place_is) in
          (l.0, e, record { message = m; stored = contains_from_has log.normal m a.1.stored; place_is = at; pair_is = ap (λ (n : NormalMessage). n.pair) same ∙ h.pair_is })

      back : IsListedWith says log k p → ListsWith x.whole (report_of says log) k p
      back l =
          let h = l.2 in (
            l.0,
            assigned_listed says log k l.0 l.1,
            record { message = h.message; stored = contains_from_has x.whole.normal h.message (within h.message (has_from_contains log.normal h.message h.stored)); place_is = h.place_is; pair_is = h.pair_is },
          )

  by_place : (ms : List NormalMessage) → PlacesRise ms → IsStrictlySortedBy (λ (m n : NormalMessage). nat_cmp m.place n.place) ms
  by_place ms r = rise_by_key (λ (m : NormalMessage). m.place) nat_cmp ms r

  -- and as many messages are unlisted
  pub unlisted_told : (p : HashPair) → unlisted_in x.whole (report_of says log) p ≡ unlisted_with says log p
  unfolding report_of
  unlisted_told p =
      same_count (on_total (λ (m : NormalMessage). m.place) nat_cmp_total)
      (λ (m : NormalMessage). same_pair m.pair p && list_any (λ place. place == m.place) left_places)
      (λ (m : NormalMessage). same_pair m.pair p && is_left m)
      x.whole.normal log.normal (by_place x.whole.normal up) (by_place log.normal rise) there back
    where
      is_left : NormalMessage → Bool
      is_left m = not (is_taken log.normal (rows says log.blocks) m.place)

      left_places : List ℕ
      left_places = unlisted log.normal (rows says log.blocks)

      there : (m : NormalMessage) → Has x.whole.normal m → (same_pair m.pair p && list_any (λ place. place == m.place) left_places) ≡ true → Has log.normal m × ((same_pair m.pair p && is_left m) ≡ true)
      there m h t =
          let both = and_parts (same_pair m.pair p) (list_any (λ place. place == m.place) left_places) t in
          let w = any_member (λ place. place == m.place) left_places both.1 in
          let n = from_has-map (λ (q : NormalMessage). q.place) (filter is_left log.normal) w.0 w.1 in
          let f = from_has-filter is_left log.normal n.0 n.1 in
          let same = same_message x up n.0 m (within n.0 f.0) h (n.2 ∙ eqb-true w.0 m.place w.2) in
          (subst (Has log.normal) same f.0, and_from (same_pair m.pair p) (is_left m) both.0 (ap is_left (sym same) ∙ f.1))

      back : (m : NormalMessage) → Has log.normal m → (same_pair m.pair p && is_left m) ≡ true → Has x.whole.normal m × ((same_pair m.pair p && list_any (λ place. place == m.place) left_places) ≡ true)
      back m h t =
          let both = and_parts (same_pair m.pair p) (is_left m) t in (
            within m h,
            and_from (same_pair m.pair p) (list_any (λ place. place == m.place) left_places) both.0
                (member_any (λ place. place == m.place) left_places m.place
                (has-map (λ (q : NormalMessage). q.place) (filter is_left log.normal) m (has-filter is_left log.normal m h both.1)) (eq-eqb m.place m.place refl)),
          )

-- ---- holes

hole_of : (P Q : ℕ → Type 0) → ((n : ℕ) → P n ↔ Q n) → (first last : ℕ) → IsHole P first last → IsHole Q first last
hole_of P Q same first last hole = record {
  some_first = hole.some_first;
  some_number = hole.some_number;
  unannounced = λ n low high q. hole.unannounced n low high ((same n).1 q);
  behind = (same (last + 1)).0 hole.behind;
  before = elim hole.before [ inl e ↦ inl e | inr p ↦ inr ((same (first - 1)).0 p) ];
}

-- ---- the nights

module _ (says : Answers) (x : Nights) (last : ℕ) (up : PlacesRise x.whole.normal) (leave : LeaveEnough says x last)
    (alike : (sessions (night_log x last).blocks ≡ sessions (so_far x last).blocks)
    × ((s : Session) → joined says (of_session (night_log x last).blocks s) ≡ joined says (of_session (so_far x last).blocks s)))
    (numbers : TellNumbers says x last) (places : TellPlaces says x last) where
  abbrev all : Contents
  all = so_far x last

  abbrev whole_report : Report
  whole_report = report_of says all

  abbrev last_report : Report
  last_report = night_report says x last

  all_lists : (k : Key) (p : HashPair) → ListsWith x.whole whole_report k p ↔ IsListedWith says all k p
  all_lists = lists_with x up says all (so_far_rise x up last) (λ m h. (from_so_far_normal x last m h).0)

  last_lists : (k : Key) (p : HashPair) → ListsWith x.whole last_report k p ↔ IsListedWith says (night_log x last) k p
  last_lists = lists_with x up says (night_log x last) (night_rise x up last) (λ m h. (from_night_normal x last m h).0)

  states_put : states_told whole_report ≡ states_told last_report
  states_put =
      sessions_with says all
      ∙ (λ i. map (λ (s : Session). (s, state_in (sym (alike.1 s) i))) (sym alike.0 i))
      ∙ sym (sessions_with says (night_log x last))

  listed_put : (k : Key) (p : HashPair) → ListsWith x.whole whole_report k p ↔ (ListsWith x.whole last_report k p ⊎ IsSettledWith says x last k p)
  listed_put k p = (
    λ l. elim ((numbers.listed k p).0 ((all_lists k p).0 l)) [ inl m ↦ inl ((last_lists k p).1 m) | inr s ↦ inr s ],
    λ c. (all_lists k p).1 ((numbers.listed k p).1 (elim c [ inl l ↦ inl ((last_lists k p).0 l) | inr s ↦ inr s ])),
  )

  gaps_put : (k : Key) (why : Why) → IsGap whole_report k why ↔ (IsGap last_report k why × (¬ IsSettledBefore says x last k))
  gaps_put k whys.Lost = (
    λ t. (let l = (gap_lost says all k).0 t in
        let w = (numbers.lost k l.0).0 l.1 in
        ((gap_lost says (night_log x last) k).1 (l.0, w.0), w.1)),
    λ t. (let l = (gap_lost says (night_log x last) k).0 t.0 in (gap_lost says all k).1 (l.0, (numbers.lost k l.0).1 (l.1, t.1))),
  )
  gaps_put k whys.Disputed = (
    λ t. (let d = (numbers.disputed k).0 ((gap_disputed says all k).0 t) in ((gap_disputed says (night_log x last) k).1 d.0, d.1)),
    λ t. (gap_disputed says all k).1 ((numbers.disputed k).1 ((gap_disputed says (night_log x last) k).0 t.0, t.1)),
  )

  -- a number is reported in the end exactly where the last night reports it, or it was settled
  told_put : (k : Key) → IsTold whole_report k ↔ (IsTold last_report k ⊎ IsSettledBefore says x last k)
  told_put k = (there, back)
    where
      there : IsTold whole_report k → IsTold last_report k ⊎ IsSettledBefore says x last k
      there (inl l) =
          let o = assigned_one all.normal (rows says all.blocks) k l.0 (listed_assigned says all k l.0 l.1) in
          let m = o.1.message in
          let given : IsListedWith says all k o.0
          = (m.place, o.1.place, record { message = m; stored = contains_from_has all.normal m o.1.stored; place_is = refl; pair_is = o.1.pair_is }) in
          elim ((numbers.listed k o.0).0 given) [
            | inl n ↦ inl (inl (n.0, assigned_listed says (night_log x last) k n.0 n.1))
            | inr s ↦ inr (s.0, s.1, s.2, s.3)
          ]
      there (inr g) = inl (inr (g.0, ((gaps_put k g.0).0 g.1).0))

      settled_told : IsSettledBefore says x last k → IsTold whole_report k
      settled_told s =
          let o = lists_one x says s.0 k s.1 s.3.listed in
          let w = (numbers.listed k o.message.pair).1 (inr (s.0, s.1, s.2, s.3, has_pair x says s.0 k s.1 o)) in
          inl (w.0, assigned_listed says all k w.0 w.1)

      last_told : IsTold last_report k → (IsSettledBefore says x last k → ⊥) → IsTold whole_report k
      last_told (inl l) n =
          let o = assigned_one (night_log x last).normal (rows says (night_log x last).blocks) k l.0 (listed_assigned says (night_log x last) k l.0 l.1) in
          let m = o.1.message in
          let w = (numbers.listed k o.0).1 (inl (m.place, o.1.place, record { message = m; stored = contains_from_has (night_log x last).normal m o.1.stored; place_is = refl; pair_is = o.1.pair_is })) in
          inl (w.0, assigned_listed says all k w.0 w.1)
      last_told (inr g) n = inr (g.0, (gaps_put k g.0).1 (g.1, n))

      back : IsTold last_report k ⊎ IsSettledBefore says x last k → IsTold whole_report k
      back (inl t) = elim (settled_or_not x says last leave k) [ inl s ↦ settled_told s | inr n ↦ last_told t n ]
      back (inr s) = settled_told s

  abbrev IsNumber : Session → Group → ℕ → Type 0
  IsNumber s g n = IsAnnounced says all.blocks (record { session = s; group = g; number = n })

  abbrev IsToldNumber : Session → Group → ℕ → Type 0
  IsToldNumber s g n =
      IsTold last_report (record { session = s; group = g; number = n }) ⊎ IsSettledBefore says x last (record { session = s; group = g; number = n })

  numbers_alike : (s : Session) (g : Group) (n : ℕ) → IsNumber s g n ↔ IsToldNumber s g n
  numbers_alike s g n =
      let k : Key = record { session = s; group = g; number = n } in (
        λ a. (told_put k).0 (announced_told says all k a),
        λ t. told_announced says all k ((told_put k).1 t),
      )

  holes_put : (s : Session) (g : Group) (from to : ℕ) → Tells whole_report s g (entry.Hole from to) ↔ IsHole (IsToldNumber s g) from to
  holes_put s g from to = (
    λ t. hole_of (IsNumber s g) (IsToldNumber s g) (numbers_alike s g) from to (entry_told says all s g (entry.Hole from to) t),
    λ h. entry_tells says all s g (entry.Hole from to)
        (hole_of (IsToldNumber s g) (IsNumber s g) (λ n. ((numbers_alike s g n).1, (numbers_alike s g n).0)) from to h),
  )

  unlisted_put : (p : HashPair) → unlisted_in x.whole whole_report p ≡ unlisted_in x.whole last_report p
  unlisted_put p =
      unlisted_told x up says all (so_far_rise x up last) (λ m h. (from_so_far_normal x last m h).0) p
      ∙ numbers.unlisted p
      ∙ sym (unlisted_told x up says (night_log x last) (night_rise x up last) (λ m h. (from_night_normal x last m h).0) p)

  pub put_together : IsPutTogether says x last whole_report
  unfolding report_of
  put_together = record {
    states = states_put;
    listed = listed_put;
    gaps = gaps_put;
    holes = holes_put;
    unlisted = unlisted_put;
    refused = places.refused;
    spoilt = places.spoilt;
    count = places.count;
  }
