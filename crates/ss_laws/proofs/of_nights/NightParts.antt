-- The sessions of a night are those of the log, each with what is left of it.
use Rattle.std.proofs.Common.{◌≡◌, ◌⊎◌, inl, inr, ℕ, ◌≤◌, true, List, [], map, refl, sym, ap, ◌∙◌, subst, arith}
use Rattle.std.specs.Prelude.{◌↔◌, Option, Contains}
use Rattle.std.specs.List.{zip}
use Rattle.std.proofs.lemmas.Simd.{map-map}
use Rattle.ss_block.specs.declared.session.Session.{Session}
use Rattle.ss_review.specs.declared.counted.counter.Counter.{Counter}
use Rattle.ss_review.specs.declared.counted.shortfall.LogShortfalls.{LogShortfalls}
use Rattle.ss_review.specs.declared.report.group_report.GroupReport.{GroupReport}
use Rattle.ss_review.specs.declared.report.report.Report.{Report}
use Rattle.ss_review.specs.declared.report.session_report.SessionReport.{SessionReport}
use Rattle.ss_review.specs.keep.Notes.{notes}
use Rattle.ss_review.specs.keep.Contents.{blocks}
use Rattle.ss_review.specs.sessions.Sessions.{sessions}
use Rattle.ss_review.specs.sessions.Verified.{Answers}
use Rattle.ss_review.specs.keep.BlockMessage.{BlockMessage}
use Rattle.ss_review.specs.declared.report.entry.Entry.{Entry}
use Rattle.ss_review.specs.declared.report.entry.Entry.TheVariants as entry
use Rattle.ss_review.specs.pinned.Stands.{PinnedReportsAreOfLogs, shortfalls_by}
use Rattle.ss_review.specs.counted.CountedLaws.{IsCounted}
use Rattle.ss_review.specs.report.Report.{report}
use Rattle.ss_review.specs.announced.Announced.{Key}
use Rattle.ss_review.specs.report.Meaning.{Tells, IsListed, IsGap}
use Rattle.ss_review.specs.counted.KeptLaws as fates
use Rattle.ss_review.specs.counted.KeptLaws.{shortfalls_of, IsInHole, IsInTail, IsInRunOf, Fate, HasFate, EveryNumberIsTold, EveryBlockIsTold}
use Rattle.ss_between.specs.Between.{number_at, gbc_at, has_counter, SessionBetween, session_between, session_left, shortfall_left, absent_left}
use Rattle.ss_laws.specs.nights.Night.{NightReport, end_counters, log_blocks, log_report, night_by, night_report, report_left, shortfalls_left}
use Rattle.ss_laws.specs.nights.NightLaws.{LeavesOutTheRest, NightsLeaveOutTheRest, NumbersOfNightsAreTold, BlocksOfNightsAreTold}
use Rattle.ss_review.proofs.of_counters.Shortfalls.{zip-map, report_of_session, reports_are, known_of, known_are}
use Rattle.ss_laws.proofs.of_nights.StandIns.{StandsIn, stand_in, same_night, tells_by, hole_by}
use Rattle.ss_laws.proofs.of_nights.Left.{cut_report, cut_all, listed_both, gap_both, hole_both, tail_both, run_both, absent_or_idle, absent_from}

module _ (says : Answers) (log : List (List ℕ)) (first : List Counter) (second : Option (List Counter)) where
  abbrev pub night : NightReport
  night = night_report says log first second

  abbrev pub whole : Report
  whole = report says log

  abbrev pub all : LogShortfalls
  all = shortfalls_of says log (end_counters second)

  abbrev pub stored : List Session
  stored = sessions (blocks (notes log))

  abbrev pub own : Session → SessionBetween
  own s = session_between first second (report_of_session says log s, known_of says log (end_counters second) s)

  pub sessions_are : night.sessions ≡ map own stored
  unfolding night_by
  sessions_are =
      (λ i. map (session_between first second) (zip (reports_are says log i) (known_are says log (end_counters second) i)))
      ∙ ap (map (session_between first second)) (zip-map (report_of_session says log) (known_of says log (end_counters second)) stored)
      ∙ map-map (session_between first second) (λ s. (report_of_session says log s, known_of says log (end_counters second) s)) stored

  absent_are : night.absent ≡ absent_left first all.absent
  unfolding night_by
  absent_are = refl

  of_sessions : {X : Type 0} (f : SessionBetween → X) (g : SessionReport → X) → ((s : Session) → f (own s) ≡ g (report_of_session says log s)) → map f night.sessions ≡ map g whole.sessions
  of_sessions f g e =
      ap (map f) sessions_are
      ∙ map-map f own stored
      ∙ (λ i. map (λ s. e s i) stored)
      ∙ sym (map-map g (report_of_session says log) stored)
      ∙ ap (map g) (sym (reports_are says log))

  reports_cut : map (λ (b : SessionBetween). b.report) night.sessions ≡ map (session_left first) whole.sessions
  unfolding session_between
  reports_cut = of_sessions (λ b. b.report) (session_left first) (λ s. refl)

  shorts_cut : map (λ (b : SessionBetween). b.short) night.sessions ≡ map (shortfall_left first) all.known
  unfolding session_between
  shorts_cut =
      ap (map (λ (b : SessionBetween). b.short)) sessions_are
      ∙ map-map (λ (b : SessionBetween). b.short) own stored
      ∙ sym (map-map (shortfall_left first) (known_of says log (end_counters second)) stored)
      ∙ ap (map (shortfall_left first)) (sym (known_are says log (end_counters second)))

  pub report_is : report_left whole night ≡ cut_report first whole
  report_is = ap (λ (ss : List SessionReport). record whole { sessions = ss }) reports_cut

  pub shortfalls_are : shortfalls_left night ≡ cut_all first all
  shortfalls_are = λ i. record { known = shorts_cut i; absent = absent_are i }

  sessions_stay : map (λ (b : SessionBetween). b.report.session) night.sessions ≡ map (λ (s : SessionReport). s.session) whole.sessions
  unfolding session_between
  sessions_stay = of_sessions (λ b. b.report.session) (λ s. s.session) (λ s. refl)

  states_stay : map (λ (b : SessionBetween). b.report.state) night.sessions ≡ map (λ (s : SessionReport). s.state) whole.sessions
  unfolding session_between
  states_stay = of_sessions (λ b. b.report.state) (λ s. s.state) (λ s. refl)

  groups_stay : map (λ (b : SessionBetween). map (λ (g : GroupReport). g.group) b.report.groups) night.sessions ≡ map (λ (s : SessionReport). map (λ (g : GroupReport). g.group) s.groups) whole.sessions
  unfolding session_between
  groups_stay =
      of_sessions (λ b. map (λ (g : GroupReport). g.group) b.report.groups) (λ s. map (λ (g : GroupReport). g.group) s.groups)
      (λ s. map-map (λ (g : GroupReport). g.group) _ (report_of_session says log s).groups)

  pub leaves_out : LeavesOutTheRest first whole all night
  leaves_out = record {
    sessions = sessions_stay;
    states = states_stay;
    groups = groups_stay;
    listed = λ k place. subst (λ (r : Report). IsListed r k place ↔ IsListed whole k place) (sym report_is) (listed_both first whole k place);
    gaps = λ k why. subst (λ (r : Report). IsGap r k why ↔ IsGap whole k why) (sym report_is) (gap_both first whole k why);
    holes = λ k. subst (λ (r : Report). IsInHole r k ↔ (IsInHole whole k × (number_at first k.session k.group ≤ k.number))) (sym report_is) (hole_both first whole k);
    tails = λ k. subst (λ (x : LogShortfalls). IsInTail x k ↔ (IsInTail all k × (number_at first k.session k.group ≤ k.number))) (sym shortfalls_are) (tail_both first all k);
    runs = λ s gbc. subst (λ (x : LogShortfalls). IsInRunOf x s gbc ↔ (IsInRunOf all s gbc × (gbc_at first s ≤ gbc))) (sym shortfalls_are) (run_both first all s gbc);
    absent = λ f c. subst (λ (x : LogShortfalls). Contains x.absent (shortfall_left first f) ⊎ ((has_counter first f.session ≡ true) × ((shortfall_left first f).tails ≡ []) × ((shortfall_left first f).blocks ≡ []))) (sym shortfalls_are) (absent_or_idle first all f c);
    none_added = λ f c. absent_from first all f (subst (λ (x : LogShortfalls). Contains x.absent f) shortfalls_are c);
  }

-- ---- the same by payloads that are known beforehand

leaves_by : (first : List Counter) (r q : Report) → r.sessions ≡ q.sessions → (missing : LogShortfalls) (n : NightReport) → LeavesOutTheRest first r missing n → LeavesOutTheRest first q missing n
leaves_by first r q same missing n l = record {
  sessions = l.sessions ∙ ap (map (λ (s : SessionReport). s.session)) same;
  states = l.states ∙ ap (map (λ (s : SessionReport). s.state)) same;
  groups = l.groups ∙ ap (map (λ (s : SessionReport). map (λ (g : GroupReport). g.group) s.groups)) same;
  listed = λ k place. (λ t. to k (entry.Listed k.number place) ((l.listed k place).0 (from k (entry.Listed k.number place) t)), λ t. back k (entry.Listed k.number place) ((l.listed k place).1 (away k (entry.Listed k.number place) t)));
  gaps = λ k why. (λ t. to k (entry.Gap k.number why) ((l.gaps k why).0 (from k (entry.Gap k.number why) t)), λ t. back k (entry.Gap k.number why) ((l.gaps k why).1 (away k (entry.Gap k.number why) t)));
  holes = λ k. (λ h. (let w = (l.holes k).0 (hole_by (report_left q n) (report_left r n) refl k h) in (hole_by r q same k w.0, w.1)), λ h. hole_by (report_left r n) (report_left q n) refl k ((l.holes k).1 (hole_by q r (sym same) k h.0, h.1)));
  tails = l.tails;
  runs = l.runs;
  absent = l.absent;
  none_added = l.none_added;
}
  where
    to : (k : Key) (e : Entry) → Tells r k.session k.group e → Tells q k.session k.group e
    to k e t = tells_by r q same k.session k.group e t

    away : (k : Key) (e : Entry) → Tells q k.session k.group e → Tells r k.session k.group e
    away k e t = tells_by q r (sym same) k.session k.group e t

    from : (k : Key) (e : Entry) → Tells (report_left q n) k.session k.group e → Tells (report_left r n) k.session k.group e
    from k e t = tells_by (report_left q n) (report_left r n) refl k.session k.group e t

    back : (k : Key) (e : Entry) → Tells (report_left r n) k.session k.group e → Tells (report_left q n) k.session k.group e
    back k e t = tells_by (report_left r n) (report_left q n) refl k.session k.group e t

pub leave_out_the_rest : PinnedReportsAreOfLogs → NightsLeaveOutTheRest
leave_out_the_rest of_logs known says log first second =
    let w : (other : List (List ℕ)) × StandsIn known says log other = stand_in of_logs known says log in
    let all = shortfalls_by known says log (end_counters second) in
    let by_night = subst (LeavesOutTheRest first (report says w.0) (shortfalls_of says w.0 (end_counters second))) (same_night known says log w.0 w.1 first second) (leaves_out says w.0 first second) in
    let by_all = subst (λ (x : LogShortfalls). LeavesOutTheRest first (report says w.0) x (night_by known says log first second)) (w.1.missing (end_counters second)) by_night in
    leaves_by first (report says w.0) (log_report known says log) w.1.sessions all (night_by known says log first second) by_all

-- ---- each number and each GBC of the night

fate_both : (first : List Counter) (r : Report) (missing : LogShortfalls) (n : NightReport) → LeavesOutTheRest first r missing n → (k : Key) → number_at first k.session k.group ≤ k.number
    → (fate : Fate) → HasFate (report_left r n) (shortfalls_left n) k fate ↔ HasFate r missing k fate
fate_both first r missing n left k low fates.Listed = (λ h. (h.0, (left.listed k h.0).0 h.1), λ h. (h.0, (left.listed k h.0).1 h.1))
fate_both first r missing n left k low fates.Gap = (λ h. (h.0, (left.gaps k h.0).0 h.1), λ h. (h.0, (left.gaps k h.0).1 h.1))
fate_both first r missing n left k low fates.Hole = (λ h. ((left.holes k).0 h).0, λ h. (left.holes k).1 (h, low))
fate_both first r missing n left k low fates.Tail = (λ h. ((left.tails k).0 h).0, λ h. (left.tails k).1 (h, low))

fate_by : (r q : Report) → r.sessions ≡ q.sessions → (missing : LogShortfalls) (k : Key) (fate : Fate) → HasFate r missing k fate → HasFate q missing k fate
fate_by r q same missing k fates.Listed h = (h.0, tells_by r q same k.session k.group (entry.Listed k.number h.0) h.1)
fate_by r q same missing k fates.Gap h = (h.0, tells_by r q same k.session k.group (entry.Gap k.number h.0) h.1)
fate_by r q same missing k fates.Hole h = hole_by r q same k h
fate_by r q same missing k fates.Tail h = h

pub numbers_told : EveryNumberIsTold → PinnedReportsAreOfLogs → NightsLeaveOutTheRest → NumbersOfNightsAreTold
numbers_told told of_logs left known says log first second k low high =
    let n = night_by known says log first second in
    let all = shortfalls_by known says log (end_counters second) in
    let o : (other : List (List ℕ)) × StandsIn known says log other = stand_in of_logs known says log in
    let both = fate_both first (log_report known says log) all n (left known says log first second) k low in
    let some : 1 ≤ k.number = omega (arith, low) in
    let w = (told says o.0 (end_counters second) k).0 some high in
    let missing : shortfalls_of says o.0 (end_counters second) ≡ all = o.1.missing (end_counters second) in
    let here : (fate : Fate) → HasFate (report says o.0) (shortfalls_of says o.0 (end_counters second)) k fate → HasFate (log_report known says log) all k fate = λ fate h. fate_by (report says o.0) (log_report known says log) o.1.sessions all k fate (subst (λ (x : LogShortfalls). HasFate (report says o.0) x k fate) missing h) in
    let there : (fate : Fate) → HasFate (log_report known says log) all k fate → HasFate (report says o.0) (shortfalls_of says o.0 (end_counters second)) k fate = λ fate h. subst (λ (x : LogShortfalls). HasFate (report says o.0) x k fate) (sym missing) (fate_by (log_report known says log) (report says o.0) (sym o.1.sessions) all k fate h) in
    (w.0, (both w.0).1 (here w.0 w.1), λ other h. w.2 other (there other ((both other).0 h)))

pub blocks_told : EveryBlockIsTold → PinnedReportsAreOfLogs → NightsLeaveOutTheRest → BlocksOfNightsAreTold
blocks_told told of_logs left known says log first second s gbc =
    let both = (left known says log first second).runs s gbc in
    let o : (other : List (List ℕ)) × StandsIn known says log other = stand_in of_logs known says log in
    let missing : shortfalls_of says o.0 (end_counters second) ≡ shortfalls_by known says log (end_counters second) = o.1.missing (end_counters second) in
    let w = told says o.0 (end_counters second) s gbc in
    let counted = λ (c : IsCounted says (blocks (notes o.0)) s gbc). subst (λ (bs : List BlockMessage). IsCounted says bs s gbc) o.1.blocks_are c in
    let counted_there = λ (c : IsCounted says (log_blocks known says log) s gbc). subst (λ (bs : List BlockMessage). IsCounted says bs s gbc) (sym o.1.blocks_are) c in (
      λ low high. elim (w.0 high) [ inl c ↦ inl (counted c) | inr r ↦ inr (both.1 (subst (λ (x : LogShortfalls). IsInRunOf x s gbc) missing r, low)) ],
      λ c r. w.1 (counted_there c) (subst (λ (x : LogShortfalls). IsInRunOf x s gbc) (sym missing) (both.0 r).0),
    )
