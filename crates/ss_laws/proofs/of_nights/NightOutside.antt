-- What is announced outside of a night: the early numbers, and those that go beyond it.
use Rattle.std.proofs.Common.{◌≡◌, inl, inr, ℕ, ◌+◌, ◌<◌, ◌≤◌, Bool, true, List, [], map, refl, sym, ap, ◌∙◌, subst, arith}
use Rattle.std.specs.Prelude.{◌↔◌, nat_lt, nat_le, Option, Some, None, All, Contains}
use Rattle.std.specs.List.Sorted.{IsStrictlySortedBy}
use Rattle.std.proofs.lemmas.Bool.{lt-ltb, ltb-true, le-leb, leb-true}
use Rattle.std.proofs.lemmas.List.Elements.{All-contains, All-from_recursion}
use Rattle.ss_block.specs.declared.session.Session.{Session}
use Rattle.ss_block.specs.Order.{group_cmp}
use Rattle.ss_review.specs.declared.counted.counter.Counter.{Counter}
use Rattle.ss_review.specs.declared.report.entry.Entry.TheVariants as entry
use Rattle.ss_review.specs.declared.report.group_report.GroupReport.{GroupReport}
use Rattle.ss_review.specs.declared.report.report.Report.{Report}
use Rattle.ss_review.specs.declared.report.session_report.SessionReport.{SessionReport}
use Rattle.ss_review.specs.sessions.Verified.{Answers}
use Rattle.ss_review.specs.announced.Announced.{Key}
use Rattle.ss_review.specs.report.Meaning.{IsTold}
use Rattle.ss_review.specs.report.Report.{report}
use Rattle.ss_review.specs.Laws.{ReportsAreInOrder}
use Rattle.ss_review.specs.pinned.Stands.{PinnedReportsAreOfLogs}
use Rattle.ss_between.specs.Between.{number_at, SessionBetween, NumberRun, session_between, early_of, beyond_of, beyond}
use Rattle.ss_laws.specs.nights.Night.{NightReport, log_report, night_by, night_report, IsEarly, IsBeyond}
use Rattle.ss_laws.specs.nights.NightLaws.{AreRuns, IsPastTheEnd, OutsideAreThese, NumbersOutsideAreThese}
use Rattle.ss_octets.proofs.Members.{Has, has-map, has_from_contains, contains_from_has, from_has-map}
use Rattle.ss_review.proofs.of_counters.Shortfalls.{report_of_session, reports_are}
use Rattle.ss_review.proofs.of_lists.Rising.{all_below}
use Rattle.ss_laws.proofs.of_nights.NightParts.{stored, own, sessions_are}
use Rattle.ss_laws.proofs.of_nights.StandIns.{StandsIn, stand_in, same_night, told_by}
use Rattle.ss_laws.proofs.of_nights.Runs.{no_pairs}
use Rattle.ss_laws.proofs.of_nights.Outside.{EntriesRise, HasNumber, outside, IsInRuns, Passes, from_runs, to_runs, are_runs}

module _ (order : ReportsAreInOrder) (says : Answers) (log : List (List ℕ)) (first : List Counter) (second : Option (List Counter)) where
  abbrev night : NightReport
  night = night_report says log first second

  abbrev whole : Report
  whole = report says log

  abbrev its : Session → SessionReport
  its s = report_of_session says log s

  told : (s : Session) → Has (stored says log first second) s → Contains whole.sessions (its s)
  told s h = contains_from_has whole.sessions (its s) (subst (λ rs. Has rs (its s)) (sym (reports_are says log)) (has-map its (stored says log first second) s h))

  groups_rise : (s : Session) → Has (stored says log first second) s → IsStrictlySortedBy group_cmp (map (λ (g : GroupReport). g.group) (its s).groups)
  groups_rise s h = All-contains (λ (r : SessionReport). IsStrictlySortedBy group_cmp (map (λ (g : GroupReport). g.group) r.groups)) whole.sessions (its s) (order says log).groups (told s h)

  entries_rise : (s : Session) → Has (stored says log first second) s → (g : GroupReport) → Has (its s).groups g → EntriesRise g
  entries_rise s h g i =
      All-contains EntriesRise (its s).groups g
      (All-contains (λ (r : SessionReport). All EntriesRise r.groups) whole.sessions (its s) (order says log).entries (told s h))
      (contains_from_has (its s).groups g i)

  -- ---- a number of a session that passes a test

  module _ (p : Session → GroupReport → ℕ → Bool) where
    pub record IsOutside (k : Key) : Type 0 where
      pub session : Session
      pub stored_there : Has (stored says log first second) session
      pub session_is : session ≡ k.session
      pub passes : Passes (p session) (its session).groups k.group k.number

    told_of : (k : Key) (s : Session) → Has (stored says log first second) s → s ≡ k.session → (g : GroupReport) → Has (its s).groups g → g.group ≡ k.group → HasNumber g.entries k.number → IsTold whole k
    told_of k s h at g i group_at (inl l) =
        inl (l.0, record { session = its s; session_told = told s h; session_is = at; group = g; group_told = contains_from_has (its s).groups g i; group_is = group_at; entry_told = contains_from_has g.entries (entry.Listed k.number l.0) l.1 })
    told_of k s h at g i group_at (inr q) =
        inr (q.0, record { session = its s; session_told = told s h; session_is = at; group = g; group_told = contains_from_has (its s).groups g i; group_is = group_at; entry_told = contains_from_has g.entries (entry.Gap k.number q.0) q.1 })

    pub told_outside : (k : Key) → IsOutside k → IsTold whole k
    told_outside k o = told_of k o.session o.stored_there o.session_is o.passes.group o.passes.told o.passes.group_is o.passes.number

    -- the session and the group of an entry
    outside_at : (k : Key) (r : SessionReport) → Contains whole.sessions r → r.session ≡ k.session → (g : GroupReport) → Contains r.groups g → g.group ≡ k.group → HasNumber g.entries k.number
        → ((s : Session) (h : GroupReport) → s ≡ k.session → h.group ≡ k.group → p s h k.number ≡ true)
        → IsOutside k
    outside_at k r c at g d group_at number passes =
        let w = from_has-map its (stored says log first second) r (subst (λ rs. Has rs r) (reports_are says log) (has_from_contains whole.sessions r c)) in
        let session_is : w.0 ≡ k.session = ap (λ (x : SessionReport). x.session) w.2 ∙ at in
        record {
          session = w.0;
          stored_there = w.1;
          session_is = session_is;
          passes = record {
            group = g;
            told = subst (λ (x : SessionReport). Has x.groups g) (sym w.2) (has_from_contains r.groups g d);
            group_is = group_at;
            number = number;
            passes = passes w.0 g session_is group_at;
          };
        }

    pub outside_from : (k : Key) → IsTold whole k → ((s : Session) (h : GroupReport) → s ≡ k.session → h.group ≡ k.group → p s h k.number ≡ true) → IsOutside k
    outside_from k (inl l) passes =
        let t = l.1 in
        outside_at k t.session t.session_told t.session_is t.group t.group_told t.group_is (inl (l.0, has_from_contains t.group.entries (entry.Listed k.number l.0) t.entry_told)) passes
    outside_from k (inr q) passes =
        let t = q.1 in
        outside_at k t.session t.session_told t.session_is t.group t.group_told t.group_is (inr (q.0, has_from_contains t.group.entries (entry.Gap k.number q.0) t.entry_told)) passes

    pub in_runs : (k : Key) → (o : IsOutside k) → IsInRuns (p o.session) (outside (p o.session) (its o.session).groups) k.group k.number
    in_runs k o = to_runs (p o.session) (its o.session).groups (entries_rise o.session o.stored_there) k.group k.number o.passes

    pub from_in_runs : (k : Key) (s : Session) → Has (stored says log first second) s → s ≡ k.session → IsInRuns (p s) (outside (p s) (its s).groups) k.group k.number → IsOutside k
    from_in_runs k s h at w = record {
      session = s;
      stored_there = h;
      session_is = at;
      passes = from_runs (p s) (its s).groups (entries_rise s h) k.group k.number w;
    }

    pub runs_of : (s : Session) → Has (stored says log first second) s → AreRuns (outside (p s) (its s).groups)
    runs_of s h = are_runs (p s) (its s).groups (entries_rise s h) (groups_rise s h)

  -- ---- the sessions of the night

  abbrev own_of : Session → SessionBetween
  own_of s = own says log first second s

  pub session_of : (b : SessionBetween) → Contains night.sessions b → (s : Session) × Has (stored says log first second) s × (own_of s ≡ b)
  session_of b c = from_has-map own_of (stored says log first second) b (subst (λ bs. Has bs b) (sessions_are says log first second) (has_from_contains night.sessions b c))

  pub session_there : (s : Session) → Has (stored says log first second) s → Contains night.sessions (own_of s)
  session_there s h = contains_from_has night.sessions (own_of s) (subst (λ bs. Has bs (own_of s)) (sym (sessions_are says log first second)) (has-map own_of (stored says log first second) s h))

  own_session : (s : Session) → (own_of s).report.session ≡ s
  unfolding session_between
  own_session s = refl

  at_session : (k : Key) (b : SessionBetween) → b.report.session ≡ k.session → (s : Session) → own_of s ≡ b → s ≡ k.session
  at_session k b at s e = sym (own_session s) ∙ ap (λ (x : SessionBetween). x.report.session) e ∙ at

  -- ---- early

  abbrev is_below : Session → GroupReport → ℕ → Bool
  is_below s g n = nat_lt n (number_at first s g.group)

  early_is : (s : Session) → (own_of s).early ≡ outside (is_below s) (its s).groups
  unfolding session_between early_of
  early_is s = refl

  early_from : (k : Key) → IsEarly night k → IsTold whole k × (k.number < number_at first k.session k.group)
  early_from k e =
      let w = session_of e.session e.session_told in
      let at = at_session k e.session e.session_is w.0 w.2 in
      let run_told : Has (outside (is_below w.0) (its w.0).groups) e.run
      = subst (λ rs. Has rs e.run) (early_is w.0) (subst (λ (b : SessionBetween). Has b.early e.run) (sym w.2) (has_from_contains e.session.early e.run e.run_told)) in
      let o = from_in_runs is_below k w.0 w.1 at (record { run = e.run; told = run_told; group_is = e.group_is; from = e.from; to = e.to }) in
      let same : number_at first o.session o.passes.group.group ≡ number_at first k.session k.group = λ i. number_at first (o.session_is i) (o.passes.group_is i) in
      let less = ltb-true k.number (number_at first o.session o.passes.group.group) o.passes.passes in
      (told_outside is_below k o, omega (arith, less, same))

  early_to : (k : Key) → IsTold whole k × (k.number < number_at first k.session k.group) → IsEarly night k
  early_to k p =
      let less = p.1 in
      let o = outside_from is_below k p.0 (λ s g at group_at.
      (let same : number_at first s g.group ≡ number_at first k.session k.group = λ i. number_at first (at i) (group_at i) in
      lt-ltb k.number (number_at first s g.group) (omega (arith, less, same)))) in
      let r = in_runs is_below k o in
      record {
        session = own_of o.session;
        session_told = session_there o.session o.stored_there;
        session_is = own_session o.session ∙ o.session_is;
        run = r.run;
        run_told = contains_from_has (own_of o.session).early r.run (subst (λ rs. Has rs r.run) (sym (early_is o.session)) r.told);
        group_is = r.group_is;
        from = r.from;
        to = r.to;
      }

  early_runs : All (λ b. AreRuns b.early) night.sessions
  early_runs =
      All-from_recursion (λ (b : SessionBetween). AreRuns b.early) night.sessions (all_below (λ (b : SessionBetween). AreRuns b.early) night.sessions (λ b h.
      (let w = session_of b (contains_from_has night.sessions b h) in
      subst (λ (x : SessionBetween). AreRuns x.early) w.2 (subst AreRuns (sym (early_is w.0)) (runs_of is_below w.0 w.1)))))

  -- ---- beyond

  module _ (cs : List Counter) (given : second ≡ Some cs) where
    abbrev is_from : Session → GroupReport → ℕ → Bool
    is_from s g n = nat_le (number_at cs s g.group) n

    beyond_is : (s : Session) → (own_of s).beyond ≡ outside (is_from s) (its s).groups
    unfolding session_between beyond_of beyond
    beyond_is s = ap (λ o. beyond o (its s)) given

    beyond_from : (k : Key) → IsBeyond night k → IsTold whole k × (number_at cs k.session k.group ≤ k.number)
    beyond_from k e =
        let w = session_of e.session e.session_told in
        let at = at_session k e.session e.session_is w.0 w.2 in
        let run_told : Has (outside (is_from w.0) (its w.0).groups) e.run
        = subst (λ rs. Has rs e.run) (beyond_is w.0) (subst (λ (b : SessionBetween). Has b.beyond e.run) (sym w.2) (has_from_contains e.session.beyond e.run e.run_told)) in
        let o = from_in_runs is_from k w.0 w.1 at (record { run = e.run; told = run_told; group_is = e.group_is; from = e.from; to = e.to }) in
        let same : number_at cs o.session o.passes.group.group ≡ number_at cs k.session k.group = λ i. number_at cs (o.session_is i) (o.passes.group_is i) in
        let most = leb-true (number_at cs o.session o.passes.group.group) k.number o.passes.passes in
        (told_outside is_from k o, omega (arith, most, same))

    beyond_to : (k : Key) → IsTold whole k × (number_at cs k.session k.group ≤ k.number) → IsBeyond night k
    beyond_to k p =
        let low = p.1 in
        let o = outside_from is_from k p.0 (λ s g at group_at.
        (let same : number_at cs s g.group ≡ number_at cs k.session k.group = λ i. number_at cs (at i) (group_at i) in
        le-leb (number_at cs s g.group) k.number (omega (arith, low, same)))) in
        let r = in_runs is_from k o in
        record {
          session = own_of o.session;
          session_told = session_there o.session o.stored_there;
          session_is = own_session o.session ∙ o.session_is;
          run = r.run;
          run_told = contains_from_has (own_of o.session).beyond r.run (subst (λ rs. Has rs r.run) (sym (beyond_is o.session)) r.told);
          group_is = r.group_is;
          from = r.from;
          to = r.to;
        }

    runs_beyond : (s : Session) → Has (stored says log first second) s → AreRuns (own_of s).beyond
    runs_beyond s h = subst AreRuns (sym (beyond_is s)) (runs_of is_from s h)

  nothing_beyond : second ≡ None → (s : Session) → (own_of s).beyond ≡ []
  unfolding session_between beyond
  nothing_beyond none s = ap (λ o. beyond o (its s)) none

  beyond_both : (o : Option (List Counter)) → second ≡ o → (k : Key) → IsBeyond night k ↔ (IsTold whole k × IsPastTheEnd o k)
  beyond_both None none k = (
    λ e.
        (let w = session_of e.session e.session_told in
        absurd (subst (λ rs. Has rs e.run) (nothing_beyond none w.0) (subst (λ (b : SessionBetween). Has b.beyond e.run) (sym w.2) (has_from_contains e.session.beyond e.run e.run_told)))),
    λ p. absurd (p.1),
  )
  beyond_both (Some cs) given k = (beyond_from cs given k, beyond_to cs given k)

  no_runs : AreRuns []
  no_runs = record {
    some_number = All-from_recursion (λ (r : NumberRun). r.first ≤ r.last) [] tt;
    apart = no_pairs (λ r q. r.group ≡ q.group → r.last + 1 < q.first);
  }

  beyond_at : (o : Option (List Counter)) → second ≡ o → (s : Session) → Has (stored says log first second) s → AreRuns (own_of s).beyond
  beyond_at None none s h = subst AreRuns (sym (nothing_beyond none s)) no_runs
  beyond_at (Some cs) given s h = runs_beyond cs given s h

  beyond_runs : All (λ b. AreRuns b.beyond) night.sessions
  beyond_runs =
      All-from_recursion (λ (b : SessionBetween). AreRuns b.beyond) night.sessions (all_below (λ (b : SessionBetween). AreRuns b.beyond) night.sessions (λ b h.
      (let w = session_of b (contains_from_has night.sessions b h) in
      subst (λ (x : SessionBetween). AreRuns x.beyond) w.2 (beyond_at second refl w.0 w.1))))

  pub outside_are : OutsideAreThese first second whole night
  outside_are = record {
    early = λ k. (early_from k, early_to k);
    beyond = beyond_both second refl;
    early_runs = early_runs;
    beyond_runs = beyond_runs;
  }

outside_by : (first : List Counter) (second : Option (List Counter)) (r q : Report) → r.sessions ≡ q.sessions → (n : NightReport) → OutsideAreThese first second r n → OutsideAreThese first second q n
outside_by first second r q same n o = record {
  early = λ k. (λ e. (let w = (o.early k).0 e in (told_by r q same k w.0, w.1)), λ t. (o.early k).1 (told_by q r (sym same) k t.0, t.1));
  beyond = λ k. (λ e. (let w = (o.beyond k).0 e in (told_by r q same k w.0, w.1)), λ t. (o.beyond k).1 (told_by q r (sym same) k t.0, t.1));
  early_runs = o.early_runs;
  beyond_runs = o.beyond_runs;
}

pub numbers_outside : ReportsAreInOrder → PinnedReportsAreOfLogs → NumbersOutsideAreThese
numbers_outside order of_logs known says log first second =
    let w : (other : List (List ℕ)) × StandsIn known says log other = stand_in of_logs known says log in
    outside_by first second (report says w.0) (log_report known says log) w.1.sessions (night_by known says log first second)
    (subst (OutsideAreThese first second (report says w.0)) (same_night known says log w.0 w.1 first second) (outside_are order says w.0 first second))
