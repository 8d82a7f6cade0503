-- What a log announces is below the counters that it gives, so a clean log is a clean night up to them.
use Rattle.std.proofs.Common.{◌≡◌, inl, inr, ℕ, ◌<◌, ◌≤◌, Bool, true, false, ◌&&◌, List, [], ◌∷◌, map, fold, refl, sym, ap, ◌∙◌, subst, arith}
use Rattle.std.specs.Prelude.{max, if◌then◌else◌, Option, Some, Result, Ok, Err, All}
use Rattle.std.specs.List.{zip, list_all, filter_map}
use Rattle.std.proofs.lemmas.Bool.{and_parts, and_from}
use Rattle.std.proofs.lemmas.List.Elements.{All-contains, All-from_recursion}
use Rattle.ss_block.specs.declared.block.Group.{Group}
use Rattle.ss_block.specs.declared.session.Session.{Session}
use Rattle.ss_block.specs.ReadingLaws.{BlocksAreInRange}
use Rattle.ss_review.specs.declared.counted.counted_session.CountedSession.{CountedSession}
use Rattle.ss_review.specs.declared.counted.counter.Counter.{Counter}
use Rattle.ss_review.specs.declared.counted.shortfall.Shortfall.{Shortfall}
use Rattle.ss_review.specs.declared.counted.shortfall.LogShortfalls.{LogShortfalls}
use Rattle.ss_review.specs.keep.BlockMessage.{BlockMessage}
use Rattle.ss_review.specs.declared.report.entry.Entry.{Entry}
use Rattle.ss_review.specs.declared.report.entry.Entry.TheVariants as entry
use Rattle.ss_review.specs.declared.report.group_report.GroupReport.{GroupReport}
use Rattle.ss_review.specs.declared.report.report.Report.{Report}
use Rattle.ss_review.specs.declared.report.session_report.SessionReport.{SessionReport}
use Rattle.ss_review.specs.declared.report.session_report.SessionState.{SessionState}
use Rattle.ss_review.specs.declared.report.session_report.SessionState.TheVariants as states
use Rattle.ss_review.specs.keep.Notes.{notes}
use Rattle.ss_review.specs.keep.Contents.{blocks}
use Rattle.ss_review.specs.sessions.Sessions.{same_session, sessions, of_session}
use Rattle.ss_review.specs.sessions.Verified.{Answers, joined, state_in, is_valid_in, is_verified}
use Rattle.ss_review.specs.announced.Announced.{Key}
use Rattle.ss_review.specs.announced.Announcing.{IsAnnounced}
use Rattle.ss_review.specs.report.Meaning.{Tells, IsTold}
use Rattle.ss_review.specs.report.Report.{report}
use Rattle.ss_review.specs.report.Verdict.{is_joined, is_listed, is_none, is_clean}
use Rattle.ss_review.specs.Laws.{AnnouncedAreTold}
use Rattle.ss_review.specs.pinned.Stands.{PinnedReportsAreOfLogs, shortfalls_by}
use Rattle.ss_review.specs.counted.Counted.{counted_session, counted_sessions, next_number}
use Rattle.ss_review.specs.counted.CountedLaws.{NextNumbersFollow}
use Rattle.ss_review.specs.counted.Kept.{counters_of, kept_number, number_said, number_in}
use Rattle.ss_review.specs.counted.KeptLaws.{NothingIsMissing, group_given, session_given, given_beside, counters_given, log_counters}
use Rattle.ss_between.specs.Between.{number_at, entry_left, group_left, session_left, own_tail_left, run_left, gbc_at, shortfall_left, absent_left, SessionBetween, NumberRun}
use Rattle.ss_laws.specs.nights.Night.{NightReport, end_counters, log_report, night_by, report_left, shortfalls_left, IsEarly, IsBeyond}
use Rattle.ss_laws.specs.nights.NightLaws.{AreRuns, NumbersOutsideAreThese}
use Rattle.ss_laws.specs.nights.SmallNights.{own_counters, AnnouncedAreBelowOwnCounters, CleanLogsAreCleanNights}
use Rattle.ss_octets.proofs.Members.{Has, has-map, has_from_contains, contains_from_has, from_has-map, has-filter, has-flat_map, from_has-filter_map}
use Rattle.ss_between.proofs.Below.{is_group}
use Rattle.ss_review.proofs.of_counters.CountedRange.{said_in_range}
use Rattle.ss_review.proofs.of_counters.Shortfalls.{zip-map, same_is, report_of_session, reports_are}
use Rattle.ss_review.proofs.of_lists.Rising.{all_below}
use Rattle.ss_review.proofs.of_lists.Tests.{all_member, member_all}
use Rattle.ss_review.proofs.of_reports.EntriesRise.{fold_max-member}
use Rattle.ss_laws.proofs.of_nights.Left.{cut_report, cut_all}
use Rattle.ss_laws.proofs.of_nights.NightParts.{report_is, shortfalls_are}
use Rattle.ss_laws.proofs.of_nights.StandIns.{StandsIn, stand_in, same_night}
use Rattle.ss_laws.proofs.of_nights.CompleteNights.{announced_by}

-- ---- a session with a verified block is joined

joined_state : (says : Answers) (r : Result (List ℕ) SessionState) (b : BlockMessage) → is_valid_in says r b ≡ true → state_in r ≡ states.Joined
joined_state says (Ok payload) b e = refl
joined_state says (Err state) b e = absurd (let bad : false ≡ true = e in cc)

verified_state : (says : Answers) (bs : List BlockMessage) (b : BlockMessage) → is_verified says bs b ≡ true → state_in (joined says (of_session bs b.session)) ≡ states.Joined
unfolding is_verified
verified_state says bs b e = joined_state says (joined says (of_session bs b.session)) b e

-- ---- and gives the number after the last announced one of each group

module _ (told : AnnouncedAreTold) (follow : NextNumbersFollow) (range : BlocksAreInRange) (says : Answers) (log : List (List ℕ)) where
  abbrev stored : List BlockMessage
  stored = blocks (notes log)

  abbrev its : Session → SessionReport
  its s = report_of_session says log s

  abbrev given : List Counter
  given = log_counters says log

  given_if : (b : Bool) (s : Session) (g : GroupReport) → is_joined (its s).state ≡ b → b ≡ true → Has (its s).groups g → Has (if b then session_given (its s) (counted_session says stored s) else []) (group_given s g)
  given_if true s g e t h = inr (has-map (group_given s) (its s).groups g h)
  given_if false s g e t h = absurd (cc)

  group_there : (s : Session) (g : GroupReport) → Has (sessions stored) s → is_joined (its s).state ≡ true → Has (its s).groups g → Has given (group_given s g)
  unfolding counters_given
  group_there s g h joined i =
      let pairs : zip (report says log).sessions (counted_sessions says stored) ≡ map (λ t. (its t, counted_session says stored t)) (sessions stored)
      = ap (λ rs. zip rs (counted_sessions says stored)) (reports_are says log) ∙ zip-map its (counted_session says stored) (sessions stored) in
      let mine : SessionReport × CountedSession = (its s, counted_session says stored s) in
      let there : Has (zip (report says log).sessions (counted_sessions says stored)) mine
      = subst (λ ps. Has ps mine) (sym pairs) (has-map (λ t. (its t, counted_session says stored t)) (sessions stored) s h) in
      has-flat_map given_beside (zip (report says log).sessions (counted_sessions says stored)) mine (group_given s g) there
      (given_if (is_joined (its s).state) s g refl joined i)

  abbrev said : Group → Counter → ℕ
  said g c = number_said g c.counts c.next

  kept_above : (s : Session) (g : GroupReport) → Has given (group_given s g) → next_number g ≤ kept_number given s g.group
  unfolding number_in
  kept_above s g h =
      let c = group_given s g in
      let own : Has (counters_of given s) c = has-filter (λ (d : Counter). same_session d.session s) given c h (same_is s s refl) in
      let most : said g.group c ≤ fold max 0 (map (said g.group) (counters_of given s)) = fold_max-member 0 (map (said g.group) (counters_of given s)) (said g.group c) (has-map (said g.group) (counters_of given s) c own) in
      let says_it : said g.group c ≡ next_number g = ap (λ (b : Bool). if b then next_number g else 0) (is_group g.group g.group refl) in
      omega (arith, most, says_it)

  told_below : (k : Key) (e : Entry) → IsAnnounced says stored k → Tells (report says log) k.session k.group e → k.number < kept_number given k.session k.group
  told_below k e a t =
      let w = from_has-map its (sessions stored) t.session (subst (λ rs. Has rs t.session) (reports_are says log) (has_from_contains (report says log).sessions t.session t.session_told)) in
      let s = w.0 in
      let at : s ≡ k.session = ap (λ (x : SessionReport). x.session) w.2 ∙ t.session_is in
      let i : Has (its s).groups t.group = subst (λ (x : SessionReport). Has x.groups t.group) (sym w.2) (has_from_contains t.session.groups t.group t.group_told) in
      let state : (its s).state ≡ states.Joined
      = subst (λ q. state_in (joined says (of_session stored q)) ≡ states.Joined) (a.1.session_is ∙ sym at) (verified_state says stored a.1.message a.1.verified) in
      let above = kept_above s t.group (group_there s t.group w.1 (ap is_joined state) i) in
      let moved : IsAnnounced says stored (record { session = t.session.session; group = t.group.group; number = k.number })
      = subst (IsAnnounced says stored) (λ j. record { session = sym t.session_is j; group = sym t.group_is j; number = k.number }) a in
      let less : k.number < next_number t.group = (follow says log t.session t.group t.session_told t.group_told).above k.number moved in
      let same : kept_number given s t.group.group ≡ kept_number given k.session k.group = λ j. kept_number given (at j) (t.group_is j) in
      omega (arith, above, less, same)

  some_number : (k : Key) → IsAnnounced says stored k → 1 ≤ k.number
  some_number k a =
      let r = said_in_range range log a.1.message a.1.said a.1.stored a.1.says_so in
      let n = a.1.number in
      let first = r.some_first in
      omega (arith, n, first)

  pub below_own : (k : Key) → IsAnnounced says stored k → (1 ≤ k.number) × (k.number < kept_number given k.session k.group)
  below_own k a = (
    some_number k a,
    elim ((told says log k).1 a) [
      | inl l ↦ told_below k (entry.Listed k.number l.0) a l.1
      | inr g ↦ told_below k (entry.Gap k.number g.0) a g.1
    ],
  )

-- a log that stands for another one gives the same counters
same_counters : (known : Option (List (List ℕ))) (says : Answers) (log other : List (List ℕ)) → StandsIn known says log other → log_counters says other ≡ own_counters known says log
same_counters known says log other s = λ i. counters_given (s.sessions i) (counted_sessions says (s.blocks_are i))

pub announced_below : AnnouncedAreTold → NextNumbersFollow → BlocksAreInRange → PinnedReportsAreOfLogs → AnnouncedAreBelowOwnCounters
announced_below told follow range of_logs known says log k a =
    let w : (other : List (List ℕ)) × StandsIn known says log other = stand_in of_logs known says log in
    let there : IsAnnounced says (blocks (notes w.0)) k = subst (λ (bs : List BlockMessage). IsAnnounced says bs k) (sym w.1.blocks_are) a in
    subst (λ (cs : List Counter). (1 ≤ k.number) × (k.number < kept_number cs k.session k.group)) (same_counters known says log w.0 w.1) (below_own told follow range says w.0 k there)

-- ---- what is left of a clean report is clean

listed_stays : (n : ℕ) (e left : Entry) → is_listed e ≡ true → entry_left n e ≡ Some left → is_listed left ≡ true
unfolding entry_left
listed_stays n (entry.Listed number place) left t e = subst (λ x. is_listed x ≡ true) (let same : entry.Listed number place ≡ left = cc in same) refl
listed_stays n (entry.Gap number why) left t e = absurd (let bad : false ≡ true = t in cc)
listed_stays n (entry.Hole whole end) left t e = absurd (let bad : false ≡ true = t in cc)

abbrev is_group_clean : GroupReport → Bool
is_group_clean g = list_all is_listed g.entries

abbrev is_session_clean : SessionReport → Bool
is_session_clean s = is_joined s.state && list_all is_group_clean s.groups

module _ (first : List Counter) where
  group_clean : (s : Session) (g : GroupReport) → is_group_clean g ≡ true → is_group_clean (group_left first s g) ≡ true
  group_clean s g clean =
      let n = number_at first s g.group in
      member_all is_listed (filter_map (entry_left n) g.entries) (λ left h.
      (let w = from_has-filter_map (entry_left n) g.entries left h in
      listed_stays n w.0 left (all_member is_listed g.entries clean w.0 w.1) w.2))

  session_clean : (s : SessionReport) → is_session_clean s ≡ true → is_session_clean (session_left first s) ≡ true
  session_clean s clean =
      let parts = and_parts (is_joined s.state) (list_all is_group_clean s.groups) clean in
      and_from (is_joined s.state) (list_all is_group_clean (map (group_left first s.session) s.groups)) parts.0
      (member_all is_group_clean (map (group_left first s.session) s.groups) (λ left h.
      (let w = from_has-map (group_left first s.session) s.groups left h in
      subst (λ g. is_group_clean g ≡ true) w.2 (group_clean s.session w.0 (all_member is_group_clean s.groups parts.1 w.0 w.1)))))

  sessions_clean : (ss : List SessionReport) → list_all is_session_clean ss ≡ true → list_all is_session_clean (map (session_left first) ss) ≡ true
  sessions_clean ss clean =
      member_all is_session_clean (map (session_left first) ss) (λ left h.
      (let w = from_has-map (session_left first) ss left h in
      subst (λ s. is_session_clean s ≡ true) w.2 (session_clean w.0 (all_member is_session_clean ss clean w.0 w.1))))

  pub report_clean : (r : Report) → is_clean r ≡ true → is_clean (cut_report first r) ≡ true
  unfolding is_clean
  report_clean r clean =
      let all = list_all is_session_clean r.sessions in
      let no_unlisted = is_none r.unlisted in
      let no_refused = is_none r.refused in
      let no_spoilt = is_none r.spoilt in
      let third = and_parts (all && no_unlisted && no_refused) no_spoilt clean in
      let second = and_parts (all && no_unlisted) no_refused third.0 in
      let both = and_parts all no_unlisted second.0 in
      let cut = list_all is_session_clean (map (session_left first) r.sessions) in
      and_from (cut && no_unlisted && no_refused) no_spoilt (and_from (cut && no_unlisted) no_refused (and_from cut no_unlisted (sessions_clean r.sessions both.0) both.1) second.1) third.1

  -- ---- and of nothing that is missing nothing is left

  no_tails : (f : Shortfall) → f.tails ≡ [] → (shortfall_left first f).tails ≡ []
  unfolding shortfall_left
  no_tails f none = ap (filter_map (own_tail_left first f.session)) none

  no_runs : (f : Shortfall) → f.blocks ≡ [] → (shortfall_left first f).blocks ≡ []
  unfolding shortfall_left
  no_runs f none = ap (filter_map (run_left (gbc_at first f.session))) none

  pub nothing_left : (all : LogShortfalls) → NothingIsMissing all → NothingIsMissing (cut_all first all)
  unfolding absent_left
  nothing_left all nothing =
      let known = map (shortfall_left first) all.known in
      record {
        tails = All-from_recursion (λ (f : Shortfall). f.tails ≡ []) known (all_below (λ (f : Shortfall). f.tails ≡ []) known (λ f h.
            (let w = from_has-map (shortfall_left first) all.known f h in
            subst (λ (x : Shortfall). x.tails ≡ []) w.2 (no_tails w.0 (All-contains (λ (x : Shortfall). x.tails ≡ []) all.known w.0 nothing.tails (contains_from_has all.known w.0 w.1))))));
        blocks = All-from_recursion (λ (f : Shortfall). f.blocks ≡ []) known (all_below (λ (f : Shortfall). f.blocks ≡ []) known (λ f h.
            (let w = from_has-map (shortfall_left first) all.known f h in
            subst (λ (x : Shortfall). x.blocks ≡ []) w.2 (no_runs w.0 (All-contains (λ (x : Shortfall). x.blocks ≡ []) all.known w.0 nothing.blocks (contains_from_has all.known w.0 w.1))))));
        sessions = ap (absent_left first) nothing.sessions;
      }

-- ---- nothing is outside of it

run_there : (rs : List NumberRun) → ((r : NumberRun) → Has rs r → ⊥) → rs ≡ []
run_there [] none = refl
run_there (r ∷ rs) none = absurd (none r (inl refl))

abbrev at_run : SessionBetween → NumberRun → Key
at_run b r = record { session = b.report.session; group = r.group; number = r.first }

module _ (n : NightReport) where
  none_early : All (λ b. AreRuns b.early) n.sessions → ((k : Key) → IsEarly n k → ⊥) → All (λ b. b.early ≡ []) n.sessions
  none_early runs none =
      All-from_recursion (λ (b : SessionBetween). b.early ≡ []) n.sessions (all_below (λ (b : SessionBetween). b.early ≡ []) n.sessions (λ b h.
      run_there b.early (λ r i.
      (let c = contains_from_has n.sessions b h in
      let some = All-contains (λ (q : NumberRun). q.first ≤ q.last) b.early r (All-contains (λ (x : SessionBetween). AreRuns x.early) n.sessions b runs c).some_number (contains_from_has b.early r i) in
      none (at_run b r) (record { session = b; session_told = c; session_is = refl; run = r; run_told = contains_from_has b.early r i; group_is = refl; from = omega arith; to = some })))))

  none_beyond : All (λ b. AreRuns b.beyond) n.sessions → ((k : Key) → IsBeyond n k → ⊥) → All (λ b. b.beyond ≡ []) n.sessions
  none_beyond runs none =
      All-from_recursion (λ (b : SessionBetween). b.beyond ≡ []) n.sessions (all_below (λ (b : SessionBetween). b.beyond ≡ []) n.sessions (λ b h.
      run_there b.beyond (λ r i.
      (let c = contains_from_has n.sessions b h in
      let some = All-contains (λ (q : NumberRun). q.first ≤ q.last) b.beyond r (All-contains (λ (x : SessionBetween). AreRuns x.beyond) n.sessions b runs c).some_number (contains_from_has b.beyond r i) in
      none (at_run b r) (record { session = b; session_told = c; session_is = refl; run = r; run_told = contains_from_has b.beyond r i; group_is = refl; from = omega arith; to = some })))))

pub begins_at_1 : (s : Session) (g : Group) → number_at [] s g ≡ 1
unfolding number_in
begins_at_1 s g = refl

-- what is left of a night from no counter on is what is cut out of its report
night_report_is : (known : Option (List (List ℕ))) (says : Answers) (log other : List (List ℕ)) → StandsIn known says log other → (first : List Counter) (second : Option (List Counter))
    → report_left (log_report known says log) (night_by known says log first second) ≡ cut_report first (log_report known says log)
night_report_is known says log other s first second =
    let q = log_report known says log in
    ap (λ (n : NightReport). report_left q n) (sym (same_night known says log other s first second))
    ∙ ap (λ (x : Report). record q { sessions = x.sessions }) (report_is says other first second)
    ∙ ap (λ (ss : List SessionReport). record q { sessions = map (session_left first) ss }) s.sessions

night_shortfalls_are : (known : Option (List (List ℕ))) (says : Answers) (log other : List (List ℕ)) → StandsIn known says log other → (first : List Counter) (second : Option (List Counter))
    → shortfalls_left (night_by known says log first second) ≡ cut_all first (shortfalls_by known says log (end_counters second))
night_shortfalls_are known says log other s first second =
    ap shortfalls_left (sym (same_night known says log other s first second))
    ∙ shortfalls_are says other first second
    ∙ ap (cut_all first) (s.missing (end_counters second))

pub clean_logs : AnnouncedAreTold → NumbersOutsideAreThese → PinnedReportsAreOfLogs → AnnouncedAreBelowOwnCounters → CleanLogsAreCleanNights
clean_logs told outside of_logs below known says log clean nothing =
    let end = own_counters known says log in
    let r = log_report known says log in
    let n = night_by known says log [] (Some end) in
    let out = outside known says log [] (Some end) in
    let w : (other : List (List ℕ)) × StandsIn known says log other = stand_in of_logs known says log in
    let announced = λ (k : Key) (t : IsTold r k). (announced_by told of_logs known says log k).0 t in
    record {
      clean = subst (λ x. is_clean x ≡ true) (sym (night_report_is known says log w.0 w.1 [] (Some end))) (report_clean [] r clean);
      nothing_missing = subst NothingIsMissing (sym (night_shortfalls_are known says log w.0 w.1 [] (Some end))) (nothing_left [] (shortfalls_by known says log end) nothing);
      no_early = none_early n out.early_runs (λ k e.
          (let t = (out.early k).0 e in
          let low = (below known says log k (announced k t.0)).0 in
          let less = t.1 in
          let one = begins_at_1 k.session k.group in
          absurd (omega (arith, low, less, one))));
      no_beyond = none_beyond n out.beyond_runs (λ k e.
          (let t = (out.beyond k).0 e in
          let high = (below known says log k (announced k t.0)).1 in
          let low = t.1 in
          absurd (omega (arith, low, high))));
    }
