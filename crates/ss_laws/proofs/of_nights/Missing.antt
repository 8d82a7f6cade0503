-- What is missing is reported once: a tail of a group whole, and the runs of blocks up to their end.
use Rattle.std.proofs.Common.{◌≡◌, inl, inr, ℕ, true, false, List, map, filter, refl, sym, ap, ◌∙◌, subst, arith}
use Rattle.std.specs.Prelude.{Contains}
use Rattle.std.specs.List.{list_any}
use Rattle.std.specs.List.Sorted.{IsStrictlySortedBy}
use Rattle.std.proofs.lemmas.Bool.{not-true, cases_lt}
use Rattle.std.proofs.lemmas.List.{map-id}
use Rattle.std.proofs.lemmas.List.Elements.{All-from_recursion}
use Rattle.std.proofs.lemmas.Simd.{map-map}
use Rattle.ss_block.specs.declared.session.Session.{Session}
use Rattle.ss_block.specs.Order.{session_cmp, group_cmp}
use Rattle.ss_block.specs.OrderLaws.{session_cmp_total, session_cmp_exact}
use Rattle.ss_review.specs.declared.counted.counter.Counter.{Counter}
use Rattle.ss_review.specs.declared.counted.shortfall.GroupTail.{GroupTail}
use Rattle.ss_review.specs.declared.counted.shortfall.Shortfall.{Shortfall}
use Rattle.ss_review.specs.declared.counted.shortfall.LogShortfalls.{LogShortfalls}
use Rattle.ss_review.specs.declared.report.session_report.SessionReport.{SessionReport}
use Rattle.ss_review.specs.keep.BlockMessage.{BlockMessage}
use Rattle.ss_review.specs.keep.Notes.{notes}
use Rattle.ss_review.specs.keep.Contents.{blocks}
use Rattle.ss_review.specs.sessions.Sessions.{same_session, sessions}
use Rattle.ss_review.specs.sessions.Verified.{Answers}
use Rattle.ss_review.specs.report.Report.{report}
use Rattle.ss_review.specs.Laws.{AnnouncedAreTold, ReportsAreInOrder}
use Rattle.ss_review.specs.pinned.Stands.{PinnedReportsAreOfLogs}
use Rattle.ss_review.specs.counted.Counted.{gbcs, next_after, missing}
use Rattle.ss_review.specs.counted.CountedLaws.{IsCounted, AreMissing, CountedAreVerified, CountedOrMissing, NextGbcFollows, NextNumbersFollow}
use Rattle.ss_review.specs.counted.Kept.{counters_of, kept_sessions, kept_gbc, number_in, groups_in, number_behind, tails_in, end_of_blocks}
use Rattle.ss_review.specs.counted.KeptLaws.{shortfalls_of, IsToldOf}
use Rattle.ss_between.specs.Between.{has_counter}
use Rattle.ss_laws.specs.nights.Night.{log_blocks, log_report}
use Rattle.ss_laws.specs.nights.MissingLaws.{IsWholeTail, IsEndOfBlocks, AreWholeRuns, IsReportedOnce, MissingIsReportedOnce}
use Rattle.ss_laws.proofs.of_nights.StandIns.{StandsIn, stand_in}
use Rattle.ss_octets.proofs.Members.{Has, has-map, has_from_contains, from_has-filter}
use Rattle.ss_between.proofs.Below.{from_tails, own_tails_rise, of_tail}
use Rattle.ss_review.proofs.of_counters.Fates.{announced_below, behind_is}
use Rattle.ss_review.proofs.of_counters.Shortfalls.{same_is, sessions_are, known_of, known_are, absent_of, is_absent, absent_are, IsOf, told_is, is_same, there}
use Rattle.ss_review.proofs.of_lists.Keyed.{keys_rise-filter}
use Rattle.ss_review.proofs.of_lists.Rising.{all_below, rises-in_order}
use Rattle.ss_review.proofs.of_lists.Tests.{any_member, member_any}

abbrev of : Shortfall → Session
of f = f.session

module _ (announced : AnnouncedAreTold) (order : ReportsAreInOrder) (numbers : NextNumbersFollow) (verified : CountedAreVerified) (or_missing : CountedOrMissing) (follows : NextGbcFollows) (says : Answers) (log : List (List ℕ)) (cs : List Counter) where
  abbrev all : LogShortfalls
  all = shortfalls_of says log cs

  abbrev its_gbcs : Session → List ℕ
  its_gbcs s = gbcs says (blocks (notes log)) s

  -- ---- tails

  tails_are : (f : Shortfall) → (o : IsOf says log cs f) → f.tails ≡ tails_in (counters_of cs f.session) o.groups
  tails_are f o = ap (λ (x : Shortfall). x.tails) o.is

  one_tail : (f : Shortfall) → IsToldOf all f → IsStrictlySortedBy group_cmp (map (λ t. t.group) f.tails)
  one_tail f told =
      let o = told_is says log cs verified f told in
      subst (λ (ts : List GroupTail). IsStrictlySortedBy group_cmp (map of_tail ts)) (sym (tails_are f o)) (own_tails_rise (counters_of cs f.session) o.groups)

  whole_tail : (f : Shortfall) → IsToldOf all f → (t : GroupTail) → Has f.tails t → IsWholeTail says (blocks (notes log)) cs f.session t
  unfolding tails_in
  whole_tail f told t h =
      let o = told_is says log cs verified f told in
      let s = f.session in
      let gs = o.groups in
      let own = counters_of cs s in
      let w = from_tails (number_behind gs) (number_in own) (groups_in own) t (subst (λ ts. Has ts t) (tails_are f o) h) in
      let is = w.2 in
      let some = is.some in
      let last = is.last_is in
      let same : number_in own w.0 ≡ number_in own t.group = ap (number_in own) (sym is.group_is) in
      let first_at : t.first ≡ number_behind gs t.group = is.first_is ∙ ap (number_behind gs) (sym is.group_is) in
      record {
        above = λ n a. (let l = announced_below announced order numbers says log s t.group gs n o.groups_are a in omega (arith, l, first_at));
        behind = elim (behind_is announced order numbers says log s t.group gs o.groups_are) [
          | inl one ↦ inl (first_at ∙ one)
          | inr b ↦ inr (b.0, b.1, first_at ∙ b.2)
        ];
        some_number = (let first = is.first_is in omega (arith, some, first, last));
        up_to = omega (arith, some, last, same);
      }

  -- ---- signature blocks

  end_is : (s : Session) → IsEndOfBlocks says (blocks (notes log)) cs s (end_of_blocks (counters_of cs s) (its_gbcs s))
  end_is s =
      let next = follows says log s in
      let end = end_of_blocks (counters_of cs s) (its_gbcs s) in
      record {
        from_counter = omega arith;
        above = λ n c. (let l = next.above n c in omega (arith, l));
        no_more = elim next.behind [
          | inl zero ↦ inl (omega (arith, zero))
          | inr w ↦ (elim (cases_lt (kept_gbc cs s) (next_after (its_gbcs s))) [
            | inl less ↦ inr (w.0, w.1, (let last = w.2 in omega (arith, last, less)))
            | inr more ↦ inl (omega (arith, more))
          ])
        ];
      }

  whole_runs : (f : Shortfall) → IsToldOf all f → AreWholeRuns says (blocks (notes log)) cs f
  whole_runs f told =
      let o = told_is says log cs verified f told in
      let s = f.session in
      let end = end_of_blocks (counters_of cs s) (its_gbcs s) in
      let is : f.blocks ≡ missing (its_gbcs s) end = ap (λ (x : Shortfall). x.blocks) o.is in
      record {
        end = end;
        end_is = end_is s;
        missing = subst (AreMissing (IsCounted says (blocks (notes log)) s) end) (sym is) (or_missing says log s end);
      }

  -- ---- sessions

  known_sessions : map of all.known ≡ map (λ (r : SessionReport). r.session) (report says log).sessions
  known_sessions =
      ap (map of) (known_are says log cs)
      ∙ map-map of (known_of says log cs) (sessions (blocks (notes log)))
      ∙ map-id (sessions (blocks (notes log)))
      ∙ sym (sessions_are says log)

  abbrev absents : List Session
  absents = filter (is_absent says log cs) (kept_sessions cs)

  absent_sessions : map of all.absent ≡ absents
  absent_sessions = ap (map of) (absent_are says log cs) ∙ map-map of (absent_of says log cs) absents ∙ map-id absents

  kept_rise : IsStrictlySortedBy session_cmp (kept_sessions cs)
  unfolding kept_sessions
  kept_rise = rises-in_order session_cmp_total session_cmp_exact (map (λ (c : Counter). c.session) cs)

  absents_rise : IsStrictlySortedBy session_cmp absents
  absents_rise =
      subst (IsStrictlySortedBy session_cmp) (map-id absents)
      (keys_rise-filter (λ (s : Session). s) session_cmp (is_absent says log cs) (kept_sessions cs) (subst (IsStrictlySortedBy session_cmp) (sym (map-id (kept_sessions cs))) kept_rise))

  its_session : (f : Shortfall) → Has all.absent f → Has (kept_sessions cs) f.session × (is_absent says log cs f.session ≡ true)
  its_session f h = from_has-filter (is_absent says log cs) (kept_sessions cs) f.session (subst (λ ss. Has ss f.session) absent_sessions (has-map of all.absent f h))

  has_its_counter : (f : Shortfall) → Has all.absent f → has_counter cs f.session ≡ true
  has_its_counter f h = member_any (same_session f.session) (kept_sessions cs) f.session (its_session f h).0 (same_is f.session f.session refl)

  no_report : (f : Shortfall) (r : SessionReport) → Contains all.absent f → Contains (report says log).sessions r → ¬ (r.session ≡ f.session)
  no_report f r c d at =
      let ss = sessions (blocks (notes log)) in
      let i : Has ss f.session = subst (Has ss) at (subst (λ xs. Has xs r.session) (sessions_are says log) (has-map (λ (x : SessionReport). x.session) (report says log).sessions r (has_from_contains (report says log).sessions r d))) in
      let there : list_any (same_session f.session) ss ≡ true = member_any (same_session f.session) ss f.session i (same_is f.session f.session refl) in
      let bad : true ≡ false = sym there ∙ not-true (list_any (same_session f.session) ss) (its_session f (has_from_contains all.absent f c)).1 in
      absurd (cc)

  each_has_one : (s : Session) → has_counter cs s ≡ true → (f : Shortfall) × IsToldOf all f × (f.session ≡ s)
  each_has_one s e =
      let w = any_member (same_session s) (kept_sessions cs) e in
      let t = there says log cs s (subst (Has (kept_sessions cs)) (sym (is_same s w.0 w.2)) w.1) in
      (t.shortfall, t.told, t.session_is)

  pub reported_once : IsReportedOnce says (blocks (notes log)) (report says log).sessions cs all
  reported_once = record {
    known = known_sessions;
    absent = subst (IsStrictlySortedBy session_cmp) (sym absent_sessions) absents_rise;
    have_counters = All-from_recursion (λ (f : Shortfall). has_counter cs f.session ≡ true) all.absent (all_below (λ (f : Shortfall). has_counter cs f.session ≡ true) all.absent has_its_counter);
    have_no_report = no_report;
    each_has_one = each_has_one;
    one_tail = one_tail;
    tails = λ f told. All-from_recursion (IsWholeTail says (blocks (notes log)) cs f.session) f.tails (all_below (IsWholeTail says (blocks (notes log)) cs f.session) f.tails (whole_tail f told));
    runs = whole_runs;
  }

pub missing_once : AnnouncedAreTold → ReportsAreInOrder → NextNumbersFollow → CountedAreVerified → CountedOrMissing → NextGbcFollows → PinnedReportsAreOfLogs → MissingIsReportedOnce
missing_once announced order numbers verified or_missing follows of_logs known says log cs =
    let w : (other : List (List ℕ)) × StandsIn known says log other = stand_in of_logs known says log in
    let other = reported_once announced order numbers verified or_missing follows says w.0 cs in
    let by_blocks = subst (λ (bs : List BlockMessage). IsReportedOnce says bs (report says w.0).sessions cs (shortfalls_of says w.0 cs)) w.1.blocks_are other in
    let by_sessions = subst (λ (ss : List SessionReport). IsReportedOnce says (log_blocks known says log) ss cs (shortfalls_of says w.0 cs)) w.1.sessions by_blocks in
    subst (IsReportedOnce says (log_blocks known says log) (log_report known says log).sessions cs) (w.1.missing cs) by_sessions
