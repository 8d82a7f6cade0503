-- A night whose log is empty, and that ends where it begins, is clean.
use Rattle.std.proofs.Common.{◌≡◌, inl, inr, ℕ, ◌-◌, Bool, true, false, not, List, [], ◌∷◌, ◌++◌, map, filter, refl, sym, ap, ◌∙◌, subst, arith}
use Rattle.std.specs.Prelude.{◌&&◌, max, nat_lt, if◌then◌else◌, Option, Some, None, All}
use Rattle.std.specs.List.{filter_map, cons_option}
use Rattle.std.proofs.lemmas.Bool.{lt-ltb, ltb-true}
use Rattle.std.proofs.lemmas.List.Elements.{All-from_recursion}
use Rattle.ss_block.specs.declared.session.Session.{Session}
use Rattle.ss_review.specs.declared.counted.counter.Counter.{Counter}
use Rattle.ss_review.specs.declared.counted.shortfall.GroupTail.{GroupTail}
use Rattle.ss_review.specs.declared.counted.shortfall.Shortfall.{Shortfall}
use Rattle.ss_review.specs.declared.counted.shortfall.LogShortfalls.{LogShortfalls}
use Rattle.ss_review.specs.keep.Notes.{notes}
use Rattle.ss_review.specs.keep.Contents.{blocks, normals, spoilts}
use Rattle.ss_review.specs.Ordered.{in_order}
use Rattle.ss_review.specs.sessions.Sessions.{same_session, sessions}
use Rattle.ss_review.specs.sessions.Verified.{Answers}
use Rattle.ss_review.specs.report.Report.{report, report_of}
use Rattle.ss_review.specs.report.Verdict.{is_none, is_clean}
use Rattle.ss_review.specs.counted.Counted.{missing}
use Rattle.ss_review.specs.counted.Kept.{counters_of, kept_sessions, gbc_in, number_in, groups_in, number_behind, tails_in, end_of_blocks, shortfall}
use Rattle.ss_review.specs.counted.KeptLaws.{shortfalls_of, NothingIsMissing}
use Rattle.ss_between.specs.Between.{number_at, has_counter, tail_left, run_left, own_tail_left, shortfall_left, is_idle, absent_left, SessionBetween}
use Rattle.ss_laws.specs.nights.Night.{NightReport, night_report}
use Rattle.ss_laws.specs.nights.CleanLaws.{IsCleanNight}
use Rattle.ss_laws.specs.nights.SmallNights.{IdleNightsAreClean}
use Rattle.ss_octets.proofs.Members.{Has, from_has-map, from_has-filter}
use Rattle.ss_between.proofs.Below.{from_tails}
use Rattle.ss_review.proofs.of_counters.Shortfalls.{same_is, known_of, known_are, absent_of, is_absent, absent_are}
use Rattle.ss_review.proofs.of_lists.Rising.{all_below}
use Rattle.ss_review.proofs.of_lists.Sections.{keeps_none}
use Rattle.ss_review.proofs.of_lists.Tests.{member_any}
use Rattle.ss_laws.proofs.of_nights.Left.{cut_all, session_stays, tails_are, blocks_are}
use Rattle.ss_laws.proofs.of_nights.NightParts.{own, sessions_are, report_is, shortfalls_are}
use Rattle.ss_laws.proofs.of_nights.OwnCounters.{report_clean}

none_left : {X Y : Type 0} (h : X → Option Y) (xs : List X) → ((x : X) → Has xs x → h x ≡ None) → filter_map h xs ≡ []
none_left h [] none = refl
none_left h (x ∷ xs) none = (λ i. cons_option (none x (inl refl) i) (filter_map h xs)) ∙ none_left h xs (λ y i. none y (inr i))

-- ---- of what lies below the counters nothing is left from them on

module _ (cs : List Counter) (s : Session) where
  abbrev own_counters : List Counter
  own_counters = counters_of cs s

  tail_gone : (t : GroupTail) → Has (tails_in own_counters []) t → own_tail_left cs s t ≡ None
  unfolding tails_in tail_left
  tail_gone t h =
      let w = from_tails (number_behind []) (number_in own_counters) (groups_in own_counters) t h in
      let some = w.2.some in
      let last = w.2.last_is in
      let same : number_in own_counters w.0 ≡ number_in own_counters t.group = ap (number_in own_counters) (sym w.2.group_is) in
      let n = number_at cs s t.group in
      ap (λ (b : Bool). if b then None else Some (record { group = t.group; first = max t.first n; last = t.last })) (lt-ltb t.last n (omega (arith, some, last, same)))

  run_gone : (b : Bool) (n : ℕ) → nat_lt 0 n ≡ b → filter_map (run_left n) ((if b then record { first = 0; last = n - 1 } ∷ [] else []) ++ []) ≡ []
  unfolding run_left
  run_gone true n e =
      let some = ltb-true 0 n e in
      ap (λ (c : Bool). cons_option (if c then None else Some (record { first = max 0 n; last = n - 1 })) []) (lt-ltb (n - 1) n (omega (arith, some)))
  run_gone false n e = refl

  abbrev below : Shortfall
  below = shortfall cs s [] []

  tails_gone : (shortfall_left cs below).tails ≡ []
  tails_gone = tails_are cs (record { known = []; absent = [] }) below ∙ none_left (own_tail_left cs s) (tails_in own_counters []) tail_gone

  runs_gone : (shortfall_left cs below).blocks ≡ []
  unfolding missing
  runs_gone =
      let end = end_of_blocks own_counters [] in
      let same : gbc_in own_counters ≡ end = omega arith in
      blocks_are cs (record { known = []; absent = [] }) below
      ∙ ap (λ n. filter_map (run_left n) (missing [] end)) same
      ∙ run_gone (nat_lt 0 end) end refl

  pub gone : Has (kept_sessions cs) s → is_idle cs (shortfall_left cs below) ≡ true
  gone h =
      let counter : has_counter cs (shortfall_left cs below).session ≡ true
      = ap (has_counter cs) (session_stays cs (record { known = []; absent = [] }) below) ∙ member_any (same_session s) (kept_sessions cs) s h (same_is s s refl) in
      λ i. counter i && (is_none (tails_gone i) && is_none (runs_gone i))

-- ---- the night

module _ (says : Answers) (cs : List Counter) where
  abbrev night : NightReport
  night = night_report says [] cs (Some cs)

  abbrev all : LogShortfalls
  all = shortfalls_of says [] cs

  no_session : sessions (blocks (notes [])) ≡ []
  unfolding blocks in_order
  no_session = refl

  no_night : night.sessions ≡ []
  no_night = sessions_are says [] cs (Some cs) ∙ ap (map (own says [] cs (Some cs))) no_session

  nothing_known : all.known ≡ []
  nothing_known = known_are says [] cs ∙ ap (map (known_of says [] cs)) no_session

  nothing_reported : is_clean (report says []) ≡ true
  unfolding is_clean report_of blocks normals spoilts in_order
  nothing_reported = refl

  none_absent : absent_left cs all.absent ≡ []
  unfolding absent_left
  none_absent =
      let lefts = map (shortfall_left cs) all.absent in
      keeps_none (λ (f : Shortfall). not (is_idle cs f)) lefts (all_below (λ (f : Shortfall). not (is_idle cs f) ≡ false) lefts (λ left h.
      (let w = from_has-map (shortfall_left cs) all.absent left h in
      let v = from_has-map (absent_of says [] cs) (filter (is_absent says [] cs) (kept_sessions cs)) w.0 (subst (λ fs. Has fs w.0) (absent_are says [] cs) w.1) in
      let k = from_has-filter (is_absent says [] cs) (kept_sessions cs) v.0 v.1 in
      ap not (subst (λ (f : Shortfall). is_idle cs f ≡ true) (ap (shortfall_left cs) v.2 ∙ w.2) (gone cs v.0 k.0)))))

  nothing_missing : NothingIsMissing (cut_all cs all)
  nothing_missing =
      let known : map (shortfall_left cs) all.known ≡ [] = ap (map (shortfall_left cs)) nothing_known in
      record {
        tails = subst (All (λ (f : Shortfall). f.tails ≡ [])) (sym known) (All-from_recursion (λ (f : Shortfall). f.tails ≡ []) [] tt);
        blocks = subst (All (λ (f : Shortfall). f.blocks ≡ [])) (sym known) (All-from_recursion (λ (f : Shortfall). f.blocks ≡ []) [] tt);
        sessions = none_absent;
      }

  pub idle_is_clean : IsCleanNight (report says []) night
  idle_is_clean = record {
    clean = subst (λ r. is_clean r ≡ true) (sym (report_is says [] cs (Some cs))) (report_clean cs (report says []) nothing_reported);
    nothing_missing = subst NothingIsMissing (sym (shortfalls_are says [] cs (Some cs))) nothing_missing;
    no_early = subst (All (λ (b : SessionBetween). b.early ≡ [])) (sym no_night) (All-from_recursion (λ (b : SessionBetween). b.early ≡ []) [] tt);
    no_beyond = subst (All (λ (b : SessionBetween). b.beyond ≡ [])) (sym no_night) (All-from_recursion (λ (b : SessionBetween). b.beyond ≡ []) [] tt);
  }

pub idle_nights : IdleNightsAreClean
idle_nights says cs = idle_is_clean says cs
