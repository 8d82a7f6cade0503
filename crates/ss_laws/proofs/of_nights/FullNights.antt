-- A log that has all of a night and nothing else, by membership: a clean night's log is one, and if it begins with no
-- counter, it is clean and nothing is missing of it.
use Rattle.std.proofs.Common.{◌≡◌, inl, inr, ℕ, ◌+◌, ◌<◌, ◌≤◌, true, false, ◌&&◌, List, [], ◌∷◌, map, refl, sym, ap, ◌∙◌, subst, arith}
use Rattle.std.specs.Prelude.{Some, None, Contains}
use Rattle.std.specs.List.{list_all}
use Rattle.std.proofs.lemmas.Bool.{and_parts, cases_Bool, cases_lt}
use Rattle.std.proofs.lemmas.List.Elements.{All-contains, All-from_recursion}
use Rattle.ss_block.specs.declared.block.Group.{Group}
use Rattle.ss_block.specs.declared.session.Session.{Session}
use Rattle.ss_review.specs.declared.counted.counter.Counter.{Counter}
use Rattle.ss_review.specs.declared.counted.missing.MissingRun.{MissingRun}
use Rattle.ss_review.specs.declared.counted.shortfall.GroupTail.{GroupTail}
use Rattle.ss_review.specs.declared.counted.shortfall.Shortfall.{Shortfall}
use Rattle.ss_review.specs.declared.counted.shortfall.LogShortfalls.{LogShortfalls}
use Rattle.ss_review.specs.keep.BlockMessage.{BlockMessage}
use Rattle.ss_review.specs.declared.keep.message.NormalMessage.{NormalMessage}
use Rattle.ss_review.specs.declared.report.group_report.GroupReport.{GroupReport}
use Rattle.ss_review.specs.declared.report.report.Report.{Report}
use Rattle.ss_review.specs.declared.report.session_report.SessionReport.{SessionReport}
use Rattle.ss_review.specs.keep.Notes.{notes}
use Rattle.ss_review.specs.Ordered.{in_order}
use Rattle.ss_review.specs.keep.Contents.{Contents, normals, blocks, spoilts, contents}
use Rattle.ss_review.specs.sessions.Verified.{Answers, is_verified}
use Rattle.ss_review.specs.announced.Announced.{Key, Row, keys, rows}
use Rattle.ss_review.specs.announced.Announcing.{IsAnnounced}
use Rattle.ss_review.specs.assign.Assigned.{assigned, is_taken}
use Rattle.ss_review.specs.report.Entries.{entry_with, entry_of}
use Rattle.ss_review.specs.report.Meaning.{IsHole, IsReport}
use Rattle.ss_review.specs.report.Report.{report_of, report}
use Rattle.ss_review.specs.report.Verdict.{is_joined, is_listed, is_none, is_clean}
use Rattle.ss_review.specs.Laws.{AnnouncedAreTold, ListedAreAssigned, OneReport}
use Rattle.ss_review.specs.counted.CountedLaws.{IsCounted, IsInRun}
use Rattle.ss_review.specs.counted.Kept.{kept_number, kept_gbc, gbc_in, kept_sessions}
use Rattle.ss_review.specs.counted.KeptLaws.{shortfalls_of, IsToldOf, IsInRunOf, NothingIsMissing}
use Rattle.ss_between.specs.Between.{number_at, gbc_at, has_counter, shortfall_left, SessionBetween, NumberRun}
use Rattle.ss_laws.specs.nights.Night.{NightReport, night_report, report_left, shortfalls_left, IsEarly, IsBeyond}
use Rattle.ss_laws.specs.nights.NightLaws.{LeavesOutTheRest, NightsLeaveOutTheRest, AreRuns, OutsideAreThese, NumbersOutsideAreThese}
use Rattle.ss_laws.specs.nights.CleanLaws.{IsCleanNight, DontFall}
use Rattle.ss_laws.specs.nights.CompleteLaws.{HasAllOfTheNight, CompleteNightsHaveAll}
use Rattle.ss_laws.proofs.of_nights.CompleteNights.{clean_is_complete}
use Rattle.ss_laws.specs.nights.MissingLaws.{IsWholeTail, AreWholeRuns, IsReportedOnce, MissingIsReportedOnce}
use Rattle.ss_octets.proofs.Members.{Has, has_from_contains, contains_from_has, has-map, from_has-map}
use Rattle.ss_review.proofs.of_lists.Rising.{all_below}
use Rattle.ss_review.proofs.of_numbers.Announcements.{announced_key}
use Rattle.ss_review.proofs.of_reports.CleanReports as clean_reports
use Rattle.ss_review.proofs.of_reports.Leftovers.{takes, unlisted_are, refused_are}
use Rattle.ss_laws.proofs.of_nights.NightParts.{report_is, shortfalls_are}
use Rattle.ss_laws.proofs.of_nights.OwnCounters.{report_clean, nothing_left, begins_at_1}

-- of a session that a night has no block of: it had begun, and no counter rises
pub record IsIdle (first end : List Counter) (s : Session) : Type 0 where
  pub begun : has_counter first s ≡ true
  pub numbers : (g : Group) → kept_number end s g ≤ number_at first s g
  pub gbc : kept_gbc end s ≤ gbc_at first s

pub record IsFull (says : Answers) (log : Contents) (first end : List Counter) : Type 0 where
  pub verified : (b : BlockMessage) → Has log.blocks b → is_verified says log.blocks b ≡ true
  pub low : (k : Key) → IsAnnounced says log.blocks k → number_at first k.session k.group ≤ k.number
  pub high : (k : Key) → IsAnnounced says log.blocks k → k.number < kept_number end k.session k.group
  pub all : (k : Key) → number_at first k.session k.group ≤ k.number → k.number < kept_number end k.session k.group → IsAnnounced says log.blocks k
  pub listed : (k : Key) → IsAnnounced says log.blocks k → (place : ℕ) × (assigned log.normal (rows says log.blocks) k ≡ Some place)
  pub taken : (m : NormalMessage) → Has log.normal m → is_taken log.normal (rows says log.blocks) m.place ≡ true
  pub unspoilt : log.spoilt ≡ []
  pub counted : (s : Session) (gbc : ℕ) → gbc_at first s ≤ gbc → gbc < kept_gbc end s → IsCounted says log.blocks s gbc
  pub counted_below : (s : Session) (gbc more : ℕ) → gbc_at first s ≤ gbc → gbc < more → IsCounted says log.blocks s more → IsCounted says log.blocks s gbc
  pub idle : (s : Session) → has_counter end s ≡ true → ((b : BlockMessage) → Has log.blocks b → b.session ≡ s → ⊥) → IsIdle first end s
  pub rise : DontFall first end

-- ---- small parts

nothing_in : {X : Type 0} (xs : List X) → is_none xs ≡ true → xs ≡ []
nothing_in [] e = refl
nothing_in (x ∷ xs) e = absurd (cc)

empty_if : {X : Type 0} (xs : List X) → ((x : X) → Has xs x → ⊥) → xs ≡ []
empty_if [] none = refl
empty_if (x ∷ xs) none = absurd (none x (inl refl))

no_member : {X : Type 0} (xs : List X) (x : X) → xs ≡ [] → Contains xs x → ⊥
no_member xs x e c = has_from_contains [] x (subst (λ ys. Contains ys x) e c)

record HasNothingElse (r : Report) : Type 0 where
  pub unlisted : r.unlisted ≡ []
  pub refused : r.refused ≡ []
  pub spoilt : r.spoilt ≡ []

clean_parts : (r : Report) → is_clean r ≡ true → HasNothingElse r
unfolding is_clean
clean_parts r clean =
    let in_sessions = list_all (λ (s : SessionReport). is_joined s.state && list_all (λ (g : GroupReport). list_all is_listed g.entries) s.groups) r.sessions in
    let third = and_parts (in_sessions && is_none r.unlisted && is_none r.refused) (is_none r.spoilt) clean in
    let second = and_parts (in_sessions && is_none r.unlisted) (is_none r.refused) third.0 in
    let first = and_parts in_sessions (is_none r.unlisted) second.0 in
    record { unlisted = nothing_in r.unlisted first.1; refused = nothing_in r.refused second.1; spoilt = nothing_in r.spoilt third.1 }

-- ---- sessions with a block are reported

module _ (one : OneReport) (says : Answers) (log : List (List ℕ)) where
  abbrev stored : List BlockMessage
  stored = blocks (notes log)

  abbrev all_rows : List Row
  all_rows = rows says stored

  is_report : IsReport says (contents (notes log)) (report says log)
  is_report = one.0 says log

  session_of_block : (b : BlockMessage) → Has stored b → Has (map (λ (r : SessionReport). r.session) (report says log).sessions) b.session
  session_of_block b h =
      let t = (is_report.sessions b.session).1 (b, contains_from_has stored b h, refl) in
      subst (Has (map (λ (r : SessionReport). r.session) (report says log).sessions)) t.2
      (has-map (λ (r : SessionReport). r.session) (report says log).sessions t.0 (has_from_contains (report says log).sessions t.0 t.1))

  block_of_session : (r : SessionReport) → Contains (report says log).sessions r → (b : BlockMessage) × Has stored b × (b.session ≡ r.session)
  block_of_session r c =
      let w = (is_report.sessions r.session).0 (r, c, refl) in
      (w.0, has_from_contains stored w.0 w.1, w.2)

  -- ---- a clean night's log is full

  module _ (told : AnnouncedAreTold) (assigned_are : ListedAreAssigned) (have : CompleteNightsHaveAll) (leave : NightsLeaveOutTheRest) (missing : MissingIsReportedOnce)
      (first end : List Counter) (clean : IsCleanNight (report says log) (night_report says log first (Some end))) (rise : DontFall first end) where
    abbrev night : NightReport
    night = night_report says log first (Some end)

    all_of : HasAllOfTheNight None says log first (Some end)
    all_of = have None says log first (Some end) (clean_is_complete (report says log) night clean)

    nothing_else : HasNothingElse (report_left (report says log) night)
    nothing_else = clean_parts (report_left (report says log) night) clean.clean

    once : IsReportedOnce says stored (report says log).sessions end (shortfalls_of says log end)
    once = missing None says log end

    left : LeavesOutTheRest first (report says log) (shortfalls_of says log end) night
    left = leave None says log first (Some end)

    its_verified : (b : BlockMessage) → Has stored b → is_verified says stored b ≡ true
    its_verified b h =
        elim (cases_Bool (is_verified says stored b)) [
          | inl t ↦ t
          | inr f ↦ absurd (no_member (report says log).refused b.place nothing_else.refused
              ((refused_are says (contents (notes log)) b.place).1 (b, contains_from_has stored b h, refl, λ t. (let bad : false ≡ true = sym f ∙ t in cc))))
        ]

    its_taken : (m : NormalMessage) → Has (normals (notes log)) m → is_taken (normals (notes log)) all_rows m.place ≡ true
    its_taken m h =
        elim (cases_Bool (is_taken (normals (notes log)) all_rows m.place)) [
          | inl t ↦ t
          | inr f ↦ absurd (no_member (report says log).unlisted m.place nothing_else.unlisted
              ((unlisted_are says (contents (notes log)) m.place).1 ((m, contains_from_has (normals (notes log)) m h, refl), λ k e. (let bad : false ≡ true = sym f ∙ takes (normals (notes log)) all_rows k m.place e in cc))))
        ]

    its_high : (k : Key) → IsAnnounced says stored k → k.number < kept_number end k.session k.group
    its_high k a =
        let low = all_of.none_before k a in
        elim (cases_lt k.number (kept_number end k.session k.group)) [
          | inl less ↦ less
          | inr more ↦ absurd (all_of.none_after k a (omega (arith, low, more)))
        ]

    its_listed : (k : Key) → IsAnnounced says stored k → (place : ℕ) × (assigned (normals (notes log)) all_rows k ≡ Some place)
    its_listed k a =
        let l = all_of.numbers k (all_of.none_before k a) (its_high k a) in
        (l.0, (assigned_are says log k l.0).0 l.1)

    its_all : (k : Key) → number_at first k.session k.group ≤ k.number → k.number < kept_number end k.session k.group → IsAnnounced says stored k
    its_all k low high = (told says log k).0 (inl (all_of.numbers k low high))

    no_run : (s : Session) (gbc : ℕ) → IsInRunOf (shortfalls_left night) s gbc → ⊥
    no_run s gbc r =
        elim r.told [
          | inl c ↦ (
              let none : r.shortfall.blocks ≡ [] = All-contains (λ (f : Shortfall). f.blocks ≡ []) (shortfalls_left night).known r.shortfall clean.nothing_missing.blocks c in
              no_member r.shortfall.blocks r.run.0 none r.run.1)
          | inr c ↦ no_member (shortfalls_left night).absent r.shortfall clean.nothing_missing.sessions c
        ]

    known_of : (s : Session) → Has (map (λ (r : SessionReport). r.session) (report says log).sessions) s → (f : Shortfall) × Has (shortfalls_of says log end).known f × (f.session ≡ s)
    known_of s h = from_has-map (λ (f : Shortfall). f.session) (shortfalls_of says log end).known s (subst (λ ss. Has ss s) (sym once.known) h)

    its_counted_below : (s : Session) (gbc more : ℕ) → gbc_at first s ≤ gbc → gbc < more → IsCounted says stored s more → IsCounted says stored s gbc
    its_counted_below s gbc more low less c =
        let w = known_of s (subst (Has (map (λ (r : SessionReport). r.session) (report says log).sessions)) c.session_is (session_of_block c.message (has_from_contains stored c.message c.stored))) in
        let t : IsToldOf (shortfalls_of says log end) w.0 = inl (contains_from_has (shortfalls_of says log end).known w.0 w.1) in
        let runs = once.runs w.0 t in
        let above : more < runs.end = runs.end_is.above more (subst (λ (q : Session). IsCounted says stored q more) (sym w.2) c) in
        elim (runs.missing.there_or_missing gbc (omega (arith, above, less))) [
          | inl d ↦ subst (λ (q : Session). IsCounted says stored q gbc) w.2 d
          | inr r ↦ absurd (no_run s gbc ((left.runs s gbc).1 (record { shortfall = w.0; told = t; session_is = w.2; run = r }, low)))
        ]

    -- a session without a block
    module _ (s : Session) (none : (b : BlockMessage) → Has stored b → b.session ≡ s → ⊥) where
      no_number : (g : Group) → kept_number end s g ≤ number_at first s g
      no_number g =
          elim (cases_lt (number_at first s g) (kept_number end s g)) [
            | inl less ↦ (
                let a = its_all (record { session = s; group = g; number = number_at first s g }) (omega arith) less in
                absurd (none a.1.message (has_from_contains stored a.1.message a.1.stored) a.1.session_is))
            | inr more ↦ more
          ]

      no_gbc : kept_gbc end s ≤ gbc_at first s
      no_gbc =
          elim (cases_lt (gbc_at first s) (kept_gbc end s)) [
            | inl less ↦ (
                let c = all_of.blocks s (gbc_at first s) (omega arith) less in
                absurd (none c.message (has_from_contains stored c.message c.stored) c.session_is))
            | inr more ↦ more
          ]

      begun_before : (f : Shortfall) → IsToldOf (shortfalls_of says log end) f → f.session ≡ s → has_counter first s ≡ true
      begun_before f (inl c) e =
          let h : Has (map (λ (r : SessionReport). r.session) (report says log).sessions) f.session
          = subst (λ ss. Has ss f.session) once.known (has-map (λ (x : Shortfall). x.session) (shortfalls_of says log end).known f (has_from_contains (shortfalls_of says log end).known f c)) in
          let r : (r : SessionReport) × Has (report says log).sessions r × (r.session ≡ f.session) = from_has-map (λ (r : SessionReport). r.session) (report says log).sessions f.session h in
          let b = block_of_session r.0 (contains_from_has (report says log).sessions r.0 r.1) in
          absurd (none b.0 b.1 (b.2 ∙ r.2 ∙ e))
      begun_before f (inr c) e =
          elim (left.absent f c) [
            | inl l ↦ absurd (no_member night.absent (shortfall_left first f) clean.nothing_missing.sessions l)
            | inr w ↦ ap (has_counter first) (sym e) ∙ w.0
          ]

      is_idle : has_counter end s ≡ true → IsIdle first end s
      is_idle has =
          let w = once.each_has_one s has in
          record { begun = begun_before w.0 w.1 w.2; numbers = no_number; gbc = no_gbc }

    nothing_spoilt : (report says log).spoilt ≡ [] → spoilts (notes log) ≡ []
    unfolding report_of
    nothing_spoilt e = e

    pub full_night : IsFull says (contents (notes log)) first end
    full_night = record {
      verified = its_verified;
      low = all_of.none_before;
      high = its_high;
      all = its_all;
      listed = its_listed;
      taken = its_taken;
      unspoilt = nothing_spoilt nothing_else.spoilt;
      counted = all_of.blocks;
      counted_below = its_counted_below;
      idle = λ s has none. is_idle s none has;
      rise = rise;
    }

  -- ---- a full log that begins with no counter is clean

  module _ (missing : MissingIsReportedOnce) (end : List Counter) (full : IsFull says (contents (notes log)) [] end) where
    number_there : (k : Key) → 1 ≤ k.number → k.number < kept_number end k.session k.group → IsAnnounced says stored k
    number_there k low high =
        let one = begins_at_1 k.session k.group in
        full.all k (omega (arith, low, one)) high

    no_hole : (s : Session) (g : Group) (from to : ℕ) → IsHole (λ n. IsAnnounced says stored (record { session = s; group = g; number = n })) from to → ⊥
    no_hole s g from to h =
        let above = full.high (record { session = s; group = g; number = to + 1 }) h.behind in
        let some = h.some_number in
        let one = h.some_first in
        h.unannounced from (omega arith) some (number_there (record { session = s; group = g; number = from }) one (omega (arith, above, some)))

    entry_is : (k : Key) → Contains (keys all_rows) k → is_listed (entry_of (normals (notes log)) all_rows k) ≡ true
    entry_is k c =
        let l = full.listed k (announced_key says stored k (has_from_contains (keys all_rows) k c)) in
        ap (λ o. is_listed (entry_with all_rows k o)) l.1

    pub is_clean_log : is_clean (report says log) ≡ true
    is_clean_log =
        clean_reports.clean says (contents (notes log)) (λ b c. full.verified b (has_from_contains stored b c)) no_hole entry_is
        (λ m c. full.taken m (has_from_contains (normals (notes log)) m c)) full.unspoilt (report says log) is_report

    abbrev short : LogShortfalls
    short = shortfalls_of says log end

    told_once : IsReportedOnce says stored (report says log).sessions end short
    told_once = missing None says log end

    no_tail : (s : Session) (t : GroupTail) → IsWholeTail says stored end s t → ⊥
    no_tail s t w =
        let some = w.some_number in
        let up = w.up_to in
        let from : 1 ≤ t.first = elim w.behind [ inl e ↦ omega (arith, e) | inr n ↦ omega (arith, n.2) ] in
        let a = number_there (record { session = s; group = t.group; number = t.last }) (omega (arith, from, some)) (omega (arith, up)) in
        let above = w.above t.last a in
        omega (arith, above, some)

    first_gbc : (s : Session) → gbc_at [] s ≡ 0
    unfolding gbc_in
    first_gbc s = refl

    from_first : (s : Session) (gbc : ℕ) → gbc_at [] s ≤ gbc
    from_first s gbc =
        let zero = first_gbc s in
        omega (arith, zero)

    counted_up_to : (s : Session) (gbc more : ℕ) → gbc < more + 1 → IsCounted says stored s more → IsCounted says stored s gbc
    counted_up_to s gbc more less c =
        elim (cases_lt gbc more) [
          | inl below ↦ full.counted_below s gbc more (from_first s gbc) below c
          | inr above ↦ (
              let same : more ≡ gbc = omega (arith, less, above) in
              subst (IsCounted says stored s) same c)
        ]

    no_missing_run : (f : Shortfall) → AreWholeRuns says stored end f → (r : MissingRun) → Has f.blocks r → ⊥
    no_missing_run f w r h =
        let c = contains_from_has f.blocks r h in
        let some = All-contains (λ (x : MissingRun). x.first ≤ x.last) f.blocks r w.missing.some_value c in
        let in_run : IsInRun f.blocks r.first = (r, c, omega arith, some) in
        let below : r.first < w.end = w.missing.within r.first in_run in
        elim w.end_is.no_more [
          | inl e ↦ w.missing.never_both r.first (full.counted f.session r.first (from_first f.session r.first) (omega (arith, below, e))) in_run
          | inr n ↦ w.missing.never_both r.first (counted_up_to f.session r.first n.0 (omega (arith, below, n.2)) n.1) in_run
        ]

    no_counter : (s : Session) → has_counter [] s ≡ true → ⊥
    unfolding kept_sessions in_order
    no_counter s e = let bad : false ≡ true = e in cc

    no_absent : (f : Shortfall) → Has short.absent f → ⊥
    no_absent f h =
        let c = contains_from_has short.absent f h in
        let has = All-contains (λ (x : Shortfall). has_counter end x.session ≡ true) short.absent f told_once.have_counters c in
        no_counter f.session (full.idle f.session has (λ b i e.
        (let s = session_of_block b i in
        let r : (r : SessionReport) × Has (report says log).sessions r × (r.session ≡ b.session) = from_has-map (λ (r : SessionReport). r.session) (report says log).sessions b.session s in
        told_once.have_no_report f r.0 c (contains_from_has (report says log).sessions r.0 r.1) (r.2 ∙ e)))).begun

    pub nothing_is_missing : NothingIsMissing short
    nothing_is_missing = record {
      tails = All-from_recursion (λ (f : Shortfall). f.tails ≡ []) short.known (all_below (λ (f : Shortfall). f.tails ≡ []) short.known (λ f h.
          empty_if f.tails (λ t i.
          no_tail f.session t (All-contains (IsWholeTail says stored end f.session) f.tails t (told_once.tails f (inl (contains_from_has short.known f h))) (contains_from_has f.tails t i)))));
      blocks = All-from_recursion (λ (f : Shortfall). f.blocks ≡ []) short.known (all_below (λ (f : Shortfall). f.blocks ≡ []) short.known (λ f h.
          empty_if f.blocks (no_missing_run f (told_once.runs f (inl (contains_from_has short.known f h))))));
      sessions = empty_if short.absent no_absent;
    }

    -- ---- and a clean night

    module _ (told : AnnouncedAreTold) (outside : NumbersOutsideAreThese) where
      abbrev whole_night : NightReport
      whole_night = night_report says log [] (Some end)

      abbrev out : OutsideAreThese [] (Some end) (report says log) whole_night
      out = outside None says log [] (Some end)

      no_run_outside : (rs : List NumberRun) → AreRuns rs → ((r : NumberRun) → Contains rs r → r.first ≤ r.last → ⊥) → rs ≡ []
      no_run_outside rs are none =
          empty_if rs (λ r h. (let c = contains_from_has rs r h in none r c (All-contains (λ (q : NumberRun). q.first ≤ q.last) rs r are.some_number c)))

      not_early : (k : Key) → IsEarly whole_night k → ⊥
      not_early k e =
          let w = (out.early k).0 e in
          let low = full.low k ((told says log k).0 w.0) in
          let less = w.1 in
          omega (arith, low, less)

      not_beyond : (k : Key) → IsBeyond whole_night k → ⊥
      not_beyond k e =
          let w = (out.beyond k).0 e in
          let high = full.high k ((told says log k).0 w.0) in
          let low = w.1 in
          omega (arith, high, low)

      early_in : (x : SessionBetween) → Has whole_night.sessions x → x.early ≡ []
      early_in x h =
          let c = contains_from_has whole_night.sessions x h in
          no_run_outside x.early (All-contains (λ (y : SessionBetween). AreRuns y.early) whole_night.sessions x out.early_runs c) (λ r i some.
          not_early (record { session = x.report.session; group = r.group; number = r.first })
          (record { session = x; session_told = c; session_is = refl; run = r; run_told = i; group_is = refl; from = omega arith; to = some }))

      beyond_in : (x : SessionBetween) → Has whole_night.sessions x → x.beyond ≡ []
      beyond_in x h =
          let c = contains_from_has whole_night.sessions x h in
          no_run_outside x.beyond (All-contains (λ (y : SessionBetween). AreRuns y.beyond) whole_night.sessions x out.beyond_runs c) (λ r i some.
          not_beyond (record { session = x.report.session; group = r.group; number = r.first })
          (record { session = x; session_told = c; session_is = refl; run = r; run_told = i; group_is = refl; from = omega arith; to = some }))

      pub is_clean_night : IsCleanNight (report says log) whole_night
      is_clean_night = record {
        clean = subst (λ (r : Report). is_clean r ≡ true) (sym (report_is says log [] (Some end))) (report_clean [] (report says log) is_clean_log);
        nothing_missing = subst NothingIsMissing (sym (shortfalls_are says log [] (Some end))) (nothing_left [] short nothing_is_missing);
        no_early = All-from_recursion (λ (x : SessionBetween). x.early ≡ []) whole_night.sessions (all_below (λ (x : SessionBetween). x.early ≡ []) whole_night.sessions early_in);
        no_beyond = All-from_recursion (λ (x : SessionBetween). x.beyond ≡ []) whole_night.sessions (all_below (λ (x : SessionBetween). x.beyond ≡ []) whole_night.sessions beyond_in);
      }
