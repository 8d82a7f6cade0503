-- A complete night has all of its numbers and blocks, and complete nights add up.
use Rattle.std.proofs.Common.{◌≡◌, inl, inr, ℕ, zero, suc, ◌<◌, ◌≤◌, Bool, true, false, ◌&&◌, List, [], ◌∷◌, map, refl, sym, ap, subst, arith}
use Rattle.std.specs.Prelude.{◌↔◌, Option, Some, All, Contains}
use Rattle.std.specs.List.{list_all}
use Rattle.std.proofs.lemmas.Bool.{and_parts, cases_lt}
use Rattle.std.proofs.lemmas.List.Elements.{All-contains}
use Rattle.ss_block.specs.declared.block.Group.{Group}
use Rattle.ss_block.specs.declared.session.Session.{Session}
use Rattle.ss_review.specs.declared.counted.counter.Counter.{Counter}
use Rattle.ss_review.specs.declared.counted.missing.MissingRun.{MissingRun}
use Rattle.ss_review.specs.declared.counted.shortfall.GroupTail.{GroupTail}
use Rattle.ss_review.specs.declared.counted.shortfall.Shortfall.{Shortfall}
use Rattle.ss_review.specs.declared.counted.shortfall.LogShortfalls.{LogShortfalls}
use Rattle.ss_review.specs.declared.report.entry.Entry.{Entry}
use Rattle.ss_review.specs.declared.report.entry.Entry.TheVariants as entry
use Rattle.ss_review.specs.declared.report.group_report.GroupReport.{GroupReport}
use Rattle.ss_review.specs.declared.report.report.Report.{Report}
use Rattle.ss_review.specs.declared.report.session_report.SessionReport.{SessionReport}
use Rattle.ss_review.specs.keep.BlockMessage.{BlockMessage}
use Rattle.ss_review.specs.sessions.Verified.{Answers}
use Rattle.ss_review.specs.announced.Announced.{Key}
use Rattle.ss_review.specs.announced.Announcing.{IsAnnounced}
use Rattle.ss_review.specs.report.Meaning.{Tells, IsListed, IsTold}
use Rattle.ss_review.specs.report.Report.{report}
use Rattle.ss_review.specs.report.Verdict.{is_joined, is_listed, is_none, is_clean}
use Rattle.ss_review.specs.Laws.{AnnouncedAreTold}
use Rattle.ss_review.specs.pinned.Stands.{PinnedReportsAreOfLogs}
use Rattle.ss_review.specs.counted.Kept.{kept_number, kept_gbc}
use Rattle.ss_review.specs.counted.KeptLaws as fates
use Rattle.ss_review.specs.counted.KeptLaws.{IsInTail, IsInRunOf, NothingIsMissing, Fate, HasFate}
use Rattle.ss_between.specs.Between.{number_at, gbc_at, SessionBetween, NumberRun}
use Rattle.ss_laws.specs.nights.Night.{NightReport, log_blocks, log_report, night_by, report_left, shortfalls_left, IsEarly, IsBeyond}
use Rattle.ss_laws.specs.nights.NightLaws.{NightsLeaveOutTheRest, NumbersOfNightsAreTold, BlocksOfNightsAreTold, NumbersOutsideAreThese}
use Rattle.ss_laws.specs.nights.CleanLaws.{Night, last_end}
use Rattle.ss_laws.specs.nights.CompleteLaws.{CleanNightsAreComplete, IsCompleteNight, lists_each, CompleteNightsHaveAll, AreCompleteNights, IsListedIn, IsCountedIn, CompleteNightsAddUp}
use Rattle.ss_laws.proofs.of_nights.StandIns.{StandsIn, stand_in, told_by}
use Rattle.ss_octets.proofs.Members.{Has, has_from_contains, from_has-map}
use Rattle.ss_review.proofs.of_lists.Tests.{all_member}

-- ---- a clean night is complete

abbrev its_groups : SessionReport → Bool
its_groups x = is_joined x.state && lists_each x

each_lists : (bs : List SessionBetween) → list_all its_groups (map (λ (b : SessionBetween). b.report) bs) ≡ true → list_all (λ (b : SessionBetween). lists_each b.report) bs ≡ true
each_lists [] all = refl
each_lists (b ∷ bs) all =
    let w = and_parts (its_groups b.report) (list_all its_groups (map (λ (b : SessionBetween). b.report) bs)) all in
    let here = (and_parts (is_joined b.report.state) (lists_each b.report) w.0).1 in
    let rest = each_lists bs w.1 in
    cc

sessions_listed : (r : Report) (n : NightReport) → is_clean (report_left r n) ≡ true → list_all (λ (b : SessionBetween). lists_each b.report) n.sessions ≡ true
unfolding is_clean
sessions_listed r n clean =
    let in_sessions = list_all its_groups (map (λ (b : SessionBetween). b.report) n.sessions) in
    let most = in_sessions && is_none r.unlisted && is_none r.refused in
    let fewer = in_sessions && is_none r.unlisted in
    each_lists n.sessions (and_parts in_sessions (is_none r.unlisted) (and_parts fewer (is_none r.refused) (and_parts most (is_none r.spoilt) clean).0).0).0

pub clean_is_complete : CleanNightsAreComplete
clean_is_complete r n clean = record {
  listed = sessions_listed r n clean.clean;
  nothing_missing = clean.nothing_missing;
  no_early = clean.no_early;
  no_beyond = clean.no_beyond;
}

-- ---- every entry that is left is a listed message

entry_listed : (r : Report) (n : NightReport) → IsCompleteNight n → (s : Session) (g : Group) (e : Entry) → Tells (report_left r n) s g e → is_listed e ≡ true
entry_listed r n complete s g e t =
    let sessions = map (λ (b : SessionBetween). b.report) n.sessions in
    let w : (b : SessionBetween) × Has n.sessions b × (b.report ≡ t.session) = from_has-map (λ (b : SessionBetween). b.report) n.sessions t.session (has_from_contains sessions t.session t.session_told) in
    let here : lists_each w.0.report ≡ true = all_member (λ (b : SessionBetween). lists_each b.report) n.sessions complete.listed w.0 w.1 in
    let groups : lists_each t.session ≡ true = subst (λ (x : SessionReport). lists_each x ≡ true) w.2 here in
    let group = all_member (λ (y : GroupReport). list_all is_listed y.entries) t.session.groups groups t.group (has_from_contains t.session.groups t.group t.group_told) in
    all_member is_listed t.group.entries group e (has_from_contains t.group.entries e t.entry_told)

-- ---- nothing is missing

module _ (all : LogShortfalls) (nothing : NothingIsMissing all) where
  none_absent : (f : Shortfall) → ¬ Contains all.absent f
  none_absent f c = has_from_contains [] f (subst (λ fs. Contains fs f) nothing.sessions c)

  no_tail : (k : Key) → ¬ IsInTail all k
  no_tail k t =
      elim t.told [
        | inl c ↦ (
            let none : t.shortfall.tails ≡ [] = All-contains (λ (f : Shortfall). f.tails ≡ []) all.known t.shortfall nothing.tails c in
            has_from_contains [] t.tail (subst (λ (ts : List GroupTail). Contains ts t.tail) none t.tail_told))
        | inr c ↦ none_absent t.shortfall c
      ]

  no_run : (s : Session) (gbc : ℕ) → ¬ IsInRunOf all s gbc
  no_run s gbc r =
      elim r.told [
        | inl c ↦ (
            let none : r.shortfall.blocks ≡ [] = All-contains (λ (f : Shortfall). f.blocks ≡ []) all.known r.shortfall nothing.blocks c in
            has_from_contains [] r.run.0 (subst (λ (rs : List MissingRun). Contains rs r.run.0) none r.run.1))
        | inr c ↦ none_absent r.shortfall c
      ]

its_place : (r : Report) (n : NightReport) → IsCompleteNight n → (k : Key) (fate : Fate) → HasFate (report_left r n) (shortfalls_left n) k fate → (place : ℕ) × IsListed (report_left r n) k place
its_place r n complete k fates.Listed l = l
its_place r n complete k fates.Gap g = absurd (let bad : false ≡ true = entry_listed r n complete k.session k.group (entry.Gap k.number g.0) g.1 in cc)
its_place r n complete k fates.Hole h = absurd (let bad : false ≡ true = entry_listed r n complete k.session k.group (entry.Hole h.first h.last) h.told in cc)
its_place r n complete k fates.Tail t = absurd (no_tail (shortfalls_left n) complete.nothing_missing k t)

-- ---- nothing is outside

not_early : (n : NightReport) → All (λ b. b.early ≡ []) n.sessions → (k : Key) → ¬ IsEarly n k
not_early n none k e =
    has_from_contains [] e.run (subst (λ (rs : List NumberRun). Contains rs e.run) (All-contains (λ (b : SessionBetween). b.early ≡ []) n.sessions e.session none e.session_told) e.run_told)

not_beyond : (n : NightReport) → All (λ b. b.beyond ≡ []) n.sessions → (k : Key) → ¬ IsBeyond n k
not_beyond n none k e =
    has_from_contains [] e.run (subst (λ (rs : List NumberRun). Contains rs e.run) (All-contains (λ (b : SessionBetween). b.beyond ≡ []) n.sessions e.session none e.session_told) e.run_told)

-- ---- what a report by known payloads tells, its blocks announce

pub announced_by : AnnouncedAreTold → PinnedReportsAreOfLogs → (known : Option (List (List ℕ))) (says : Answers) (log : List (List ℕ)) (k : Key) → IsTold (log_report known says log) k ↔ IsAnnounced says (log_blocks known says log) k
announced_by told of_logs known says log k =
    let w : (other : List (List ℕ)) × StandsIn known says log other = stand_in of_logs known says log in
    let both = told says w.0 k in (
      λ t. subst (λ (bs : List BlockMessage). IsAnnounced says bs k) w.1.blocks_are (both.0 (told_by (log_report known says log) (report says w.0) (sym w.1.sessions) k t)),
      λ a. told_by (report says w.0) (log_report known says log) w.1.sessions k (both.1 (subst (λ (bs : List BlockMessage). IsAnnounced says bs k) (sym w.1.blocks_are) a)),
    )

-- ---- one night

pub have_all : AnnouncedAreTold → NightsLeaveOutTheRest → NumbersOfNightsAreTold → BlocksOfNightsAreTold → NumbersOutsideAreThese → PinnedReportsAreOfLogs → CompleteNightsHaveAll
have_all told left numbers counted outside of_logs known says log first second complete =
    let n = night_by known says log first second in
    let out = outside known says log first second in
    let both = λ (k : Key). announced_by told of_logs known says log k in
    record {
      numbers = λ k low high.
          (let w = numbers known says log first second k low high in
          let l = its_place (log_report known says log) n complete k w.0 w.1 in
          (l.0, ((left known says log first second).listed k l.0).0 l.1));
      none_before = λ k a.
          elim (cases_lt k.number (number_at first k.session k.group)) [
            | inl less ↦ absurd (not_early n complete.no_early k ((out.early k).1 ((both k).1 a, less)))
            | inr most ↦ most
          ];
      none_after = λ k a p. not_beyond n complete.no_beyond k ((out.beyond k).1 ((both k).1 a, p));
      blocks = λ s gbc low high.
          elim ((counted known says log first second s gbc).0 low high) [
            | inl c ↦ c
            | inr w ↦ absurd (no_run (shortfalls_left n) complete.nothing_missing s gbc w)
          ];
    }

-- ---- nights that follow one another

module _ (told : AnnouncedAreTold) (of_logs : PinnedReportsAreOfLogs) (have : CompleteNightsHaveAll) (known : Option (List (List ℕ))) (says : Answers) where
  listed_announced : (log : List (List ℕ)) (k : Key) (place : ℕ) → IsListed (log_report known says log) k place → IsAnnounced says (log_blocks known says log) k
  listed_announced log k place l = (announced_by told of_logs known says log k).0 (inl (place, l))

  first_night : (n : Night) (ns : List Night) (k : Key) → IsListedIn known says (n ∷ ns) k 0 → IsAnnounced says (log_blocks known says n.log) k
  first_night n ns k l =
      let same : n ≡ l.night = one_night n l.night l.there in
      listed_announced n.log k l.place (subst (λ (m : Night). IsListed (log_report known says m.log) k l.place) (sym same) l.listed)
    where
      one_night : (a b : Night) → Some a ≡ Some b → a ≡ b
      one_night a b e = cc

  later_night : (n : Night) (ns : List Night) (k : Key) (i : ℕ) → IsListedIn known says (n ∷ ns) k (suc i) → IsListedIn known says ns k i
  later_night n ns k i l = record { night = l.night; there = l.there; place = l.place; listed = l.listed }

  -- what is listed in the nights isn't below where they begin
  from_first : (first : List Counter) (ns : List Night) → AreCompleteNights known says first ns → (k : Key) (i : ℕ) → IsListedIn known says ns k i → number_at first k.session k.group ≤ k.number
  from_first first [] complete k i l = absurd (let none = l.there in cc)
  from_first first (n ∷ ns) complete k zero l = (have known says n.log first (Some n.end) complete.0).none_before k (first_night n ns k l)
  from_first first (n ∷ ns) complete k (suc i) l =
      let low = from_first n.end ns complete.2 k i (later_night n ns k i l) in
      let rise = complete.1 k.session k.group in
      omega (arith, low, rise)

  pub record IsListedOnce (ns : List Night) (k : Key) : Type 0 where
    pub index : ℕ
    pub here : IsListedIn known says ns k index
    pub alone : (other : ℕ) → IsListedIn known says ns k other → other ≡ index

  once : (first : List Counter) (ns : List Night) → AreCompleteNights known says first ns → (k : Key) → number_at first k.session k.group ≤ k.number
      → k.number < kept_number (last_end first ns) k.session k.group → IsListedOnce ns k
  once first [] complete k low high = absurd (omega (arith, low, high))
  once first (n ∷ ns) complete k low high =
      let night = have known says n.log first (Some n.end) complete.0 in
      elim (cases_lt k.number (kept_number n.end k.session k.group)) [
        | inl less ↦ (
            let l = night.numbers k low less in
            record {
              index = 0;
              here = record { night = n; there = refl; place = l.0; listed = l.1 };
              alone = only_here n ns complete.2 k less;
            })
        | inr more ↦ (
            let low_end : number_at n.end k.session k.group ≤ k.number = omega (arith, more, low) in
            let w = once n.end ns complete.2 k low_end high in
            let h = w.here in
            record {
              index = suc w.index;
              here = record { night = h.night; there = h.there; place = h.place; listed = h.listed };
              alone = only_later n ns k w (λ l. night.none_after k (first_night n ns k l) low_end);
            })
      ]
    where
      only_here : (n : Night) (ns : List Night) → AreCompleteNights known says n.end ns → (k : Key) → k.number < kept_number n.end k.session k.group → (other : ℕ) → IsListedIn known says (n ∷ ns) k other → other ≡ 0
      only_here n ns complete k less zero l = refl
      only_here n ns complete k less (suc i) l =
          let low = from_first n.end ns complete k i (later_night n ns k i l) in
          absurd (omega (arith, low, less))

      only_later : (n : Night) (ns : List Night) (k : Key) → (w : IsListedOnce ns k) → (IsListedIn known says (n ∷ ns) k 0 → ⊥) → (other : ℕ) → IsListedIn known says (n ∷ ns) k other → other ≡ suc w.index
      only_later n ns k w none zero l = absurd (none l)
      only_later n ns k w none (suc i) l = ap suc (w.alone i (later_night n ns k i l))

  counted_once : (first : List Counter) (ns : List Night) → AreCompleteNights known says first ns → (s : Session) (gbc : ℕ) → gbc_at first s ≤ gbc
      → gbc < kept_gbc (last_end first ns) s → (index : ℕ) × IsCountedIn known says ns s gbc index
  counted_once first [] complete s gbc low high = absurd (omega (arith, low, high))
  counted_once first (n ∷ ns) complete s gbc low high =
      elim (cases_lt gbc (kept_gbc n.end s)) [
        | inl less ↦ (0, record { night = n; there = refl; counted = (have known says n.log first (Some n.end) complete.0).blocks s gbc low less })
        | inr more ↦ (
            let w = counted_once n.end ns complete.2 s gbc more high in
            let c = w.1 in
            (suc w.0, record { night = c.night; there = c.there; counted = c.counted }))
      ]

pub add_up : AnnouncedAreTold → PinnedReportsAreOfLogs → CompleteNightsHaveAll → CompleteNightsAddUp
add_up told of_logs have known says first ns complete = (
  λ k low high. (let w = once told of_logs have known says first ns complete k low high in (w.index, w.here, w.alone)),
  λ s gbc low high. counted_once told of_logs have known says first ns complete s gbc low high,
)
