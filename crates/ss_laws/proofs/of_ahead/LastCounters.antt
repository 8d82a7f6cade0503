-- The counters of a whole delivery are those with which the newest originator ended.
use Rattle.std.proofs.Common.{◌≡◌, inl, inr, ℕ, ◌+◌, List, [], ◌∷◌, map, refl, sym, ap, ◌∙◌, subst, arith, append-nil}
use Rattle.std.specs.Prelude.{Contains, if◌then◌else◌}
use Rattle.std.specs.List.{AllByRecursion, flat_map, zip}
use Rattle.std.specs.List.Sorted.{IsStrictlySortedBy}
use Rattle.std.specs.declared.cmp.Ordering.{Ordering}
use Rattle.std.specs.declared.cmp.Ordering.TheVariants.{Less}
use Rattle.std.specs.Ordering.{nat_cmp, ordering_then}
use Rattle.std.specs.Cmp.{nat_cmp_total}
use Rattle.std.proofs.lemmas.Cmp.{tied_itself}
use Rattle.std.proofs.lemmas.List.Elements.{All-contains}
use Rattle.std.proofs.lemmas.Simd.{map-map}
use Rattle.ss_block.specs.declared.block.Group.{Group}
use Rattle.ss_block.specs.declared.session.Session.{Session}
use Rattle.ss_block.specs.Order.{group_cmp}
use Rattle.ss_origin.specs.declared.counters.NextNumber.{NextNumber}
use Rattle.ss_origin.specs.Groups.{group_of, sg_of}
use Rattle.ss_origin.specs.Counting.{number_in}
use Rattle.ss_origin.specs.Chain.{start_behind}
use Rattle.ss_origin.specs.ChainLaws.{NumbersGoOn}
use Rattle.ss_origin.specs.CountedLaws.{SentBlocksAreCounted}
use Rattle.ss_review.specs.declared.counted.counted_session.CountedSession.{CountedSession}
use Rattle.ss_review.specs.declared.counted.counter.Counts.TheVariants as counts
use Rattle.ss_review.specs.keep.BlockMessage.{BlockMessage}
use Rattle.ss_review.specs.declared.report.group_report.GroupReport.{GroupReport}
use Rattle.ss_review.specs.declared.report.session_report.SessionReport.{SessionReport}
use Rattle.ss_review.specs.declared.report.session_report.SessionState.{SessionState}
use Rattle.ss_review.specs.declared.report.session_report.SessionState.TheVariants as states
use Rattle.ss_review.specs.keep.Notes.{notes}
use Rattle.ss_review.specs.keep.Contents.{blocks}
use Rattle.ss_review.specs.report.Verdict.{is_joined}
use Rattle.ss_review.specs.counted.Counted.{gbcs, counted_session, counted_sessions, next_after, next_number}
use Rattle.ss_review.specs.counted.CountedLaws.{NextGbcFollows}
use Rattle.ss_review.specs.counted.KeptLaws.{group_given, session_given, given_beside, counters_given, log_counters, number_kept, counters_kept}
use Rattle.ss_review.specs.deliveries.Delivery.{own_session}
use Rattle.ss_review.specs.deliveries.DeliveryLaws.{Case, says, report_in}
use Rattle.ss_review.specs.deliveries.Whole.{IsWhole}
use Rattle.ss_review.specs.Laws.{ReportsAreInOrder}
use Rattle.ss_review.proofs.of_lists.Rising.{same_keyed}
use Rattle.ss_review.proofs.of_lists.Sections.{map_agree}
use Rattle.ss_octets.proofs.Members.{Has, has_from_contains, has-map, from_has-map}
use Rattle.ss_laws.specs.ahead.LastCounters.{WholeLogsGiveTheLastCounters}
use Rattle.ss_laws.proofs.of_ahead.BlockCounts.{next_gbc_is}
use Rattle.ss_laws.proofs.of_ahead.NumberCounts.{Laws, key_of, own_report, count_given, is_listed, only_session, only_report, last_announced, own_told, has_next}
use Rattle.ss_laws.proofs.of_ahead.EndedNumbers.{spri_of, ended_numbers, numbers_rise, named, is_ended}

-- ---- groups that rise

abbrev of_report : GroupReport → Group
of_report g = g.group

-- what a group's report gives
abbrev as_next : GroupReport → NextNumber
as_next g = record { spri = g.group.spri; number = next_number g }

-- groups with one SG rise by SPRI
by_spri : (a b : Group) → a.sg ≡ b.sg → group_cmp a b ≡ Less → nat_cmp a.spri b.spri ≡ Less
by_spri a b same up =
    ap (λ (o : Ordering). ordering_then o (nat_cmp a.spri b.spri)) (sym (ap (nat_cmp a.sg) (sym same) ∙ tied_itself nat_cmp_total a.sg)) ∙ up

all_by_spri : (sg : ℕ) (a : Group) → a.sg ≡ sg → (gs : List GroupReport) → ((g : GroupReport) → Has gs g → g.group.sg ≡ sg)
    → AllByRecursion (λ b. group_cmp a b ≡ Less) (map of_report gs) → AllByRecursion (λ k. nat_cmp a.spri k ≡ Less) (map spri_of (map as_next gs))
all_by_spri sg a of_a [] are all = tt
all_by_spri sg a of_a (g ∷ gs) are all =
    (by_spri a g.group (of_a ∙ sym (are g (inl refl))) all.0, all_by_spri sg a of_a gs (λ h i. are h (inr i)) all.1)

rise_by_spri : (sg : ℕ) (gs : List GroupReport) → ((g : GroupReport) → Has gs g → g.group.sg ≡ sg) → IsStrictlySortedBy group_cmp (map of_report gs)
    → IsStrictlySortedBy nat_cmp (map spri_of (map as_next gs))
unfolding IsStrictlySortedBy
rise_by_spri sg [] are up = tt
rise_by_spri sg (g ∷ gs) are up =
    (all_by_spri sg g.group (are g (inl refl)) gs (λ h i. are h (inr i)) up.0, rise_by_spri sg gs (λ h i. are h (inr i)) up.1)

module _ (laws : Laws) (go_on : NumbersGoOn) (x : Case) (w : IsWhole x) where
  abbrev ended : List NextNumber
  ended = ended_numbers x.s.config x.chain

  abbrev reported : List GroupReport
  reported = (own_report x).groups

  -- ---- the numbers of the report are those with which the chain ended

  is_there : (q : NextNumber) → Has (map as_next reported) q → Has ended q
  is_there q h =
      let v = from_has-map as_next reported q h in
      let n = has_next laws x w v.0 v.1 in
      let spri = v.0.group.spri in
      let told : number_in ended spri ≡ 1 + count_given x spri = go_on x.s.config x.chain spri n.small in
      let some = n.some in
      let m = named ended spri (omega (arith, told, some)) in
      let number : m.0.number ≡ next_number v.0 = m.3 ∙ told ∙ sym n.next in
      let same : m.0 ≡ as_next v.0 = λ i. record { spri = m.2 i; number = number i } in
      subst (Has ended) (same ∙ v.2) m.1

  -- a group that the report tells of
  told_group : (q : NextNumber) → count_given x q.spri + 1 ≡ q.number → (g : GroupReport) → Has reported g → g.group.spri ≡ q.spri → Has (map as_next reported) q
  told_group q end g h e =
      let n = has_next laws x w g h in
      let number : next_number g ≡ q.number = n.next ∙ (let count : count_given x g.group.spri ≡ count_given x q.spri = ap (count_given x) e in omega (arith, count, end)) in
      let same : as_next g ≡ q = λ i. record { spri = e i; number = number i } in
      subst (Has (map as_next reported)) same (has-map as_next reported g h)

  of_own : (s : SessionReport) (g : GroupReport) → Contains (report_in x).sessions s → Contains s.groups g → Has reported g
  of_own s g c d =
      elim (subst (λ (ss : List SessionReport). Has ss s) (only_report laws x w) (has_from_contains (report_in x).sessions s c)) [
        | inl e ↦ subst (λ (r : SessionReport). Has r.groups g) (sym e) (has_from_contains s.groups g d)
        | inr h ↦ absurd h
      ]

  is_back : (q : NextNumber) → Has ended q → Has (map as_next reported) q
  is_back q h =
      let d = is_ended go_on x.s.config x.chain q h in
      let group = group_of x.s.config.grouping q.spri in
      let k = key_of x group (count_given x q.spri) in
      let number = d.number in
      let end : count_given x q.spri + 1 ≡ q.number = omega (arith, number) in
      elim ((laws.told (says x) x.log k).1 (last_announced laws x w q.spri d.small d.some)) [
        | inl l ↦ told_group q end l.1.group (of_own l.1.session l.1.group l.1.session_told l.1.group_told) (ap (λ (y : Group). y.spri) l.1.group_is)
        | inr l ↦ told_group q end l.1.group (of_own l.1.session l.1.group l.1.session_told l.1.group_told) (ap (λ (y : Group). y.spri) l.1.group_is)
      ]

  same_numbers : IsStrictlySortedBy group_cmp (map of_report reported) → map as_next reported ≡ ended
  same_numbers up =
      same_keyed nat_cmp_total spri_of (map as_next reported) ended
      (rise_by_spri (sg_of x.s.config.grouping) reported (λ g h. ap (λ (y : Group). y.sg) (has_next laws x w g h).group) up)
      (numbers_rise x.s.config x.chain) is_there is_back

  same_counters : map as_next reported ≡ ended → map (group_given (own_session x.s)) reported ≡ map (number_kept x) ended
  same_counters same =
      map_agree (group_given (own_session x.s)) (λ g. number_kept x (as_next g)) reported (λ g h.
      (let of_group = (has_next laws x w g h).group in
      λ i. record { session = own_session x.s; counts = counts.Messages (of_group i); next = next_number g }))
      ∙ sym (map-map (number_kept x) as_next reported)
      ∙ ap (map (number_kept x)) same

  -- ---- the counters of the log

  abbrev bs : List BlockMessage
  bs = blocks (notes x.log)

  abbrev own_counted : CountedSession
  own_counted = counted_session (says x) bs (own_session x.s)

  state_is : (own_report x).state ≡ states.Joined
  state_is =
      let l = is_listed laws x w in
      elim (subst (λ (ss : List SessionReport). Has ss l.entry) (only_report laws x w) (has_from_contains (report_in x).sessions l.entry l.of_report)) [
        | inl e ↦ ap (λ (r : SessionReport). r.state) e ∙ l.joined
        | inr h ↦ absurd h
      ]

  given_are : log_counters (says x) x.log ≡ session_given (own_report x) own_counted
  unfolding counters_given
  given_are =
      ap (λ (rs : List SessionReport). flat_map given_beside (zip rs (counted_sessions (says x) bs))) (only_report laws x w)
      ∙ ap (λ (ss : List Session). flat_map given_beside (zip (own_report x ∷ []) (map (counted_session (says x) bs) ss))) (only_session laws x w)
      ∙ append-nil (given_beside (own_report x, own_counted))
      ∙ ap (λ (s : SessionState). if is_joined s then session_given (own_report x) own_counted else []) state_is

  given_kept : next_after (gbcs (says x) bs (own_session x.s)) ≡ (start_behind x.s.config x.chain).counters.gbc
      → map (group_given (own_session x.s)) reported ≡ map (number_kept x) ended → session_given (own_report x) own_counted ≡ counters_kept x
  unfolding counters_kept
  given_kept gbc numbers =
      λ i. record { session = own_session x.s; counts = counts.Blocks; next = gbc i } ∷ numbers i

pub last_counters : Laws → NumbersGoOn → SentBlocksAreCounted → NextGbcFollows → ReportsAreInOrder → WholeLogsGiveTheLastCounters
last_counters laws go_on counted follows order x w =
    let up : IsStrictlySortedBy group_cmp (map of_report (own_report x).groups)
    = All-contains (λ (s : SessionReport). IsStrictlySortedBy group_cmp (map of_report s.groups)) (report_in x).sessions (own_report x) (order (says x) x.log).groups (own_told laws x w) in
    given_are laws go_on x w
    ∙ given_kept laws go_on x w (next_gbc_is laws.verified counted follows x w) (same_counters laws go_on x w (same_numbers laws go_on x w up))
