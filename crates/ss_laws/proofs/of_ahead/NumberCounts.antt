-- The next number of each group of a whole delivery is one more than how many messages the group was given.
use Rattle.std.proofs.Common.{◌≡◌, inl, inr, ℕ, ◌+◌, ◌-◌, ◌<◌, ◌≤◌, List, [], ◌∷◌, length, map, refl, sym, ap, ◌∙◌, subst, arith}
use Rattle.std.specs.Prelude.{Contains}
use Rattle.std.specs.List.Sorted.{IsStrictlySortedBy}
use Rattle.std.proofs.lemmas.Option.{slice_get_within}
use Rattle.ss_block.specs.declared.block.Group.{Group}
use Rattle.ss_block.specs.declared.session.Session.{Session}
use Rattle.ss_block.specs.OrderLaws.{session_cmp_total, session_cmp_exact}
use Rattle.ss_origin.specs.Groups.{group_of}
use Rattle.ss_origin.specs.GroupLaws.{SprisAreSmall}
use Rattle.ss_origin.specs.Calls.{spri_in}
use Rattle.ss_origin.specs.Chain.{given_to}
use Rattle.ss_origin.specs.SentLaws.{OthersAreSent}
use Rattle.ss_review.specs.keep.BlockMessage.{BlockMessage}
use Rattle.ss_review.specs.declared.report.group_report.GroupReport.{GroupReport}
use Rattle.ss_review.specs.declared.report.session_report.SessionReport.{SessionReport}
use Rattle.ss_review.specs.keep.Notes.{notes}
use Rattle.ss_review.specs.keep.Contents.{blocks, contents}
use Rattle.ss_review.specs.sessions.Sessions.{sessions}
use Rattle.ss_review.specs.announced.Announced.{Key, Row, rows, keys}
use Rattle.ss_review.specs.announced.Announcing.{IsAnnounced}
use Rattle.ss_review.specs.report.Meaning.{IsTold}
use Rattle.ss_review.specs.report.Report.{groups, group_report}
use Rattle.ss_review.specs.counted.Counted.{next_number}
use Rattle.ss_review.specs.counted.CountedLaws.{IsNext, NextNumbersFollow}
use Rattle.ss_review.specs.deliveries.Delivery.{own_session}
use Rattle.ss_review.specs.deliveries.DeliveryLaws.{Case, says, report_in, IsListedAsJoined, JoinedByFragments, AnnouncedByBlocks}
use Rattle.ss_review.specs.deliveries.Whole.{IsWhole, BlocksAreVerified}
use Rattle.ss_review.specs.Laws.{AnnouncedAreTold, KeysAreAnnounced}
use Rattle.ss_review.proofs.of_counters.Shortfalls.{report_of_session, sessions_are, reports_are}
use Rattle.ss_review.proofs.of_deliveries.Given.{is_given}
use Rattle.ss_review.proofs.of_deliveries.NumbersCovered.{numbers_have_blocks}
use Rattle.ss_review.proofs.of_deliveries.OwnNumbers.{grouping_of}
use Rattle.ss_review.proofs.of_deliveries.WholeBlocks.{payloads_arrive}
use Rattle.ss_review.proofs.of_lists.Keyed.{has-slice_get}
use Rattle.ss_review.proofs.of_lists.Rising.{same_members, rises-in_order, from_has-in_order}
use Rattle.ss_review.proofs.of_reports.Telling.{from_has-groups}
use Rattle.ss_octets.proofs.Members.{Has, has_from_contains, contains_from_has, has-map, from_has-map}

-- the laws that are used
pub record Laws : Type 0 where
  pub verified : BlocksAreVerified
  pub joined : JoinedByFragments
  pub announced : AnnouncedByBlocks
  pub told : AnnouncedAreTold
  pub by_key : KeysAreAnnounced
  pub follows : NextNumbersFollow
  pub others : OthersAreSent
  pub spris : SprisAreSmall

-- a number of a group of the originators' session
abbrev pub key_of : Case → Group → ℕ → Key
key_of x g n = record { session = own_session x.s; group = g; number = n }

-- the report of the originators' session
abbrev pub own_report : Case → SessionReport
own_report x = report_of_session (says x) x.log (own_session x.s)

-- how many messages a group was given
abbrev pub count_given : Case → ℕ → ℕ
count_given x spri = length (given_to x.s.config spri x.chain)

-- what holds of a group in which a number is announced
pub record IsOwnGroup (x : Case) (g : Group) (n : ℕ) : Type 0 where
  pub some : 1 ≤ n
  pub most : n ≤ count_given x g.spri
  pub small : g.spri < 192
  pub group : g ≡ group_of x.s.config.grouping g.spri

-- what holds of a group of the report
pub record HasNext (x : Case) (g : GroupReport) : Type 0 where
  pub next : next_number g ≡ 1 + count_given x g.group.spri
  pub some : 1 ≤ count_given x g.group.spri
  pub small : g.group.spri < 192
  pub group : g.group ≡ group_of x.s.config.grouping g.group.spri

module _ (laws : Laws) (x : Case) (w : IsWhole x) where
  abbrev bs : List BlockMessage
  bs = blocks (notes x.log)

  abbrev rs : List Row
  rs = rows (says x) bs

  abbrev session_of : BlockMessage → Session
  session_of b = b.session

  -- ---- one session

  pub is_listed : IsListedAsJoined x
  is_listed = (laws.joined x w.case).1 (payloads_arrive x w)

  there : Has (sessions bs) (own_session x.s)
  there =
      let l = is_listed in
      let h = has-map (λ (r : SessionReport). r.session) (report_in x).sessions l.entry (has_from_contains (report_in x).sessions l.entry l.of_report) in
      subst (Has (sessions bs)) l.own (subst (λ (ss : List Session). Has ss l.entry.session) (sessions_are (says x) x.log) h)

  own_one : (q : Session) → Has (sessions bs) q → q ≡ own_session x.s
  own_one q h =
      let v = from_has-map session_of bs q (from_has-in_order session_cmp_total session_cmp_exact q (map session_of bs) h) in
      sym v.2 ∙ (laws.verified x w v.0 (contains_from_has bs v.0 v.1)).0

  pub only_session : sessions bs ≡ own_session x.s ∷ []
  unfolding IsStrictlySortedBy
  only_session =
      same_members session_cmp_total (sessions bs) (own_session x.s ∷ []) (rises-in_order session_cmp_total session_cmp_exact (map session_of bs)) (tt, tt)
      (λ q h. inl (sym (own_one q h)))
      (λ q h. elim h [ inl e ↦ subst (Has (sessions bs)) e there | inr n ↦ absurd n ])

  pub only_report : (report_in x).sessions ≡ own_report x ∷ []
  only_report = reports_are (says x) x.log ∙ ap (map (report_of_session (says x) x.log)) only_session

  -- ---- announced numbers

  own_group : (g : Group) (n : ℕ) → IsAnnounced (says x) bs (key_of x g n) → IsOwnGroup x g n
  own_group g n a =
      let t : IsTold (report_in x) (key_of x g n) = (laws.told (says x) x.log (key_of x g n)).1 a in
      let its = (laws.announced x w.case (key_of x g n) refl).1 t in
      let given = given_to x.s.config g.spri x.chain in
      let some = its.number in
      let within : n - 1 < length given = slice_get_within given (n - 1) its.message its.given in
      let of_group : spri_in x.s.config.grouping its.message ≡ g.spri = (is_given x.s.config g.spri x.chain its.message (has-slice_get given (n - 1) its.message its.given)).1 in
      let below = laws.spris x.s.config.grouping its.message (grouping_of x.s.config w.case.chain.setting.fit.config) in
      record {
        some = some;
        most = omega (arith, within, some);
        small = omega (arith, of_group, below);
        group = λ i. record { sg = its.group i; spri = g.spri };
      }

  -- the last number that a group was given is announced
  pub last_announced : (spri : ℕ) → spri < 192 → 1 ≤ count_given x spri → IsAnnounced (says x) bs (key_of x (group_of x.s.config.grouping spri) (count_given x spri))
  last_announced spri small some =
      let k = key_of x (group_of x.s.config.grouping spri) (count_given x spri) in
      let b = numbers_have_blocks laws.others x w.case w.complete w.delivered.blocks spri (count_given x spri) small some (omega arith) in
      (laws.told (says x) x.log k).0 ((laws.announced x w.case k refl).0.1 (is_listed, b))

  -- a group of the report has an announced number
  some_announced : (g : GroupReport) → Has (own_report x).groups g → (n : ℕ) × IsAnnounced (says x) bs (key_of x g.group n)
  some_announced g h =
      let own = own_session x.s in
      let v = from_has-map (group_report (contents (notes x.log)).normal rs own) (groups rs own) g h in
      let k = from_has-groups rs own v.0 v.1 in
      let of_group : k.0.group ≡ g.group = k.3 ∙ ap (λ (y : GroupReport). y.group) v.2 in
      let a : IsAnnounced (says x) bs k.0 = (laws.by_key (says x) x.log k.0).0.0 (contains_from_has (keys rs) k.0 k.1) in
      let same : k.0 ≡ key_of x g.group k.0.number = λ i. record { session = k.2 i; group = of_group i; number = k.0.number } in
      (k.0.number, subst (IsAnnounced (says x) bs) same a)

  -- ---- the next number

  pub own_told : Contains (report_in x).sessions (own_report x)
  own_told = contains_from_has (report_in x).sessions (own_report x) (subst (λ (ss : List SessionReport). Has ss (own_report x)) (sym only_report) (inl refl))

  pub has_next : (g : GroupReport) → Has (own_report x).groups g → HasNext x g
  has_next g h =
      let a = some_announced g h in
      let d = own_group g.group a.0 a.1 in
      let first = d.some in
      let last = d.most in
      let count = count_given x g.group.spri in
      let some : 1 ≤ count = omega (arith, first, last) in
      let at_end : IsAnnounced (says x) bs (key_of x g.group count)
      = subst (λ (q : Group). IsAnnounced (says x) bs (key_of x q count)) (sym d.group) (last_announced g.group.spri d.small some) in
      let f : IsNext (λ n. IsAnnounced (says x) bs (key_of x g.group n)) (next_number g)
      = laws.follows (says x) x.log (own_report x) g own_told (contains_from_has (own_report x).groups g h) in
      let above : count < next_number g = f.above count at_end in
      let most : next_number g ≤ 1 + count = elim f.behind [
        | inl none ↦ omega (arith, none)
        | inr v ↦ (
            let below = (own_group g.group v.0 v.1).most in
            let end = v.2 in
            omega (arith, below, end))
      ] in
      record { next = omega (arith, above, most); some = some; small = d.small; group = d.group }
