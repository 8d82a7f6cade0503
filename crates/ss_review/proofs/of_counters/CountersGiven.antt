-- Up to the counters that a log itself gives, it has nothing missing but what it tells by itself.
use Rattle.std.proofs.Common.{◌≡◌, ◌⊎◌, inl, inr, ℕ, ◌-◌, ◌≤◌, Bool, true, false, not, List, [], ◌∷◌, ◌++◌, map, filter, flat_map, fold, refl, sym, ap, ◌∙◌, subst, arith}
use Rattle.std.specs.Prelude.{max, if◌then◌else◌}
use Rattle.std.specs.List.{zip}
use Rattle.std.proofs.lemmas.Bool.{le-ltb}
use Rattle.std.proofs.lemmas.List.Elements.{All-from_recursion}
use Rattle.std.proofs.lemmas.Simd.{map-map}
use Rattle.ss_block.specs.declared.block.Group.{Group}
use Rattle.ss_block.specs.declared.session.Session.{Session}
use Rattle.ss_block.specs.OrderLaws.{session_cmp_total, session_cmp_exact}
use Rattle.ss_review.specs.declared.counted.counted_session.CountedSession.{CountedSession}
use Rattle.ss_review.specs.declared.counted.counter.Counter.{Counter}
use Rattle.ss_review.specs.declared.counted.counter.Counts.TheVariants as counts
use Rattle.ss_review.specs.declared.counted.shortfall.Shortfall.{Shortfall}
use Rattle.ss_review.specs.keep.BlockMessage.{BlockMessage}
use Rattle.ss_review.specs.declared.report.group_report.GroupReport.{GroupReport}
use Rattle.ss_review.specs.declared.report.session_report.SessionReport.{SessionReport}
use Rattle.ss_review.specs.keep.Notes.{notes}
use Rattle.ss_review.specs.Ordered.{in_order}
use Rattle.ss_review.specs.keep.Contents.{blocks}
use Rattle.ss_review.specs.sessions.Sessions.{same_session, sessions}
use Rattle.ss_review.specs.report.Verdict.{is_joined}
use Rattle.ss_review.specs.sessions.Verified.{Answers}
use Rattle.ss_review.specs.counted.Counted.{gbcs, counted_session, counted_sessions, next_after, next_number, missing, missing_blocks}
use Rattle.ss_review.specs.report.Entries.{same_group}
use Rattle.ss_review.specs.counted.Kept.{counters_of, kept_sessions, blocks_said, number_said, gbc_in, number_in, groups_in, number_behind, tail_between, tails_in}
use Rattle.ss_review.specs.counted.KeptLaws.{group_given, session_given, given_beside, counters_given, CountersGivenBack, LogCountersAddNothing}
use Rattle.ss_octets.proofs.Members.{Has, has-map, from_has-map, has-filter, from_has-filter, from_has-flat_map}
use Rattle.ss_review.proofs.of_reports.EntriesMeant.{greatest_of}
use Rattle.ss_review.proofs.of_reports.EntriesRise.{fold_max-member}
use Rattle.ss_review.proofs.of_lists.Rising.{all_below, from_has-in_order}
use Rattle.ss_review.proofs.of_lists.Sections.{keeps_none, map_agree}
use Rattle.ss_review.proofs.of_counters.Shortfalls.{zip-map, is_same, same_is, its_report, report_of_session, reports_are, all_told, known_of, known_are, is_absent, absent_of, absent_are}
use Rattle.ss_review.proofs.of_lists.Tests.{member_any}

flat_map-map : {X Y Z : Type 0} (f : Y → List Z) (g : X → Y) (xs : List X) → flat_map f (map g xs) ≡ flat_map (λ x. f (g x)) xs
flat_map-map f g [] = refl
flat_map-map f g (x ∷ xs) = ap (λ zs. f (g x) ++ zs) (flat_map-map f g xs)

flat_map-none : {X Y : Type 0} (f : X → List Y) (xs : List X) → ((x : X) → f x ≡ []) → flat_map f xs ≡ []
flat_map-none f [] none = refl
flat_map-none f (x ∷ xs) none = (λ i. none x i ++ flat_map f xs) ∙ flat_map-none f xs none

no_tail : (g : Group) (first end : ℕ) → end ≤ first → tail_between g first end ≡ []
no_tail g first end le = ap (λ (b : Bool). if b then record { group = g; first = first; last = end - 1 } ∷ [] else []) (le-ltb first end le)

module _ (says : Answers) (log : List (List ℕ)) where
  abbrev pub stored : List BlockMessage
  stored = blocks (notes log)

  abbrev pub given : List Counter
  given = counters_given (its_report says log).sessions (counted_sessions says stored)

  abbrev beside : Session → SessionReport × CountedSession
  beside s = (report_of_session says log s, counted_session says stored s)

  given_are : given ≡ flat_map (λ s. given_beside (beside s)) (sessions stored)
  unfolding counters_given
  given_are =
      ap (λ rs. flat_map given_beside (zip rs (counted_sessions says stored))) (reports_are says log)
      ∙ ap (flat_map given_beside) (zip-map (report_of_session says log) (counted_session says stored) (sessions stored))
      ∙ flat_map-map given_beside beside (sessions stored)

  -- what a session gives
  abbrev pub IsGiven : Session → Counter → Type 0
  IsGiven s c =
      (c ≡ record { session = s; counts = counts.Blocks; next = next_after (gbcs says stored s) })
      ⊎ ((r : GroupReport) × Has (report_of_session says log s).groups r × (c ≡ group_given s r))

  given_if : (b : Bool) (s : Session) (c : Counter) → Has (if b then session_given (report_of_session says log s) (counted_session says stored s) else []) c → IsGiven s c
  given_if true s c (inl e) = inl (sym e)
  given_if true s c (inr h) =
      let w = from_has-map (group_given s) (report_of_session says log s).groups c h in
      inr (w.0, w.1, sym w.2)
  given_if false s c h = absurd h

  pub given_by : (c : Counter) → Has given c → (s : Session) × Has (sessions stored) s × IsGiven s c
  given_by c h =
      let w = from_has-flat_map (λ s. given_beside (beside s)) (sessions stored) c (subst (λ cs. Has cs c) given_are h) in
      (w.0, w.1, given_if (is_joined (report_of_session says log w.0).state) w.0 c w.2)

  session_of : (s : Session) (c : Counter) → IsGiven s c → c.session ≡ s
  session_of s c (inl e) = ap (λ (d : Counter). d.session) e
  session_of s c (inr w) = ap (λ (d : Counter). d.session) w.2

  own_given : (s : Session) (c : Counter) → Has (counters_of given s) c → IsGiven s c
  own_given s c h =
      let f = from_has-filter (λ (d : Counter). same_session d.session s) given c h in
      let w = given_by c f.0 in
      let at : w.0 ≡ s = sym (session_of w.0 c w.2) ∙ is_same c.session s f.1 in
      subst (λ t. IsGiven t c) at w.2

  -- ---- no counter is above what the log tells

  abbrev own : Session → List Counter
  own s = counters_of given s

  abbrev values : Session → List ℕ
  values s = gbcs says stored s

  said_blocks : (s : Session) (c : Counter) → IsGiven s c → blocks_said c.counts c.next ≤ next_after (values s)
  said_blocks s c (inl e) = let same : blocks_said c.counts c.next ≡ next_after (values s) = ap (λ (d : Counter). blocks_said d.counts d.next) e in omega (arith, same)
  said_blocks s c (inr w) = let none : blocks_said c.counts c.next ≡ 0 = ap (λ (d : Counter). blocks_said d.counts d.next) w.2 in omega (arith, none)

  gbc_within : (s : Session) → gbc_in (own s) ≤ next_after (values s)
  unfolding gbc_in
  gbc_within s =
      let said : Counter → ℕ = λ c. blocks_said c.counts c.next in
      elim (greatest_of 0 (map said (own s))) [
        | inl none ↦ omega (arith, none)
        | inr h ↦ (
            let w = from_has-map said (own s) (fold max 0 (map said (own s))) h in
            let most : said w.0 ≤ next_after (values s) = said_blocks s w.0 (own_given s w.0 w.1) in
            omega (arith, most, w.2))
      ]

  module _ (s : Session) (g : Group) where
    abbrev groups : List GroupReport
    groups = (report_of_session says log s).groups

    group_within : (b : Bool) (r : GroupReport) → Has groups r → same_group r.group g ≡ b → (if b then next_number r else 0) ≤ number_behind groups g
    group_within true r h e =
        let of_group : List GroupReport = filter (λ (x : GroupReport). same_group x.group g) groups in
        fold_max-member 1 (map next_number of_group) (next_number r) (has-map next_number of_group r (has-filter (λ (x : GroupReport). same_group x.group g) groups r h e))
    group_within false r h e = omega arith

    said_number : (c : Counter) → IsGiven s c → number_said g c.counts c.next ≤ number_behind groups g
    said_number c (inl e) = let none : number_said g c.counts c.next ≡ 0 = ap (λ (d : Counter). number_said g d.counts d.next) e in omega (arith, none)
    said_number c (inr w) =
        let same : number_said g c.counts c.next ≡ (if same_group w.0.group g then next_number w.0 else 0) = ap (λ (d : Counter). number_said g d.counts d.next) w.2 in
        let most : (if same_group w.0.group g then next_number w.0 else 0) ≤ number_behind groups g = group_within (same_group w.0.group g) w.0 w.1 refl in
        omega (arith, same, most)

    number_within : number_in (own s) g ≤ number_behind groups g
    unfolding number_in
    number_within =
        let said : Counter → ℕ = λ c. number_said g c.counts c.next in
        elim (greatest_of 0 (map said (own s))) [
          | inl none ↦ omega (arith, none)
          | inr h ↦ (
              let w = from_has-map said (own s) (fold max 0 (map said (own s))) h in
              let most : said w.0 ≤ number_behind groups g = said_number w.0 (own_given s w.0 w.1) in
              omega (arith, most, w.2))
        ]

  -- ---- so nothing is missing up to them

  tails_none : (s : Session) → (known_of says log given s).tails ≡ []
  unfolding tails_in
  tails_none s =
      let gs = (report_of_session says log s).groups in
      flat_map-none (λ g. tail_between g (number_behind gs g) (number_in (own s) g)) (groups_in (own s)) (λ g. no_tail g (number_behind gs g) (number_in (own s) g) (number_within s g))

  blocks_same : (s : Session) → (known_of says log given s).blocks ≡ missing_blocks (values s)
  blocks_same s =
      let within : gbc_in (own s) ≤ next_after (values s) = gbc_within s in
      let end : max (next_after (values s)) (gbc_in (own s)) ≡ next_after (values s) = omega (arith, within) in
      ap (missing (values s)) end

  none_absent : (s : Session) → Has (kept_sessions given) s → is_absent says log given s ≡ false
  unfolding kept_sessions
  none_absent s h =
      let w = from_has-map (λ (c : Counter). c.session) given s (from_has-in_order session_cmp_total session_cmp_exact s (map (λ (c : Counter). c.session) given) h) in
      let v = given_by w.0 w.1 in
      let at : s ≡ v.0 = sym w.2 ∙ session_of v.0 w.0 v.2 in
      ap not (member_any (same_session s) (sessions stored) v.0 v.1 (same_is s v.0 at))

  -- ---- and without a counter as little is missing

  unsaid_tails : (s : Session) → (known_of says log [] s).tails ≡ []
  unfolding tails_in groups_in in_order
  unsaid_tails s = refl

  unsaid_blocks : (s : Session) → (known_of says log [] s).blocks ≡ missing_blocks (values s)
  unfolding gbc_in
  unsaid_blocks s =
      let end : max (next_after (values s)) 0 ≡ next_after (values s) = omega arith in
      ap (missing (values s)) end

  unsaid_absent : (all_told says log []).absent ≡ []
  unfolding kept_sessions in_order
  unsaid_absent = absent_are says log []

  same_known : (s : Session) → known_of says log given s ≡ known_of says log [] s
  same_known s =
      let tails : (known_of says log given s).tails ≡ (known_of says log [] s).tails = tails_none s ∙ sym (unsaid_tails s) in
      let blocks : (known_of says log given s).blocks ≡ (known_of says log [] s).blocks = blocks_same s ∙ sym (unsaid_blocks s) in
      λ i. record { session = s; tails = tails i; blocks = blocks i }

pub counters_given_back : CountersGivenBack
counters_given_back says log =
    let cs = given says log in
    let ss = sessions (stored says log) in
    let known = (all_told says log cs).known in
    record {
      tails = All-from_recursion (λ (f : Shortfall). f.tails ≡ []) known (all_below (λ (f : Shortfall). f.tails ≡ []) known (λ f h.
          (let w = from_has-map (known_of says log cs) ss f (subst (λ fs. Has fs f) (known_are says log cs) h) in
          subst (λ (x : Shortfall). x.tails ≡ []) w.2 (tails_none says log w.0))));
      sessions =
          absent_are says log cs
          ∙ ap (map (absent_of says log cs)) (keeps_none (is_absent says log cs) (kept_sessions cs) (all_below (λ s. is_absent says log cs s ≡ false) (kept_sessions cs) (none_absent says log)));
      blocks =
          ap (map (λ (f : Shortfall). f.blocks)) (known_are says log cs)
          ∙ map-map (λ (f : Shortfall). f.blocks) (known_of says log cs) ss
          ∙ map_agree (λ s. (known_of says log cs s).blocks) (λ s. missing_blocks (values says log s)) ss (λ s h. blocks_same says log s)
          ∙ sym (map-map (λ (c : CountedSession). missing_blocks c.gbcs) (counted_session says (stored says log)) ss);
    }

pub log_counters_add_nothing : LogCountersAddNothing
log_counters_add_nothing says log =
    let cs = given says log in
    let ss = sessions (stored says log) in
    let known : (all_told says log cs).known ≡ (all_told says log []).known
    = known_are says log cs ∙ map_agree (known_of says log cs) (known_of says log []) ss (λ s h. same_known says log s) ∙ sym (known_are says log []) in
    let absent : (all_told says log cs).absent ≡ (all_told says log []).absent = (counters_given_back says log).sessions ∙ sym (unsaid_absent says log) in
    λ i. record { known = known i; absent = absent i }
