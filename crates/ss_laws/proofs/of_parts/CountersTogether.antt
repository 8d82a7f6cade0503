-- The counters of a log are those of its parts put together.
use Rattle.std.proofs.Common.{◌≡◌, inl, inr, ℕ, Bool, true, false, List, [], map, filter, refl, sym, ap, ◌∙◌, subst, arith}
use Rattle.std.specs.Prelude.{Option, Some, None, if◌then◌else◌}
use Rattle.std.specs.List.{flat_map, list_any, range_with_len}
use Rattle.std.specs.List.Sorted.{IsStrictlySortedBy}
use Rattle.std.proofs.lemmas.Bool.{false_from_ne_true, cases_Bool, true≢false}
use Rattle.std.proofs.lemmas.Cmp.{nat_cmp_total}
use Rattle.std.proofs.lemmas.List.Kept.{IsStrictlySortedBy-filter}
use Rattle.ss_block.specs.declared.session.Session.{Session}
use Rattle.ss_block.specs.Order.{session_cmp}
use Rattle.ss_block.specs.OrderLaws.{session_cmp_total, session_cmp_exact}
use Rattle.ss_review.specs.declared.counted.counted_session.CountedSession.{CountedSession}
use Rattle.ss_review.specs.declared.counted.counter.Counter.{Counter}
use Rattle.ss_review.specs.declared.counted.counter.Counts.TheVariants as counts
use Rattle.ss_review.specs.keep.BlockMessage.{BlockMessage}
use Rattle.ss_review.specs.declared.report.group_report.GroupReport.{GroupReport}
use Rattle.ss_review.specs.keep.Contents.{blocks, contents}
use Rattle.ss_review.specs.keep.Notes.{notes}
use Rattle.ss_review.specs.sessions.Sessions.{same_session, sessions}
use Rattle.ss_review.specs.sessions.Verified.{Answers}
use Rattle.ss_review.specs.report.Verdict.{is_joined}
use Rattle.ss_review.specs.counted.Counted.{gbcs, next_after}
use Rattle.ss_review.specs.counted.Kept.{counters_of, kept_sessions}
use Rattle.ss_review.specs.counted.KeptLaws.{group_given, session_given, given_beside}
use Rattle.ss_review.specs.pinned.Pinned.{blocks_by, pinned_contents}
use Rattle.ss_laws.specs.parts.Parts.{SessionsStayWhole, blocks_of, messages_of}
use Rattle.ss_octets.proofs.Members.{Has, contains_from_has, has-map, from_has-map, has-flat_map, from_has-flat_map, has-filter, from_has-filter}
use Rattle.ss_review.proofs.of_counters.Shortfalls.{is_same, same_is}
use Rattle.ss_review.proofs.of_lists.FilteredAlike.{flat_map_agree}
use Rattle.ss_review.proofs.of_lists.Rising.{all_below, rises-in_order, in_order_is}
use Rattle.ss_review.proofs.of_lists.Sections.{keeps_none}
use Rattle.ss_review.proofs.of_lists.Tests.{any_member, member_any, in_range}
use Rattle.ss_review.proofs.of_pinned.KeptOfSessions.{keeps_each}
use Rattle.ss_laws.proofs.of_parts.PartBlocks.{IsOwn, from_own, has-own, is_own, its_own, part_is, has-sessions, from_has-sessions}
use Rattle.ss_laws.specs.parts.PartCounters.{AreBlockParts, counters_by, counters_of_parts, by_session}
use Rattle.ss_laws.proofs.of_parts.BareSessions.{beside, given_are}
use Rattle.ss_laws.proofs.of_parts.Lists.{filter-flat_map, none_give, one_gives, givers}
use Rattle.ss_laws.proofs.of_parts.PartTexts.{from_by, sessions_of_part, beside_of_part}
use Rattle.ss_laws.proofs.of_parts.Places.{range_rises}

pub sessions_rise : (bs : List BlockMessage) → IsStrictlySortedBy session_cmp (sessions bs)
sessions_rise bs = rises-in_order session_cmp_total session_cmp_exact (map (λ (b : BlockMessage). b.session) bs)

pub in_whole : (part : ℕ → ℕ) (bs : List BlockMessage) (k : ℕ) (s : Session) → Has (sessions (blocks_of part k bs)) s → Has (sessions bs) s
in_whole part bs k s h =
    let i = is_own part bs k s h in
    subst (Has (sessions bs)) i.2 (has-sessions bs i.0 (from_own part bs k i.0 i.1).0)

module _ (says : Answers) (bs : List BlockMessage) where
  -- what a session gives
  abbrev pub given : Session → List Counter
  given s = given_beside (beside says bs s)

  abbrev joins : Session → Bool
  joins s = is_joined (beside says bs s).0.state

  -- ---- counters of one session

  of_given : (s : Session) (q : CountedSession) (gs : List GroupReport) (b : Bool) (c : Counter)
      → Has (if b then session_given (record { session = s; state = (beside says bs s).0.state; groups = gs }) q else []) c → c.session ≡ s
  of_given s q gs true c (inl e) = ap (λ (d : Counter). d.session) (sym e)
  of_given s q gs true c (inr h) = ap (λ (d : Counter). d.session) (sym (from_has-map (group_given s) gs c h).2)
  of_given s q gs false c h = absurd h

  pub session_given_is : (s : Session) (c : Counter) → Has (given s) c → c.session ≡ s
  session_given_is s c h = of_given s (beside says bs s).1 (beside says bs s).0.groups (joins s) c h

  own_given : (s : Session) → counters_of (given s) s ≡ given s
  own_given s = keeps_each (λ (c : Counter). same_session c.session s) (given s) (λ c h. same_is c.session s (session_given_is s c h))

  other_given : (s t : Session) → (t ≡ s → ⊥) → counters_of (given t) s ≡ []
  other_given s t apart =
      keeps_none (λ (c : Counter). same_session c.session s) (given t)
      (all_below (λ (c : Counter). same_session c.session s ≡ false) (given t) (λ c h.
      false_from_ne_true (same_session c.session s) (λ e. apart (sym (session_given_is t c h) ∙ is_same c.session s e))))

  -- ---- counters of some sessions

  pub of_sessions : (ss : List Session) → IsStrictlySortedBy session_cmp ss → (s : Session) → Has ss s → counters_of (flat_map (λ t. given_beside (beside says bs t)) ss) s ≡ given_beside (beside says bs s)
  of_sessions ss up s h =
      filter-flat_map (λ (c : Counter). same_session c.session s) given ss
      ∙ one_gives session_cmp_total (λ t. counters_of (given t) s) s ss up h (λ t i apart. other_given s t apart)
      ∙ own_given s

  of_others : (ss : List Session) (s : Session) → (Has ss s → ⊥) → counters_of (flat_map (λ t. given_beside (beside says bs t)) ss) s ≡ []
  of_others ss s none =
      filter-flat_map (λ (c : Counter). same_session c.session s) given ss
      ∙ none_give (λ t. counters_of (given t) s) ss (λ t h. other_given s t (λ e. none (subst (Has ss) e h)))

  -- ---- of all parts

  module _ (part : ℕ → ℕ) (parts : ℕ) (are : AreBlockParts bs part parts) where
    abbrev own : ℕ → List Session
    own k = sessions (blocks_of part k bs)

    abbrev all : List Counter
    all = flat_map (λ k. flat_map (λ s. given_beside (beside says bs s)) (sessions (blocks_of part k bs))) (range_with_len 0 parts)

    -- the part of a session
    pub its_part : (s : Session) → Has (sessions bs) s → (k : ℕ) × Has (range_with_len 0 parts) k × IsOwn part bs k s
    its_part s h =
        let w = from_has-sessions bs s h in
        let k = part w.0.place in
        let below = are.within w.0 (contains_from_has bs w.0 w.1) in
        (k, in_range 0 parts k (omega arith) (omega (arith, below)), (w.0, has-own part bs k w.0 w.1 refl, w.2))

    -- no other part has it
    not_other : (k j : ℕ) (s : Session) → IsOwn part bs k s → (j ≡ k → ⊥) → Has (own j) s → ⊥
    not_other k j s i apart h =
        let w = is_own part bs j s h in
        let f = from_own part bs j w.0 w.1 in
        apart (sym f.1 ∙ part_is part bs k are.sessions s i w.0 f.0 w.2)

    of_all : (s : Session) → Has (sessions bs) s → counters_of all s ≡ given s
    of_all s h =
        let p = its_part s h in
        filter-flat_map (λ (c : Counter). same_session c.session s) (λ k. flat_map given (own k)) (range_with_len 0 parts)
        ∙ one_gives nat_cmp_total (λ k. counters_of (flat_map given (own k)) s) p.0 (range_with_len 0 parts) (range_rises 0 parts) p.1
        (λ j i apart. of_others (own j) s (not_other p.0 j s p.2 apart))
        ∙ of_sessions (own p.0) (sessions_rise (blocks_of part p.0 bs)) s (its_own part bs p.0 s p.2)

    -- ---- which counters there are

    pub into_whole : (c : Counter) → Has all c → Has (flat_map (λ s. given_beside (beside says bs s)) (sessions bs)) c
    into_whole c h =
        let w = from_has-flat_map (λ k. flat_map given (own k)) (range_with_len 0 parts) c h in
        let v = from_has-flat_map given (own w.0) c w.2 in
        has-flat_map given (sessions bs) v.0 c (in_whole part bs w.0 v.0 v.1) v.2

    from_session : (s : Session) (c : Counter) → Has (sessions bs) s → Has (given s) c → Has all c
    from_session s c h i =
        let p = its_part s h in
        has-flat_map (λ k. flat_map given (own k)) (range_with_len 0 parts) p.0 c p.1 (has-flat_map given (own p.0) s c (its_own part bs p.0 s p.2) i)

    pub from_whole : (c : Counter) → Has (flat_map (λ s. given_beside (beside says bs s)) (sessions bs)) c → Has all c
    from_whole c h = let w = from_has-flat_map given (sessions bs) c h in from_session w.0 c w.1 w.2

    -- ---- which sessions have one

    unjoined : (s : Session) → joins s ≡ false → given s ≡ []
    unjoined s e = ap (λ (b : Bool). if b then session_given (beside says bs s).0 (beside says bs s).1 else []) e

    -- a joined session gives the counter of its blocks
    abbrev of_blocks : Session → Counter
    of_blocks s = record { session = s; counts = counts.Blocks; next = next_after (gbcs says bs s) }

    gives_if : (s : Session) (b : Bool) → b ≡ true → Has (if b then session_given (beside says bs s).0 (beside says bs s).1 else []) (of_blocks s)
    gives_if s true e = inl refl
    gives_if s false e = absurd (cc)

    joined_where : (s : Session) (c : Counter) → Has (given s) c → joins s ≡ true
    joined_where s c h =
        elim (cases_Bool (joins s)) [ inl t ↦ t | inr f ↦ absurd (subst (λ cs. Has cs c) (unjoined s f) h) ]

    kept_are : filter joins (sessions bs) ≡ kept_sessions all
    unfolding kept_sessions
    kept_are =
        in_order_is session_cmp_total session_cmp_exact (filter joins (sessions bs)) (map (λ (c : Counter). c.session) all)
        (IsStrictlySortedBy-filter session_cmp joins (sessions bs) (sessions_rise bs))
        (λ s h.
        (let f = from_has-filter joins (sessions bs) s h in
        has-map (λ (c : Counter). c.session) all (of_blocks s) (from_session s (of_blocks s) f.0 (gives_if s (joins s) f.1))))
        (λ s h.
        (let w = from_has-map (λ (c : Counter). c.session) all s h in
        let v = from_has-flat_map given (sessions bs) w.0 (into_whole w.0 w.1) in
        let same : v.0 ≡ s = sym (session_given_is v.0 w.0 v.2) ∙ w.2 in
        subst (Has (filter joins (sessions bs))) same (has-filter joins (sessions bs) v.0 v.1 (joined_where v.0 w.0 v.2))))

    -- ---- put together

    pub together : flat_map (λ s. given_beside (beside says bs s)) (sessions bs) ≡ by_session all
    together =
        sym (givers given joins unjoined (sessions bs))
        ∙ sym (flat_map_agree (counters_of all) given (filter joins (sessions bs)) (λ s h. of_all s (from_has-filter joins (sessions bs) s h).0))
        ∙ ap (flat_map (counters_of all)) kept_are

-- ---- of a log of texts

pub counters_by_are : (known : Option (List (List ℕ))) (says : Answers) (log : List (List ℕ))
    → counters_by known says log ≡ flat_map (λ s. given_beside (beside says (blocks_by known says (blocks (notes log))) s)) (sessions (blocks_by known says (blocks (notes log))))
counters_by_are None says log = given_are says (contents (notes log))
counters_by_are (Some ps) says log = given_are says (pinned_contents says ps (contents (notes log)))

pub counters_of_part_are : (known : Option (List (List ℕ))) (says : Answers) (part : ℕ → ℕ) (k : ℕ) (log : List (List ℕ)) → SessionsStayWhole part (blocks (notes log))
    → counters_by known says (messages_of part k log)
    ≡ flat_map (λ s. given_beside (beside says (blocks_by known says (blocks (notes log))) s)) (sessions (blocks_of part k (blocks_by known says (blocks (notes log)))))
counters_of_part_are known says part k log whole =
    let bs = blocks_by known says (blocks (notes log)) in
    let own = blocks_by known says (blocks (notes (messages_of part k log))) in
    counters_by_are known says (messages_of part k log)
    ∙ ap (flat_map (λ s. given_beside (beside says own s))) (sessions_of_part known says part k log whole)
    ∙ flat_map_agree (λ s. given_beside (beside says own s)) (λ s. given_beside (beside says bs s)) (sessions (blocks_of part k bs))
    (λ s h. ap given_beside (beside_of_part known says part k log whole s (is_own part bs k s h)))

-- ---- one session

module _ (known : Option (List (List ℕ))) (says : Answers) (part : ℕ → ℕ) (k : ℕ) (log : List (List ℕ)) (whole : SessionsStayWhole part (blocks (notes log))) where
  abbrev bs : List BlockMessage
  bs = blocks_by known says (blocks (notes log))

  abbrev ss : List Session
  ss = sessions (blocks_of part k bs)

  there : (s : Session) → Has ss s → counters_of (counters_by known says (messages_of part k log)) s ≡ counters_of (counters_by known says log) s
  there s i =
      ap (λ cs. counters_of cs s) (counters_of_part_are known says part k log whole)
      ∙ of_sessions says bs ss (sessions_rise (blocks_of part k bs)) s i
      ∙ sym (of_sessions says bs (sessions bs) (sessions_rise bs) s (in_whole part bs k s i))
      ∙ sym (ap (λ cs. counters_of cs s) (counters_by_are known says log))

  nowhere : (s : Session) → (Has ss s → ⊥) → (Has (sessions bs) s → ⊥) → counters_of (counters_by known says (messages_of part k log)) s ≡ counters_of (counters_by known says log) s
  nowhere s none nor =
      ap (λ cs. counters_of cs s) (counters_of_part_are known says part k log whole)
      ∙ of_others says bs ss s none
      ∙ sym (of_others says bs (sessions bs) s nor)
      ∙ sym (ap (λ cs. counters_of cs s) (counters_by_are known says log))

  -- what is kept of a session of the part is of the part
  not_kept : (s : Session) → IsOwn part (blocks (notes log)) k s → (Has ss s → ⊥) → Has (sessions bs) s → ⊥
  not_kept s i none h =
      let w = from_has-sessions bs s h in
      let at = part_is part (blocks (notes log)) k whole s i w.0 (from_by known says (blocks (notes log)) w.0 w.1) w.2 in
      none (its_own part bs k s (w.0, has-own part bs k w.0 w.1 at, w.2))

  pub session_counters_alike : (s : Session) → Has (sessions (blocks_of part k (blocks (notes log)))) s → counters_of (counters_by known says (messages_of part k log)) s ≡ counters_of (counters_by known says log) s
  session_counters_alike s h =
      elim (cases_Bool (list_any (same_session s) ss)) [
        | inl t ↦ (let w = any_member (same_session s) ss t in there s (subst (Has ss) (sym (is_same s w.0 w.2)) w.1))
        | inr f ↦ (
            let none : Has ss s → ⊥ = λ i. true≢false (sym (member_any (same_session s) ss s i (same_is s s refl)) ∙ f) in
            nowhere s none (not_kept s (is_own part (blocks (notes log)) k s h) none))
      ]

-- ---- of all parts

pub parts_are : (known : Option (List (List ℕ))) (says : Answers) (part : ℕ → ℕ) (parts : ℕ) (log : List (List ℕ)) → SessionsStayWhole part (blocks (notes log))
    → counters_of_parts known says part parts log
    ≡ flat_map (λ k. flat_map (λ s. given_beside (beside says (blocks_by known says (blocks (notes log))) s)) (sessions (blocks_of part k (blocks_by known says (blocks (notes log)))))) (range_with_len 0 parts)
parts_are known says part parts log whole = λ i. flat_map (λ k. counters_of_part_are known says part k log whole i) (range_with_len 0 parts)
