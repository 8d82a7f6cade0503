-- What is missing of a log is what is missing of its parts put together.
use Rattle.std.proofs.Common.{◌≡◌, inl, inr, ℕ, ◌<◌, Bool, true, false, not, List, [], map, filter, refl, sym, ap, ◌∙◌, subst, arith}
use Rattle.std.specs.Prelude.{Contains}
use Rattle.std.specs.declared.cmp.Ordering.{Ordering}
use Rattle.std.specs.List.{flat_map, list_any, range_with_len}
use Rattle.std.specs.List.Sorted.{IsStrictlySortedBy}
use Rattle.std.proofs.lemmas.Bool.{cases_Bool, not-true}
use Rattle.std.proofs.lemmas.Cmp.{on_total}
use Rattle.std.proofs.lemmas.List.Kept.{IsStrictlySortedBy-filter}
use Rattle.ss_block.specs.declared.session.Session.{Session}
use Rattle.ss_block.specs.Order.{session_cmp}
use Rattle.ss_block.specs.OrderLaws.{session_cmp_total, session_cmp_exact}
use Rattle.ss_review.specs.declared.counted.counter.Counter.{Counter}
use Rattle.ss_review.specs.declared.counted.shortfall.LogShortfalls.{LogShortfalls}
use Rattle.ss_review.specs.declared.counted.shortfall.Shortfall.{Shortfall}
use Rattle.ss_review.specs.keep.BlockMessage.{BlockMessage}
use Rattle.ss_review.specs.sessions.Sessions.{same_session, sessions}
use Rattle.ss_review.specs.sessions.Verified.{Answers}
use Rattle.ss_review.specs.counted.Kept.{kept_sessions, shortfall, absent_among, shortfall_beside}
use Rattle.ss_laws.specs.parts.Parts.{blocks_of}
use Rattle.ss_octets.proofs.Members.{Has, has_from_contains, contains_from_has, has-map, from_has-map, has-flat_map, from_has-flat_map, has-filter, from_has-filter}
use Rattle.ss_review.proofs.of_counters.Shortfalls.{is_same, same_is}
use Rattle.ss_review.proofs.of_lists.OnesInOrder.{in_order_of_ones, rise_told}
use Rattle.ss_review.proofs.of_lists.Rising.{rises-in_order, has-in_order, from_has-in_order}
use Rattle.ss_review.proofs.of_lists.Tests.{any_member, member_any, in_range, from_in_range}
use Rattle.ss_laws.proofs.of_parts.PartBlocks.{IsOwn, from_own, is_own, its_own}
use Rattle.ss_laws.specs.parts.PartCounters.{AreBlockParts}
use Rattle.ss_laws.specs.parts.WholeParts.{AreGiven, missing_together}
use Rattle.ss_laws.proofs.of_parts.AlikeCounters.{alike_of}
use Rattle.ss_laws.proofs.of_parts.BareSessions.{beside}
use Rattle.ss_laws.proofs.of_parts.CountersTogether.{sessions_rise, its_part, in_whole}

-- ---- sessions that aren't among others

pub is_other : (s : Session) (ss : List Session) → (Has ss s → ⊥) → not (list_any (same_session s) ss) ≡ true
is_other s ss none =
    elim (cases_Bool (list_any (same_session s) ss)) [
      | inl t ↦ (let w = any_member (same_session s) ss t in absurd (none (subst (Has ss) (sym (is_same s w.0 w.2)) w.1)))
      | inr f ↦ ap not f
    ]

pub other_is : (s : Session) (ss : List Session) → not (list_any (same_session s) ss) ≡ true → Has ss s → ⊥
other_is s ss e h =
    let there : list_any (same_session s) ss ≡ true = member_any (same_session s) ss s h (same_is s s refl) in
    let bad : true ≡ false = sym there ∙ not-true (list_any (same_session s) ss) e in
    absurd (cc)

-- ---- sessions that have a counter

pub from_kept : (ds : List Counter) (s : Session) → Has (kept_sessions ds) s → (c : Counter) × Has ds c × (c.session ≡ s)
unfolding kept_sessions
from_kept ds s h =
    from_has-map (λ (c : Counter). c.session) ds s (from_has-in_order session_cmp_total session_cmp_exact s (map (λ (c : Counter). c.session) ds) h)

pub into_kept : (ds : List Counter) (c : Counter) → Has ds c → Has (kept_sessions ds) c.session
unfolding kept_sessions
into_kept ds c h =
    has-in_order session_cmp_total session_cmp_exact c.session (map (λ (d : Counter). d.session) ds) (has-map (λ (d : Counter). d.session) ds c h)

kept_rise : (ds : List Counter) → IsStrictlySortedBy session_cmp (kept_sessions ds)
unfolding kept_sessions
kept_rise ds = rises-in_order session_cmp_total session_cmp_exact (map (λ (c : Counter). c.session) ds)

-- ---- what is missing of sessions with some counters

module _ (says : Answers) (bs : List BlockMessage) where
  abbrev pub known_of : List Counter → Session → Shortfall
  known_of ds s = shortfall_beside ds (beside says bs s)

  abbrev pub absent_of : List Counter → Session → Shortfall
  absent_of ds s = shortfall ds s [] []

  -- of these sessions, which have a block, and of the others
  abbrev pub missing_in : List Counter → List Session → LogShortfalls
  missing_in ds ss = record {
    known = map (known_of ds) ss;
    absent = map (absent_of ds) (absent_among (kept_sessions ds) ss);
  }

module _ (says : Answers) (bs : List BlockMessage) (part : ℕ → ℕ) (parts : ℕ) (are : AreBlockParts bs part parts) (cs : List Counter) (own : ℕ → List Counter) (given : AreGiven bs part parts cs own) where
  abbrev own_sessions : ℕ → List Session
  own_sessions k = sessions (blocks_of part k bs)

  abbrev pub missing_at : ℕ → LogShortfalls
  missing_at k = missing_in says bs (own k) (sessions (blocks_of part k bs))

  abbrev whole : LogShortfalls
  whole = missing_in says bs cs (sessions bs)

  abbrev pub of_parts : List LogShortfalls
  of_parts = map missing_at (range_with_len 0 parts)

  -- ---- a part is given what the whole is given

  given_of_whole : (k : ℕ) → k < parts → (c : Counter) → Has (own k) c → Has cs c
  given_of_whole k low c h = has_from_contains cs c (given.within k c low (contains_from_has (own k) c h))

  pub same_known : (k : ℕ) → k < parts → (s : Session) → IsOwn part bs k s → known_of says bs (own k) s ≡ known_of says bs cs s
  same_known k low s i =
      let f = from_own part bs k i.0 i.1 in
      alike_of (own k) cs s (λ c h e. given_of_whole k low c h)
      (λ c h e. subst (λ j. Has (own j) c) f.1 (has_from_contains (own (part i.0.place)) c (given.its i.0 c (contains_from_has bs i.0 f.0) (contains_from_has cs c h) (e ∙ sym i.2))))
      (beside says bs s).0.groups (beside says bs s).1.gbcs

  not_blocked : (c : Counter) (s : Session) → c.session ≡ s → (Has (sessions bs) s → ⊥) → Contains (sessions bs) c.session → ⊥
  not_blocked c s e none i = none (subst (Has (sessions bs)) e (has_from_contains (sessions bs) c.session i))

  same_absent : (k : ℕ) → k < parts → (s : Session) (c : Counter) → Has (own k) c → c.session ≡ s → (Has (sessions bs) s → ⊥) → absent_of says bs (own k) s ≡ absent_of says bs cs s
  same_absent k low s c h e none =
      alike_of (own k) cs s (λ d i f. given_of_whole k low d i)
      (λ d i f. has_from_contains (own k) d (given.all k c d low (not_blocked c s e none) (contains_from_has (own k) c h) (contains_from_has cs d i) (f ∙ sym e)))
      [] []

  -- ---- what one of the parts has

  among : (f : LogShortfalls → List Shortfall) (k : ℕ) (x : Shortfall) → k < parts → Has (f (missing_at k)) x → Has (flat_map f of_parts) x
  among f k x low h =
      has-flat_map f of_parts (missing_at k) x (has-map missing_at (range_with_len 0 parts) k (in_range 0 parts k (omega arith) (omega (arith, low)))) h

  from_among : (f : LogShortfalls → List Shortfall) (x : Shortfall) → Has (flat_map f of_parts) x → (k : ℕ) × (k < parts) × Has (f (missing_at k)) x
  from_among f x h =
      let w : (m : LogShortfalls) × Has of_parts m × Has (f m) x = from_has-flat_map f of_parts x h in
      let v : (k : ℕ) × Has (range_with_len 0 parts) k × (missing_at k ≡ w.0) = from_has-map missing_at (range_with_len 0 parts) w.0 w.1 in
      let low = (from_in_range 0 parts v.0 v.1).1 in
      (v.0, omega (arith, low), subst (λ m. Has (f m) x) (sym v.2) w.2)

  -- ---- sessions with a block

  abbrev by_session : Shortfall → Shortfall → Ordering
  by_session f g = session_cmp f.session g.session

  pub known_there : (x : Shortfall) → Has whole.known x → (k : ℕ) × (k < parts) × Has (missing_at k).known x
  known_there x h =
      let w : (s : Session) × Has (sessions bs) s × (known_of says bs cs s ≡ x) = from_has-map (known_of says bs cs) (sessions bs) x h in
      let p = its_part says bs part parts are w.0 w.1 in
      let low = (from_in_range 0 parts p.0 p.1).1 in
      let below : p.0 < parts = omega (arith, low) in
      (p.0, below, subst (Has (missing_at p.0).known) (same_known p.0 below w.0 p.2 ∙ w.2) (has-map (known_of says bs (own p.0)) (own_sessions p.0) w.0 (its_own part bs p.0 w.0 p.2)))

  pub known_back : (k : ℕ) → k < parts → (x : Shortfall) → Has (missing_at k).known x → Has whole.known x
  known_back k low x h =
      let w : (s : Session) × Has (own_sessions k) s × (known_of says bs (own k) s ≡ x) = from_has-map (known_of says bs (own k)) (own_sessions k) x h in
      subst (Has whole.known) (sym (same_known k low w.0 (is_own part bs k w.0 w.1)) ∙ w.2) (has-map (known_of says bs cs) (sessions bs) w.0 (in_whole part bs k w.0 w.1))

  known_adds_up : whole.known ≡ (missing_together of_parts).known
  known_adds_up =
      in_order_of_ones (on_total (λ (f : Shortfall). f.session) session_cmp_total) whole.known (flat_map (λ (m : LogShortfalls). m.known) of_parts)
      (rise_told session_cmp by_session (known_of says bs cs) (λ s t. refl) (sessions bs) (sessions_rise bs))
      (λ x h. (let w = known_there x h in among (λ (m : LogShortfalls). m.known) w.0 x w.1 w.2))
      (λ x h. (let w = from_among (λ (m : LogShortfalls). m.known) x h in known_back w.0 w.1 x w.2))

  -- ---- sessions without one

  abbrev sessions_there : List Session
  sessions_there = map (λ (f : Shortfall). f.session) (flat_map (λ (m : LogShortfalls). m.known) of_parts)

  blocked_there : (s : Session) → Has (sessions bs) s → Has sessions_there s
  blocked_there s h =
      let w = known_there (known_of says bs cs s) (has-map (known_of says bs cs) (sessions bs) s h) in
      has-map (λ (f : Shortfall). f.session) (flat_map (λ (m : LogShortfalls). m.known) of_parts) (known_of says bs cs s)
      (among (λ (m : LogShortfalls). m.known) w.0 (known_of says bs cs s) w.1 w.2)

  blocked_back : (s : Session) → Has sessions_there s → Has (sessions bs) s
  blocked_back s h =
      let w : (f : Shortfall) × Has (flat_map (λ (m : LogShortfalls). m.known) of_parts) f × (f.session ≡ s) = from_has-map (λ (f : Shortfall). f.session) (flat_map (λ (m : LogShortfalls). m.known) of_parts) s h in
      let v = from_among (λ (m : LogShortfalls). m.known) w.0 w.1 in
      let u : (t : Session) × Has (own_sessions v.0) t × (known_of says bs (own v.0) t ≡ w.0) = from_has-map (known_of says bs (own v.0)) (own_sessions v.0) w.0 v.2 in
      subst (Has (sessions bs)) (ap (λ (f : Shortfall). f.session) u.2 ∙ w.2) (in_whole part bs v.0 u.0 u.1)

  abbrev is_absent : Session → Bool
  is_absent s = not (list_any (same_session s) (sessions bs))

  abbrev is_other_at : ℕ → Session → Bool
  is_other_at k s = not (list_any (same_session s) (sessions (blocks_of part k bs)))

  absent_at : (k : ℕ) → k < parts → (s : Session) (c : Counter) → Has (own k) c → c.session ≡ s → (Has (sessions bs) s → ⊥) → Has (missing_at k).absent (absent_of says bs cs s)
  absent_at k low s c h e none =
      let there : Has (kept_sessions (own k)) s = subst (Has (kept_sessions (own k))) e (into_kept (own k) c h) in
      let other = is_other s (own_sessions k) (λ j. none (in_whole part bs k s j)) in
      subst (Has (missing_at k).absent) (same_absent k low s c h e none)
      (has-map (absent_of says bs (own k)) (absent_among (kept_sessions (own k)) (own_sessions k)) s (has-filter (is_other_at k) (kept_sessions (own k)) s there other))

  -- what is said of a session that has no block anywhere
  pub absent_there : (x : Shortfall) → Has whole.absent x → (k : ℕ) × (k < parts) × Has (missing_at k).absent x
  absent_there x h =
      let w : (s : Session) × Has (absent_among (kept_sessions cs) (sessions bs)) s × (absent_of says bs cs s ≡ x) = from_has-map (absent_of says bs cs) (absent_among (kept_sessions cs) (sessions bs)) x h in
      let f = from_has-filter is_absent (kept_sessions cs) w.0 w.1 in
      let none = other_is w.0 (sessions bs) f.1 in
      let c = from_kept cs w.0 f.0 in
      let g = given.some c.0 (contains_from_has cs c.0 c.1) (not_blocked c.0 w.0 c.2 none) in
      (g.0, g.1, subst (Has (missing_at g.0).absent) w.2 (absent_at g.0 g.1 w.0 c.0 (has_from_contains (own g.0) c.0 g.2) c.2 none))

  none_absent : (x : Shortfall) → Has whole.absent x → Has (sessions bs) x.session → ⊥
  none_absent x h =
      let w : (s : Session) × Has (absent_among (kept_sessions cs) (sessions bs)) s × (absent_of says bs cs s ≡ x) = from_has-map (absent_of says bs cs) (absent_among (kept_sessions cs) (sessions bs)) x h in
      let f = from_has-filter is_absent (kept_sessions cs) w.0 w.1 in
      λ i. other_is w.0 (sessions bs) f.1 (subst (Has (sessions bs)) (sym (ap (λ (y : Shortfall). y.session) w.2)) i)

  pub absent_back : (k : ℕ) → k < parts → (x : Shortfall) → Has (missing_at k).absent x → (Has (sessions bs) x.session → ⊥) → Has whole.absent x
  absent_back k low x h none =
      let w : (s : Session) × Has (absent_among (kept_sessions (own k)) (own_sessions k)) s × (absent_of says bs (own k) s ≡ x) = from_has-map (absent_of says bs (own k)) (absent_among (kept_sessions (own k)) (own_sessions k)) x h in
      let f = from_has-filter (is_other_at k) (kept_sessions (own k)) w.0 w.1 in
      let nor : Has (sessions bs) w.0 → ⊥ = λ i. none (subst (Has (sessions bs)) (ap (λ (y : Shortfall). y.session) w.2) i) in
      let c = from_kept (own k) w.0 f.0 in
      let there : Has (kept_sessions cs) w.0 = subst (Has (kept_sessions cs)) c.2 (into_kept cs c.0 (given_of_whole k low c.0 c.1)) in
      subst (Has whole.absent) (sym (same_absent k low w.0 c.0 c.1 c.2 nor) ∙ w.2)
      (has-map (absent_of says bs cs) (absent_among (kept_sessions cs) (sessions bs)) w.0 (has-filter is_absent (kept_sessions cs) w.0 there (is_other w.0 (sessions bs) nor)))

  abbrev is_without : Shortfall → Bool
  is_without f = not (list_any (same_session f.session) sessions_there)

  absent_adds_up : whole.absent ≡ (missing_together of_parts).absent
  absent_adds_up =
      in_order_of_ones (on_total (λ (f : Shortfall). f.session) session_cmp_total) whole.absent (filter is_without (flat_map (λ (m : LogShortfalls). m.absent) of_parts))
      (rise_told session_cmp by_session (absent_of says bs cs) (λ s t. refl) (absent_among (kept_sessions cs) (sessions bs)) (IsStrictlySortedBy-filter session_cmp is_absent (kept_sessions cs) (kept_rise cs)))
      (λ x h.
      (let w = absent_there x h in
      has-filter is_without (flat_map (λ (m : LogShortfalls). m.absent) of_parts) x (among (λ (m : LogShortfalls). m.absent) w.0 x w.1 w.2)
      (is_other x.session sessions_there (λ i. none_absent x h (blocked_back x.session i)))))
      (λ x h.
      (let f = from_has-filter is_without (flat_map (λ (m : LogShortfalls). m.absent) of_parts) x h in
      let w = from_among (λ (m : LogShortfalls). m.absent) x f.0 in
      absent_back w.0 w.1 x w.2 (λ i. other_is x.session sessions_there f.1 (blocked_there x.session i))))

  pub adds_up : missing_in says bs cs (sessions bs) ≡ missing_together (map (λ k. missing_in says bs (own k) (sessions (blocks_of part k bs))) (range_with_len 0 parts))
  adds_up = λ i. record { known = known_adds_up i; absent = absent_adds_up i }
