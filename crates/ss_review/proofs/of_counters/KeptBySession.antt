-- Counters that stand by session, and those of one session among them.
use Rattle.std.proofs.Common.{◌≡◌, ℕ, ◌+◌, ◌<◌, ◌≤◌, Bool, true, false, cond, not, ◌&&◌, List, [], ◌∷◌, length, get_or, take, drop, map, filter, Bor, refl, sym, ap, ◌∙◌, subst, length-drop, arith}
use Rattle.std.specs.Ordering.{is_gt, is_lt}
use Rattle.std.specs.Cmp.{Equal-is}
use Rattle.std.specs.List.Sorted.{IsStableBy, IsPartitionedBy, IsPartitionPoint, ties}
use Rattle.std.proofs.lemmas.List.{get_or-drop}
use Rattle.std.proofs.lemmas.List.Sorted.{sorted_far, ranks_by}
use Rattle.ss_block.specs.declared.session.Session.{Session}
use Rattle.ss_block.specs.Order.{session_cmp}
use Rattle.ss_block.specs.OrderLaws.{session_cmp_total, session_cmp_exact}
use Rattle.ss_review.specs.declared.counted.counter.Counter.{Counter}
use Rattle.ss_review.specs.declared.counted.counter.Counts.TheVariants as counts
use Rattle.ss_review.specs.sessions.Sessions.{same_session}
use Rattle.ss_review.specs.counted.Kept.{counters_of}
use Rattle.ss_review.specs.counted.KeptSoFar.{led_to, StandBySession}
use Rattle.ss_review.proofs.of_sessions.BySession.{not_gt, ties_at}
use Rattle.ss_review.proofs.of_numbers.SessionRange.{filter_before, filter_within, lt_of, eq_of, apart}
use Rattle.ss_review.proofs.of_lists.TotalOrders.{less_is}

-- ---- a filter behind a map

mapped_at : {X Y : Type 0} (f : X → Y) (b : Bool) (x : X) (xs : List X) → cond b (f x ∷ map f xs) (map f xs) ≡ map f (cond b (x ∷ xs) xs)
mapped_at f true x xs = refl
mapped_at f false x xs = refl

pub filter-map : {X Y : Type 0} (f : X → Y) (p : Y → Bool) (q : X → Bool) → ((x : X) → q x ≡ p (f x)) → (xs : List X) → filter p (map f xs) ≡ map f (filter q xs)
filter-map f p q e [] = refl
filter-map f p q e (x ∷ xs) =
    ap (λ ys. cond (p (f x)) (f x ∷ ys) ys) (filter-map f p q e xs)
    ∙ mapped_at f (p (f x)) x (filter q xs)
    ∙ ap (λ b. map f (cond b (x ∷ filter q xs) (filter q xs))) (sym (e x))

-- ---- a stable sort keeps the counters of each session

abbrev pub below : Bor Counter → Bor Counter → Bool
below x y = is_lt (session_cmp x.now.session y.now.session)

ties_is : (x y : Bor Counter) → ties below x y ≡ same_session y.now.session x.now.session
ties_is x y =
    ap (λ c. not (is_lt c) && not (is_lt (session_cmp y.now.session x.now.session))) (session_cmp_total.antisymm x.now.session y.now.session)
    ∙ ties_at (session_cmp y.now.session x.now.session)

abbrev to : Bor Counter → Counter
to c = c.now

of_ties : (z : Bor Counter) (xs : List (Bor Counter)) → counters_of (led_to xs) z.now.session ≡ led_to (filter (ties below z) xs)
of_ties z xs = filter-map to (λ c. same_session c.session z.now.session) (ties below z) (ties_is z) xs

pub counters_stay : (xs ys : List (Bor Counter)) → IsStableBy below xs ys → (s : Session) → counters_of (led_to ys) s ≡ counters_of (led_to xs) s
counters_stay xs ys stable s =
    let own : Counter = record { session = s; counts = counts.Blocks; next = 0 } in
    let z : Bor Counter = record { ref_ptr = (0, 0); now = own } in
    of_ties z ys ∙ ap led_to (stable z) ∙ sym (of_ties z xs)

-- ---- those of one session among counters that stand by session

rise_at : (xs : List (Bor Counter)) → StandBySession xs → (i j : ℕ) (d : Bor Counter) → i ≤ j → j < length xs → is_gt (session_cmp (get_or xs i d).now.session (get_or xs j d).now.session) ≡ false
rise_at xs up i j d le within =
    let a = (get_or xs i d).now.session in
    let b = (get_or xs j d).now.session in
    not_gt (session_cmp a b)
    (ap is_lt (sym (session_cmp_total.antisymm b a))
    ∙ sorted_far below (ranks_by session_cmp_total (λ (c : Bor Counter). c.now.session)) xs up i j d le within)

abbrev pub before : Session → Bor Counter → Bool
before s c = is_lt (session_cmp c.now.session s)

abbrev pub within : Session → Bor Counter → Bool
within s c = same_session c.now.session s

-- a test parts a list there
abbrev pub Parts : (Bor Counter → Bool) → List (Bor Counter) → ℕ → Type 0
Parts p xs i = IsPartitionPoint (λ x. p x ≡ true) (λ x. p x ≡ false) xs i

module _ (s : Session) (xs : List (Bor Counter)) (up : StandBySession xs) where
  pub before_parted : IsPartitionedBy (before s) xs
  before_parted i j d le below e =
      let x = (get_or xs i d).now.session in
      let y = (get_or xs j d).now.session in
      ap is_lt (lt_of (session_cmp x y) x y s refl (rise_at xs up i j d le below) (less_is (session_cmp y s) e))

  pub within_parted : (start : ℕ) → Parts (before s) xs start → IsPartitionedBy (within s) (drop start xs)
  within_parted start point i j d le below e =
      let x = (get_or xs (start + i) d).now.session in
      let y = (get_or xs (start + j) d).now.session in
      let inside : start + j < length xs = omega (arith, length-drop start xs) in
      let here : same_session y s ≡ true = ap (within s) (sym (get_or-drop start xs j d)) ∙ e in
      let at : y ≡ s = session_cmp_exact y s ((Equal-is (session_cmp y s)).0 here) in
      let most : is_gt (session_cmp x s) ≡ false = subst (λ t. is_gt (session_cmp x t) ≡ false) at (rise_at xs up (start + i) (start + j) d (omega arith) (omega arith)) in
      ap (within s) (get_or-drop start xs i d) ∙ eq_of (session_cmp x s) (point.1 (start + i) d (omega arith) (omega arith)) most

  pub range_is : (rest : List (Bor Counter)) (start count : ℕ) → rest ≡ drop start xs
      → Parts (before s) xs start
      → Parts (within s) rest count
      → led_to (take count rest) ≡ counters_of (led_to xs) s
  range_is rest start count e first second =
      ap led_to
      (sym (filter_before (within s) xs start (λ k d low high. apart (session_cmp (get_or xs k d).now.session s) (first.0 k d low high))
      ∙ ap (filter (within s)) (sym e)
      ∙ filter_within (within s) rest count second))
      ∙ sym (filter-map to (λ c. same_session c.session s) (within s) (λ c. refl) xs)
