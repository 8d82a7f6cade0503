-- Where the numbers of a session stand among all in their order.
use Rattle.std.proofs.Common.{◌≡◌, ℕ, zero, suc, ◌+◌, ◌<◌, ◌≤◌, Bool, true, false, cond, List, [], ◌∷◌, length, get_or, take, drop, map, filter, refl, sym, ap, ◌∙◌, subst, arith}
use Rattle.std.specs.declared.cmp.Ordering.{Ordering}
use Rattle.std.specs.declared.cmp.Ordering.TheVariants.{Less, Equal, Greater}
use Rattle.std.specs.Ordering.{is_eq, is_gt, is_lt}
use Rattle.std.specs.Cmp.{Equal-is}
use Rattle.std.specs.List.{AllWithin}
use Rattle.std.specs.List.Sorted.{IsStrictlySortedBy, IsPartitionedBy, IsPartitionPoint}
use Rattle.std.proofs.lemmas.Cmp.{tied_itself}
use Rattle.std.proofs.lemmas.List.{get_or-drop, get_or_default, length-drop}
use Rattle.ss_block.specs.declared.session.Session.{Session}
use Rattle.ss_block.specs.Order.{session_cmp}
use Rattle.ss_block.specs.OrderLaws.{session_cmp_total, session_cmp_exact}
use Rattle.ss_review.specs.declared.report.number_entry.NumberEntry.{NumberEntry}
use Rattle.ss_review.specs.announced.Announced.{Key, key_cmp}
use Rattle.ss_review.specs.sessions.Sessions.{same_session}
use Rattle.ss_review.specs.announced.Numbered.{key_of}
use Rattle.ss_review.specs.report.Grouped.{Rise, numbers_of_session}
use Rattle.ss_octets.proofs.Members.{Has, has_from_contains, has-map, all-has}
use Rattle.ss_review.proofs.of_lists.TotalOrders.{less_is, then_first}

-- ---- filters that keep a part

module _ {X : Type 0} (q : X → Bool) where
  pub filter_before : (xs : List X) (i : ℕ) → AllWithin (λ x. q x ≡ false) xs 0 i → filter q xs ≡ filter q (drop i xs)
  filter_before xs zero none = refl
  filter_before [] (suc i) none = refl
  filter_before (x ∷ xs) (suc i) none =
      ap (λ b. cond b (x ∷ filter q xs) (filter q xs)) (none 0 x (omega arith) (omega arith))
      ∙ filter_before xs i (λ k d low high. none (suc k) d (omega arith) (omega arith))

  pub filter_within : (xs : List X) (i : ℕ) → IsPartitionPoint (λ x. q x ≡ true) (λ x. q x ≡ false) xs i → filter q xs ≡ take i xs
  filter_within [] zero point = refl
  filter_within [] (suc i) point = refl
  filter_within (x ∷ xs) zero point =
      ap (λ b. cond b (x ∷ filter q xs) (filter q xs)) (point.1 0 x (omega arith) (omega arith))
      ∙ filter_within xs zero ((λ k d low high. absurd (omega arith)), (λ k d low high. point.1 (suc k) d (omega arith) (omega arith)))
  filter_within (x ∷ xs) (suc i) point =
      ap (λ b. cond b (x ∷ filter q xs) (filter q xs)) (point.0 0 x (omega arith) (omega arith))
      ∙ ap (λ ys. x ∷ ys) (filter_within xs i ((λ k d low high. point.0 (suc k) d (omega arith) (omega arith)), (λ k d low high. point.1 (suc k) d (omega arith) (omega arith))))

-- ---- sessions in their order

abbrev pub session_of : NumberEntry → Session
session_of n = n.number.session.now

abbrev pub numbered_key : NumberEntry → Key
numbered_key n = key_of n.number

rise_at : (ns : List NumberEntry) → Rise ns → (i j : ℕ) (d : NumberEntry) → i ≤ j → j < length ns → is_gt (session_cmp (session_of (get_or ns i d)) (session_of (get_or ns j d))) ≡ false
unfolding IsStrictlySortedBy
rise_at [] up i j d le below = absurd (omega arith)
rise_at (n ∷ ns) up zero zero d le below = ap is_gt (tied_itself session_cmp_total (session_of n))
rise_at (n ∷ ns) up zero (suc j) d le below =
    let m = get_or ns j d in
    let h : Has ns m = has_from_contains ns m (j, omega arith, get_or_default ns j m d (omega arith)) in
    then_first (session_cmp (session_of n) (session_of m)) _ (all-has (λ k. key_cmp (numbered_key n) k ≡ Less) (map numbered_key ns) (numbered_key m) up.0 (has-map numbered_key ns m h))
rise_at (n ∷ ns) up (suc i) zero d le below = absurd (omega arith)
rise_at (n ∷ ns) up (suc i) (suc j) d le below = rise_at ns up.1 i j d (omega arith) (omega arith)

-- what isn't above another session stands before what that one stands before
pub lt_of : (c : Ordering) (a b s : Session) → session_cmp a b ≡ c → is_gt c ≡ false → session_cmp b s ≡ Less → session_cmp a s ≡ Less
lt_of Less a b s e g l = session_cmp_total.trans a b s e l
lt_of Equal a b s e g l = ap (λ t. session_cmp t s) (session_cmp_exact a b e) ∙ l
lt_of Greater a b s e g l = absurd (cc)

pub eq_of : (c : Ordering) → is_lt c ≡ false → is_gt c ≡ false → is_eq c ≡ true
eq_of Less l g = absurd (cc)
eq_of Equal l g = refl
eq_of Greater l g = absurd (cc)

pub apart : (c : Ordering) → is_lt c ≡ true → is_eq c ≡ false
apart Less e = refl
apart Equal e = absurd (cc)
apart Greater e = refl

abbrev pub before : Session → NumberEntry → Bool
before s n = is_lt (session_cmp (session_of n) s)

abbrev pub within : Session → NumberEntry → Bool
within s n = same_session (session_of n) s

-- a test parts a list there
abbrev pub Parts : (NumberEntry → Bool) → List NumberEntry → ℕ → Type 0
Parts p ns i = IsPartitionPoint (λ n. p n ≡ true) (λ n. p n ≡ false) ns i

module _ (s : Session) (ns : List NumberEntry) (up : Rise ns) where
  pub before_parted : IsPartitionedBy (before s) ns
  before_parted i j d le below e =
      let x = session_of (get_or ns i d) in
      let y = session_of (get_or ns j d) in
      ap is_lt (lt_of (session_cmp x y) x y s refl (rise_at ns up i j d le below) (less_is (session_cmp y s) e))

  pub within_parted : (start : ℕ) → Parts (before s) ns start → IsPartitionedBy (within s) (drop start ns)
  within_parted start point i j d le below e =
      let x = session_of (get_or ns (start + i) d) in
      let y = session_of (get_or ns (start + j) d) in
      let inside : start + j < length ns = omega (arith, length-drop start ns) in
      let here : same_session y s ≡ true = ap (within s) (sym (get_or-drop start ns j d)) ∙ e in
      let at : y ≡ s = session_cmp_exact y s ((Equal-is (session_cmp y s)).0 here) in
      let most : is_gt (session_cmp x s) ≡ false = subst (λ t. is_gt (session_cmp x t) ≡ false) at (rise_at ns up (start + i) (start + j) d (omega arith) (omega arith)) in
      ap (within s) (get_or-drop start ns i d) ∙ eq_of (session_cmp x s) (point.1 (start + i) d (omega arith) (omega arith)) most

  pub range_is : (rest : List NumberEntry) (start count : ℕ) → rest ≡ drop start ns
      → Parts (before s) ns start
      → Parts (within s) rest count
      → take count rest ≡ numbers_of_session s ns
  range_is rest start count e first second =
      sym (filter_before (within s) ns start (λ k d low high. apart (session_cmp (session_of (get_or ns k d)) s) (first.0 k d low high))
      ∙ ap (filter (within s)) (sym e)
      ∙ filter_within (within s) rest count second)
