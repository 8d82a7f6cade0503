-- Counts over a list: of one more element, of those below a key in a list that rises, and of wanted pairs.
use Rattle.std.proofs.Common.{◌≡◌, ℕ, ◌+◌, ◌<◌, inl, length, get_or, take, drop, Bool, true, false, cond, ◌&&◌, List, [], ◌∷◌, ◌++◌, map, refl, sym, ap, ◌∙◌, subst, arith}
use Rattle.std.specs.Prelude.{Option, Some, None, count_by, slice_get}
use Rattle.std.specs.Str.{bytes_eq}
use Rattle.std.specs.declared.cmp.Ordering.{Ordering}
use Rattle.std.specs.declared.cmp.Ordering.TheVariants.{Less}
use Rattle.std.specs.Ordering.{nat_cmp, is_lt, is_eq, ordering_reverse}
use Rattle.std.specs.Cmp.Lexicographic.{slice_cmp}
use Rattle.std.specs.Cmp.{IsTotalOrder, Equal-is, tied_then}
use Rattle.std.specs.List.{AllByRecursion}
use Rattle.std.specs.List.Sorted.{IsStrictlySortedBy}
use Rattle.std.proofs.lemmas.Cmp.{tied_itself}
use Rattle.std.proofs.lemmas.List.{map-append, append_assoc, at_drop_more, map_more}
use Rattle.std.proofs.lemmas.List.Sums.{sum_by-append}
use Rattle.std.proofs.lemmas.Map.Text.{is_eq-slice_cmp}
use Rattle.ss_block.specs.declared.hash.Hash.{Hash}
use Rattle.ss_block.specs.declared.hash.HashPair.{HashPair}
use Rattle.ss_review.specs.declared.keep.message.NormalMessage.{NormalMessage}
use Rattle.ss_block.specs.Order.{pair_cmp}
use Rattle.ss_review.specs.announced.Announced.{Key, Row, key_cmp, keys}
use Rattle.ss_review.specs.assign.Assigned.{same_pair, is_pair, places_with, wanted, rank, place_of, assigned}
use Rattle.ss_review.specs.assign.Assigning.{pair_wanted, pairs_wanted, place_after, assigned_after, assigned_all}
use Rattle.ss_review.proofs.of_numbers.Announcements.{keys-rise}
use Rattle.ss_octets.proofs.Members.{has-append_right, all-has}
use Rattle.ss_block.specs.OrderLaws.{pair_cmp_exact, pair_cmp_total}
use Rattle.ss_review.proofs.of_lists.TotalOrders.{key_cmp_total}

-- ---- one more

pub count_by-push : {X : Type 0} (f : X → Bool) (xs : List X) (x : X) → count_by f (xs ++ x ∷ []) ≡ count_by f xs + cond (f x) 1 0
count_by-push f xs x = omega (arith, sum_by-append (λ y. cond (f y) 1 0) xs (x ∷ []))

pub count_by-cons : {X : Type 0} (f : X → Bool) (x : X) (xs : List X) → count_by f (x ∷ xs) ≡ cond (f x) 1 0 + count_by f xs
count_by-cons f x xs = omega (arith, sum_by-append (λ y. cond (f y) 1 0) (x ∷ []) xs)

pub count_by-map : {X Y : Type 0} (f : Y → Bool) (g : X → Y) (xs : List X) → count_by f (map g xs) ≡ count_by (λ x. f (g x)) xs
count_by-map f g [] = refl
count_by-map f g (x ∷ xs) =
    count_by-cons f (g x) (map g xs)
    ∙ ap (λ n. cond (f (g x)) 1 0 + n) (count_by-map f g xs)
    ∙ sym (count_by-cons (λ y. f (g y)) x xs)

-- ---- those below a key

module _ {K : Type 0} {R : K → K → Ordering} (o : IsTotalOrder R) where
  not_below : (k : K) → is_lt (R k k) ≡ false
  not_below k = ap is_lt (tied_itself o k)

  above : (j k : K) → R k j ≡ Less → is_lt (R j k) ≡ false
  above j k e = ap is_lt (o.antisymm j k ∙ ap ordering_reverse e)

  none_above : (k : K) (q : K → Bool) (ks : List K) → AllByRecursion (λ j. R k j ≡ Less) ks → count_by (λ j. is_lt (R j k) && q j) ks ≡ 0
  none_above k q [] a = refl
  none_above k q (j ∷ ks) a =
      count_by-cons (λ i. is_lt (R i k) && q i) j ks
      ∙ ap (λ b. cond (b && q j) 1 0 + count_by (λ i. is_lt (R i k) && q i) ks) (above j k a.0)
      ∙ (let none : count_by (λ i. is_lt (R i k) && q i) ks ≡ 0 = none_above k q ks a.1 in omega (arith, none))

  -- of a list that rises, those that are smaller than one of its keys are those before it
  pub count_below : (front : List K) (k : K) (back : List K) (q : K → Bool) → IsStrictlySortedBy R (front ++ k ∷ back) → count_by (λ j. is_lt (R j k) && q j) (front ++ k ∷ back) ≡ count_by q front
  unfolding IsStrictlySortedBy
  count_below [] k back q up =
      count_by-cons (λ i. is_lt (R i k) && q i) k back
      ∙ ap (λ b. cond (b && q k) 1 0 + count_by (λ i. is_lt (R i k) && q i) back) (not_below k)
      ∙ (let none : count_by (λ i. is_lt (R i k) && q i) back ≡ 0 = none_above k q back up.0 in omega (arith, none))
  count_below (x ∷ front) k back q up =
      let less : R x k ≡ Less = all-has (λ y. R x y ≡ Less) (front ++ k ∷ back) k up.0 (has-append_right front (k ∷ back) k (inl refl)) in
      count_by-cons (λ i. is_lt (R i k) && q i) x (front ++ k ∷ back)
      ∙ ap (λ c. cond (is_lt c && q x) 1 0 + count_by (λ i. is_lt (R i k) && q i) (front ++ k ∷ back)) less
      ∙ ap (λ n. cond (q x) 1 0 + n) (count_below front k back q up.1)
      ∙ sym (count_by-cons q x front)

-- ---- pairs that were wanted

pub is_eq-pair_cmp : (p q : HashPair) → is_eq (pair_cmp p q) ≡ same_pair p q
is_eq-pair_cmp p q =
    sym (tied_then (slice_cmp nat_cmp p.sha1 q.sha1) (slice_cmp nat_cmp p.sha256 q.sha256))
    ∙ ap (λ b. b && is_eq (slice_cmp nat_cmp p.sha256 q.sha256)) (is_eq-slice_cmp p.sha1 q.sha1)
    ∙ ap (λ b. bytes_eq p.sha1 q.sha1 && b) (is_eq-slice_cmp p.sha256 q.sha256)

pub same_itself : (p : HashPair) → same_pair p p ≡ true
same_itself p = sym (is_eq-pair_cmp p p) ∙ ap is_eq (tied_itself pair_cmp_total p)

pub same_pair-is : (p q : HashPair) → same_pair p q ≡ true → p ≡ q
same_pair-is p q e = pair_cmp_exact p q ((Equal-is (pair_cmp p q)).0 (is_eq-pair_cmp p q ∙ e))

-- ---- all keys at once

module _ (ms : List NormalMessage) (rs : List Row) where
  place_is : (front : List Key) (k : Key) (back : List Key) → IsStrictlySortedBy key_cmp (keys rs) → keys rs ≡ front ++ k ∷ back → (w : Option HashPair) → place_after ms (map (wanted ms rs) front) w ≡ place_of ms rs k w
  unfolding rank
  place_is front k back up e None = refl
  place_is front k back up e (Some p) =
      let counts : count_by (λ j. is_lt (key_cmp j k) && is_pair p (wanted ms rs j)) (front ++ k ∷ back) ≡ count_by (λ j. is_pair p (wanted ms rs j)) front
      = count_below key_cmp_total front k back (λ j. is_pair p (wanted ms rs j)) (subst (IsStrictlySortedBy key_cmp) e up) in
      ap (slice_get (places_with ms p))
      (count_by-map (is_pair p) (wanted ms rs) front ∙ sym counts ∙ ap (count_by (λ j. is_lt (key_cmp j k) && is_pair p (wanted ms rs j))) (sym e))

  pub assigned_in_turn : (front back : List Key) → IsStrictlySortedBy key_cmp (keys rs) → keys rs ≡ front ++ back → assigned_after ms (map (wanted ms rs) front) (map (wanted ms rs) back) ≡ map (assigned ms rs) back
  unfolding assigned
  assigned_in_turn front [] up e = refl
  assigned_in_turn front (k ∷ back) up e =
      let here : place_after ms (map (wanted ms rs) front) (wanted ms rs k) ≡ place_of ms rs k (wanted ms rs k) = place_is front k back up e (wanted ms rs k) in
      let next : assigned_after ms (map (wanted ms rs) (front ++ k ∷ [])) (map (wanted ms rs) back) ≡ map (assigned ms rs) back
      = assigned_in_turn (front ++ k ∷ []) back up (e ∙ sym (append_assoc front (k ∷ []) back)) in
      let before : map (wanted ms rs) front ++ wanted ms rs k ∷ [] ≡ map (wanted ms rs) (front ++ k ∷ []) = sym (map-append (wanted ms rs) front (k ∷ [])) in
      λ i. here i ∷ (ap (λ b. assigned_after ms b (map (wanted ms rs) back)) before ∙ next) i

-- the places of all keys are those that they are assigned, where each comes with the two hashes that it wants
pub all_assigned : (ms : List NormalMessage) (rs : List Row) (hs : List (Option Hash)) → pairs_wanted ms hs ≡ map (wanted ms rs) (keys rs) → assigned_all ms hs ≡ map (assigned ms rs) (keys rs)
unfolding assigned_all
all_assigned ms rs hs e = ap (assigned_after ms []) e ∙ assigned_in_turn ms rs [] (keys rs) (keys-rise rs) refl

-- ---- a list of hashes from the front on

pub assigned_at : (ms : List NormalMessage) (hs : List (Option Hash)) (i : ℕ) (d : Option Hash) → i < length hs
    → assigned_after ms (pairs_wanted ms (take i hs)) (pairs_wanted ms (drop i hs)) ≡ place_after ms (pairs_wanted ms (take i hs)) (pair_wanted ms (get_or hs i d)) ∷ assigned_after ms (pairs_wanted ms (take (i + 1) hs)) (pairs_wanted ms (drop (i + 1) hs))
assigned_at ms hs i d below =
    at_drop_more (λ gs. assigned_after ms (pairs_wanted ms (take i hs)) (pairs_wanted ms gs)) hs i d below
    ∙ ap (λ b. place_after ms (pairs_wanted ms (take i hs)) (pair_wanted ms (get_or hs i d)) ∷ assigned_after ms b (pairs_wanted ms (drop (i + 1) hs))) (sym (map_more (pair_wanted ms) hs i d below))
