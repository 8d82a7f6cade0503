-- A place is assigned to one key at most.
use Rattle.std.proofs.Common.{◌≡◌, inl, inr, ℕ, ◌<◌, ◌≤◌, Bool, true, false, cond, ◌&&◌, List, [], ◌∷◌, map, filter, refl, sym, ap, ◌∙◌, subst, arith}
use Rattle.std.specs.Prelude.{Option, Some, None, slice_get, count_by}
use Rattle.std.specs.declared.cmp.Ordering.{Ordering}
use Rattle.std.specs.declared.cmp.Ordering.TheVariants.{Less, Equal, Greater}
use Rattle.std.specs.Ordering.{nat_cmp, is_lt}
use Rattle.std.specs.List.Sorted.{IsStrictlySortedBy}
use Rattle.std.proofs.lemmas.Cmp.{nat_cmp_total, tied_itself}
use Rattle.std.proofs.lemmas.Map.Lookups.{exact_unsigned}
use Rattle.std.proofs.lemmas.Bool.{and_from, and_parts}
use Rattle.ss_block.specs.declared.hash.Hash.{Hash}
use Rattle.ss_block.specs.declared.hash.HashPair.{HashPair}
use Rattle.ss_review.specs.declared.keep.message.NormalMessage.{NormalMessage}
use Rattle.ss_review.specs.announced.Announced.{Key, Row, key_cmp, keys, hashes_for}
use Rattle.ss_review.specs.assign.Assigned.{same_pair, is_pair, places_with, wanted_with, wanted, rank, place_of, assigned, pair_of_bearer}
use Rattle.ss_review.proofs.of_numbers.Announcements.{has-keys, from_has-hashes_for}
use Rattle.ss_review.proofs.of_lists.Counting.{count_by-cons, same_pair-is, same_itself}
use Rattle.ss_review.proofs.of_lists.Keyed.{has-slice_get, one_index, one_of_key, keys_rise-filter}
use Rattle.ss_octets.proofs.Members.{Has, from_has-map, from_has-filter}
use Rattle.ss_review.proofs.of_lists.Rising.{reversed}
use Rattle.ss_review.proofs.of_lists.TotalOrders.{key_cmp_total, key_cmp_exact, less_is}

-- ---- counts of a weaker test

one_more : (b c : Bool) → (b ≡ true → c ≡ true) → cond b 1 0 ≤ cond c 1 0
one_more true true f = omega arith
one_more true false f = absurd (let e = f refl in cc)
one_more false true f = omega arith
one_more false false f = omega arith

counts_none : (b : Bool) → b ≡ false → cond b 1 0 ≤ 0
counts_none true e = absurd (cc)
counts_none false e = omega arith

counts_one : (b : Bool) → b ≡ true → 1 ≤ cond b 1 0
counts_one true e = omega arith
counts_one false e = absurd (cc)

module _ {X : Type 0} (f g : X → Bool) (weaker : (x : X) → f x ≡ true → g x ≡ true) where
  pub count_by-weaker : (xs : List X) → count_by f xs ≤ count_by g xs
  count_by-weaker [] = omega arith
  count_by-weaker (x ∷ xs) =
      omega (arith, one_more (f x) (g x) (weaker x), count_by-weaker xs, count_by-cons f x xs, count_by-cons g x xs)

  pub count_by-fewer : (xs : List X) (x : X) → Has xs x → f x ≡ false → g x ≡ true → count_by f xs < count_by g xs
  count_by-fewer [] x h out inside = absurd h
  count_by-fewer (y ∷ ys) x (inl e) out inside =
      omega (arith, counts_none (f y) (ap f e ∙ out), counts_one (g y) (ap g e ∙ inside), count_by-weaker ys, count_by-cons f y ys, count_by-cons g y ys)
  count_by-fewer (y ∷ ys) x (inr h) out inside =
      omega (arith, one_more (f y) (g y) (weaker y), count_by-fewer ys x h out inside, count_by-cons f y ys, count_by-cons g y ys)

-- ---- what a key wants

-- one hash, whose bearer has these hashes
pub only_one : (ms : List NormalMessage) (hs : List Hash) (p : HashPair) → wanted_with ms hs ≡ Some p → (h : Hash) × Has hs h × (hs ≡ h ∷ []) × (pair_of_bearer ms h ≡ Some p)
only_one ms [] p e = absurd (cc)
only_one ms (h ∷ []) p e = (h, inl refl, refl, e)
only_one ms (h ∷ g ∷ hs) p e = absurd (cc)

module _ (ms : List NormalMessage) (rs : List Row) where
  -- a key that wants something is announced
  pub wanted_key : (k : Key) (p : HashPair) → wanted ms rs k ≡ Some p → Has (keys rs) k
  unfolding wanted
  wanted_key k p e =
      let w = only_one ms (hashes_for rs k) p e in
      has-keys rs (record { key = k; hash = w.0 }) (from_has-hashes_for rs k w.0 w.1)

  place_cases : (k : Key) (w : Option HashPair) (place : ℕ) → place_of ms rs k w ≡ Some place → (p : HashPair) × (w ≡ Some p) × (slice_get (places_with ms p) (rank ms rs k p) ≡ Some place)
  place_cases k None place e = absurd (cc)
  place_cases k (Some p) place e = (p, refl, e)

  pub assigned_cases : (k : Key) (place : ℕ) → assigned ms rs k ≡ Some place → (p : HashPair) × (wanted ms rs k ≡ Some p) × (slice_get (places_with ms p) (rank ms rs k p) ≡ Some place)
  unfolding assigned
  assigned_cases k place e = place_cases k (wanted ms rs k) place e

  -- the smaller of two keys that want the same has the smaller rank
  pub rank_below : (k j : Key) (p : HashPair) → key_cmp k j ≡ Less → wanted ms rs k ≡ Some p → rank ms rs k p < rank ms rs j p
  unfolding rank
  rank_below k j p l e =
      count_by-fewer
      (λ i. is_lt (key_cmp i k) && is_pair p (wanted ms rs i))
      (λ i. is_lt (key_cmp i j) && is_pair p (wanted ms rs i))
      (λ i t.
      (let both = and_parts (is_lt (key_cmp i k)) (is_pair p (wanted ms rs i)) t in
      and_from (is_lt (key_cmp i j)) (is_pair p (wanted ms rs i)) (ap is_lt (key_cmp_total.trans i k j (less_is (key_cmp i k) both.0) l)) both.1))
      (keys rs) k (wanted_key k p e)
      (ap (λ c. is_lt c && is_pair p (wanted ms rs k)) (tied_itself key_cmp_total k))
      (and_from (is_lt (key_cmp k j)) (is_pair p (wanted ms rs k)) (ap is_lt l) (ap (is_pair p) e ∙ same_itself p))

  by_order : (c : Ordering) (k j : Key) (p : HashPair) → key_cmp k j ≡ c → wanted ms rs k ≡ Some p → wanted ms rs j ≡ Some p → rank ms rs k p ≡ rank ms rs j p → k ≡ j
  by_order Less k j p o e f same = absurd (omega (arith, same, rank_below k j p o e))
  by_order Equal k j p o e f same = key_cmp_exact k j o
  by_order Greater k j p o e f same = absurd (omega (arith, same, rank_below j k p (reversed key_cmp_total k j o) f))

  -- ---- the message at a place

  -- a place with two hashes is that of a message that has them
  pub from_has-places_with : (p : HashPair) (place : ℕ) → Has (places_with ms p) place → (m : NormalMessage) × Has ms m × (m.pair ≡ p) × (m.place ≡ place)
  unfolding places_with
  from_has-places_with p place h =
      let w = from_has-map (λ (m : NormalMessage). m.place) (filter (λ (m : NormalMessage). same_pair m.pair p) ms) place h in
      let f = from_has-filter (λ (m : NormalMessage). same_pair m.pair p) ms w.0 w.1 in
      (w.0, f.0, same_pair-is w.0.pair p f.1, w.2)

  pub places_with-rise : (p : HashPair) → IsStrictlySortedBy nat_cmp (map (λ (m : NormalMessage). m.place) ms) → IsStrictlySortedBy nat_cmp (places_with ms p)
  unfolding places_with
  places_with-rise p up = keys_rise-filter (λ (m : NormalMessage). m.place) nat_cmp (λ (m : NormalMessage). same_pair m.pair p) ms up

  pub one_key : IsStrictlySortedBy nat_cmp (map (λ (m : NormalMessage). m.place) ms) → (k j : Key) (place : ℕ) → assigned ms rs k ≡ Some place → assigned ms rs j ≡ Some place → k ≡ j
  one_key up k j place e f =
      let a = assigned_cases k place e in
      let b = assigned_cases j place f in
      let m = from_has-places_with a.0 place (has-slice_get (places_with ms a.0) (rank ms rs k a.0) place a.2) in
      let n = from_has-places_with b.0 place (has-slice_get (places_with ms b.0) (rank ms rs j b.0) place b.2) in
      let one : m.0 ≡ n.0 = one_of_key nat_cmp_total exact_unsigned (λ (x : NormalMessage). x.place) ms up m.0 n.0 m.1 n.1 (m.3 ∙ sym n.3) in
      let pairs : b.0 ≡ a.0 = sym n.2 ∙ ap (λ (x : NormalMessage). x.pair) (sym one) ∙ m.2 in
      let other : wanted ms rs j ≡ Some a.0 = b.1 ∙ ap (λ (q : HashPair). Some q) pairs in
      let there : slice_get (places_with ms a.0) (rank ms rs j a.0) ≡ Some place = subst (λ q. slice_get (places_with ms q) (rank ms rs j q) ≡ Some place) pairs b.2 in
      let same : rank ms rs k a.0 ≡ rank ms rs j a.0 = one_index nat_cmp_total exact_unsigned (places_with ms a.0) (places_with-rise a.0 up) (rank ms rs k a.0) (rank ms rs j a.0) place a.2 there in
      by_order (key_cmp k j) k j a.0 refl a.1 other same
