-- The hashes of stored messages in order: those with the same hashes stand side by side, by rising place.
use Rattle.std.proofs.Common.{◌≡◌, ◌≢◌, inl, inr, ℕ, zero, suc, ◌+◌, ◌<◌, ◌≤◌, Bool, true, false, cond, List, [], ◌∷◌, map, filter, refl, sym, ap, ◌∙◌, subst, arith}
use Rattle.std.specs.Prelude.{Option, Some, None, find, slice_get, Contains}
use Rattle.std.specs.declared.cmp.Ordering.{Ordering}
use Rattle.std.specs.declared.cmp.Ordering.TheVariants.{Less, Equal, Greater}
use Rattle.std.specs.Ordering.{nat_cmp, ordering_then, ordering_reverse, is_eq}
use Rattle.std.specs.Cmp.{IsTotalOrder, Equal-is}
use Rattle.std.specs.List.{AllByRecursion}
use Rattle.std.specs.List.Sorted.{IsStrictlySortedBy}
use Rattle.std.proofs.lemmas.Cmp.{then_total, on_total, nat_cmp_total, tied_itself}
use Rattle.std.proofs.lemmas.Slice.Eq.{bytes_eq-Decides}
use Rattle.ss_block.specs.declared.hash.Alg.{Alg}
use Rattle.ss_block.specs.declared.hash.Alg.TheVariants as algs
use Rattle.ss_block.specs.declared.hash.Hash.{Hash}
use Rattle.ss_block.specs.declared.hash.Hash.TheVariants as hashes
use Rattle.ss_block.specs.declared.hash.HashPair.{HashPair}
use Rattle.ss_block.specs.Order.{hash_cmp}
use Rattle.ss_block.specs.OrderLaws.{hash_cmp_total, hash_cmp_exact}
use Rattle.ss_review.specs.declared.keep.message.NormalMessage.{NormalMessage}
use Rattle.ss_review.specs.declared.assign.stored_hash.StoredHash.{StoredHash}
use Rattle.ss_review.specs.assign.Assigned.{has_hash, same_pair, places_with}
use Rattle.ss_review.specs.assign.StoredHashes.{stored_hash, alg_of, stored_cmp, hashes_cmp, same_hashes, place_beside, Lists, IsBearerAt}
use Rattle.ss_review.proofs.of_lists.Counting.{same_itself, same_pair-is}
use Rattle.ss_review.proofs.of_lists.Finding.{finds, finds_none}
use Rattle.ss_review.proofs.of_lists.Keyed.{less, from_less, has-slice_get, keys_rise-filter}
use Rattle.ss_review.proofs.of_lists.Rising.{all_below, same_members}
use Rattle.ss_review.proofs.of_lists.TotalOrders.{both_tie}
use Rattle.ss_octets.proofs.Members.{Has, has_from_contains, contains_from_has, has-map, from_has-map, has-filter, from_has-filter, all-has}

-- ---- the orders

pub hashes_cmp_total : IsTotalOrder hashes_cmp
hashes_cmp_total = then_total (on_total (λ (s : StoredHash). s.hash) hash_cmp_total) (on_total (λ (s : StoredHash). s.other) hash_cmp_total)

pub stored_cmp_total : IsTotalOrder stored_cmp
stored_cmp_total =
    then_total (on_total (λ (s : StoredHash). s.hash) hash_cmp_total)
    (then_total (on_total (λ (s : StoredHash). s.other) hash_cmp_total) (on_total (λ (s : StoredHash). s.place) nat_cmp_total))

then_assoc : (x y z : Ordering) → ordering_then x (ordering_then y z) ≡ ordering_then (ordering_then x y) z
then_assoc Less y z = refl
then_assoc Equal y z = refl
then_assoc Greater y z = refl

by_hashes : (f g : StoredHash) → stored_cmp f g ≡ ordering_then (hashes_cmp f g) (nat_cmp f.place g.place)
by_hashes f g = then_assoc (hash_cmp f.hash g.hash) (hash_cmp f.other g.other) (nat_cmp f.place g.place)

-- ---- those with the hashes of one

module _ (e : StoredHash) where
  abbrev pub same : StoredHash → Bool
  same f = same_hashes f e

  not_same : (f : StoredHash) → hashes_cmp e f ≡ Less → same f ≡ false
  not_same f l = ap is_eq (hashes_cmp_total.antisymm f e ∙ ap ordering_reverse l)

  -- what stands behind one with greater hashes has greater ones too
  apart_at : (g f : StoredHash) (c : Ordering) → hashes_cmp g f ≡ c → hashes_cmp e g ≡ Less → ordering_then c (nat_cmp g.place f.place) ≡ Less → hashes_cmp e f ≡ Less
  apart_at g f Less t l r = hashes_cmp_total.trans e g f l t
  apart_at g f Equal t l r =
      hashes_cmp_total.antisymm e f
      ∙ ap ordering_reverse (sym (hashes_cmp_total.congr g f e t))
      ∙ sym (hashes_cmp_total.antisymm e g)
      ∙ l
  apart_at g f Greater t l r = absurd (cc)

  apart : (g f : StoredHash) → hashes_cmp e g ≡ Less → stored_cmp g f ≡ Less → hashes_cmp e f ≡ Less
  apart g f l r = apart_at g f (hashes_cmp g f) refl l (sym (by_hashes g f) ∙ r)

  none_same : (fs : List StoredHash) → AllByRecursion (λ f. hashes_cmp e f ≡ Less) fs → filter same fs ≡ []
  none_same [] a = refl
  none_same (f ∷ fs) a = ap (λ b. cond b (f ∷ filter same fs) (filter same fs)) (not_same f a.0) ∙ none_same fs a.1

  none_beside : (fs : List StoredHash) → AllByRecursion (λ f. hashes_cmp e f ≡ Less) fs → (k : ℕ) → place_beside e (slice_get fs k) ≡ None
  none_beside [] a k = refl
  none_beside (f ∷ fs) a zero = ap (λ b. cond b (Some f.place) None) (not_same f a.0)
  none_beside (f ∷ fs) a (suc k) = none_beside fs a.1 k

  run : (fs : List StoredHash) → IsStrictlySortedBy stored_cmp fs → AllByRecursion (λ f. hashes_cmp e f ≢ Greater) fs
      → (k : ℕ) → place_beside e (slice_get fs k) ≡ slice_get (map (λ (f : StoredHash). f.place) (filter same fs)) k
  unfolding IsStrictlySortedBy
  run [] up a k = refl
  run (g ∷ fs) up a k = by (hashes_cmp e g) refl k (run fs up.1 a.1)
    where
      yes : hashes_cmp e g ≡ Equal → same g ≡ true
      yes t = ap is_eq (hashes_cmp_total.antisymm g e ∙ ap ordering_reverse t)

      behind : hashes_cmp e g ≡ Less → AllByRecursion (λ f. hashes_cmp e f ≡ Less) (g ∷ fs)
      behind t = (t, all_below (λ f. hashes_cmp e f ≡ Less) fs (λ f h. apart g f t (all-has (λ f. stored_cmp g f ≡ Less) fs f up.0 h)))

      by : (c : Ordering) → hashes_cmp e g ≡ c → (j : ℕ)
          → ((i : ℕ) → place_beside e (slice_get fs i) ≡ slice_get (map (λ (f : StoredHash). f.place) (filter same fs)) i)
          → place_beside e (slice_get (g ∷ fs) j) ≡ slice_get (map (λ (f : StoredHash). f.place) (filter same (g ∷ fs))) j
      by Less t j rest =
          none_beside (g ∷ fs) (behind t) j
          ∙ sym (ap (λ (ks : List StoredHash). slice_get (map (λ (f : StoredHash). f.place) ks) j) (none_same (g ∷ fs) (behind t)))
      by Equal t zero rest =
          ap (λ b. cond b (Some g.place) None) (yes t)
          ∙ sym (ap (λ b. slice_get (map (λ (f : StoredHash). f.place) (cond b (g ∷ filter same fs) (filter same fs))) 0) (yes t))
      by Equal t (suc j) rest =
          rest j
          ∙ sym (ap (λ b. slice_get (map (λ (f : StoredHash). f.place) (cond b (g ∷ filter same fs) (filter same fs))) (suc j)) (yes t))
      by Greater t j rest = absurd (a.0 t)

  -- of two with the same hashes the smaller one stands at the smaller place
  nearer_at : (g f : StoredHash) (c : Ordering) → hashes_cmp g f ≡ c → is_eq c ≡ true → ordering_then c (nat_cmp g.place f.place) ≡ Less → g.place < f.place
  nearer_at g f Less t s r = absurd (cc)
  nearer_at g f Equal t s r = from_less g.place f.place r
  nearer_at g f Greater t s r = absurd (cc)

  nearer : (g f : StoredHash) → same_hashes g f ≡ true → stored_cmp g f ≡ Less → g.place < f.place
  nearer g f s r = nearer_at g f (hashes_cmp g f) refl s (sym (by_hashes g f) ∙ r)

  not_above_itself : (fs : List StoredHash) → AllByRecursion (λ f. stored_cmp e f ≡ Less) fs → AllByRecursion (λ f. hashes_cmp e f ≢ Greater) fs
  not_above_itself fs a = all_below (λ f. hashes_cmp e f ≢ Greater) fs (λ f h t.
      (let r : ordering_then (hashes_cmp e f) (nat_cmp e.place f.place) ≡ Less = sym (by_hashes e f) ∙ all-has (λ f. stored_cmp e f ≡ Less) fs f a h in
      let no : Greater ≡ Less = sym (ap (λ c. ordering_then c (nat_cmp e.place f.place)) t) ∙ r in cc))

  tied : hashes_cmp e e ≢ Greater
  tied t = let u : hashes_cmp e e ≡ Equal = tied_itself hashes_cmp_total e in cc

  -- from where the first of them stands, they follow one another
  pub run_from : (fs : List StoredHash) (i : ℕ) → IsStrictlySortedBy stored_cmp fs → slice_get fs i ≡ Some e
      → ((f : StoredHash) → Has fs f → same f ≡ true → e.place ≤ f.place)
      → (k : ℕ) → place_beside e (slice_get fs (i + k)) ≡ slice_get (map (λ (f : StoredHash). f.place) (filter same fs)) k
  unfolding IsStrictlySortedBy
  run_from [] i up at least k = absurd (cc)
  run_from (g ∷ fs) zero up at least k =
      let is : g ≡ e = cc in
      let first : hashes_cmp e g ≢ Greater = subst (λ f. hashes_cmp e f ≢ Greater) (sym is) tied in
      ap (λ n. place_beside e (slice_get (g ∷ fs) n)) (let z : 0 + k ≡ k = omega arith in z)
      ∙ run (g ∷ fs) up (first, not_above_itself fs (subst (λ f. AllByRecursion (λ k. stored_cmp f k ≡ Less) fs) is up.0)) k
  run_from (g ∷ fs) (suc i) up at least k =
      let before : stored_cmp g e ≡ Less = all-has (λ f. stored_cmp g f ≡ Less) fs e up.0 (has-slice_get fs i e at) in
      ap (λ n. place_beside e (slice_get (g ∷ fs) n)) (let z : suc i + k ≡ suc (i + k) = omega arith in z)
      ∙ run_from fs i up.1 at (λ f h. least f (inr h)) k
      ∙ sym (ap (λ b. slice_get (map (λ (f : StoredHash). f.place) (cond b (g ∷ filter same fs) (filter same fs))) k) (other (same g) refl before))
    where
      other : (b : Bool) → same g ≡ b → stored_cmp g e ≡ Less → same g ≡ false
      other true t r = absurd (omega (arith, nearer g e t r, least g (inl refl) t))
      other false t r = t

  -- their places rise
  pub places_rise : (fs : List StoredHash) → IsStrictlySortedBy stored_cmp fs → IsStrictlySortedBy nat_cmp (map (λ (f : StoredHash). f.place) (filter same fs))
  unfolding IsStrictlySortedBy
  places_rise [] up = tt
  places_rise (g ∷ fs) up = by (same g) refl (places_rise fs up.1)
    where
      alike : (f : StoredHash) → same g ≡ true → same f ≡ true → same_hashes g f ≡ true
      alike f s t =
          ap is_eq (hashes_cmp_total.congr g e f ((Equal-is (hashes_cmp g e)).0 s) ∙ hashes_cmp_total.antisymm e f ∙ ap ordering_reverse ((Equal-is (hashes_cmp f e)).0 t))

      by : (b : Bool) → same g ≡ b → IsStrictlySortedBy nat_cmp (map (λ (f : StoredHash). f.place) (filter same fs)) → IsStrictlySortedBy nat_cmp (map (λ (f : StoredHash). f.place) (cond b (g ∷ filter same fs) (filter same fs)))
      by true s rest = (
        all_below (λ p. nat_cmp g.place p ≡ Less) (map (λ (f : StoredHash). f.place) (filter same fs)) (λ p h.
            (let w = from_has-map (λ (f : StoredHash). f.place) (filter same fs) p h in
            let v = from_has-filter same fs w.0 w.1 in
            subst (λ q. nat_cmp g.place q ≡ Less) w.2 (less g.place w.0.place (nearer g w.0 (alike w.0 s v.1) (all-has (λ f. stored_cmp g f ≡ Less) fs w.0 up.0 v.0))))),
        rest,
      )
      by false s rest = rest

-- ---- the messages behind them

hash_told : (h : Hash) (m : NormalMessage) → has_hash h m.pair ≡ true → (stored_hash (alg_of h) m).hash ≡ h
hash_told (hashes.Sha1 octets) m t = ap hashes.Sha1 ((bytes_eq-Decides m.pair.sha1 octets).0 t)
hash_told (hashes.Sha256 octets) m t = ap hashes.Sha256 ((bytes_eq-Decides m.pair.sha256 octets).0 t)

has_its : (alg : Alg) (m : NormalMessage) → has_hash (stored_hash alg m).hash m.pair ≡ true
has_its algs.Sha1 m = (bytes_eq-Decides m.pair.sha1 m.pair.sha1).1 refl
has_its algs.Sha256 m = (bytes_eq-Decides m.pair.sha256 m.pair.sha256).1 refl

place_told : (alg : Alg) (m : NormalMessage) → (stored_hash alg m).place ≡ m.place
place_told algs.Sha1 m = refl
place_told algs.Sha256 m = refl

alg_told : (alg : Alg) (m : NormalMessage) → alg_of (stored_hash alg m).hash ≡ alg
alg_told algs.Sha1 m = refl
alg_told algs.Sha256 m = refl

pair_told : (a b : Alg) (m n : NormalMessage) → (stored_hash a m).hash ≡ (stored_hash b n).hash → (stored_hash a m).other ≡ (stored_hash b n).other → m.pair ≡ n.pair
pair_told algs.Sha1 algs.Sha1 m n e f =
    let s : m.pair.sha1 ≡ n.pair.sha1 = cc in
    let t : m.pair.sha256 ≡ n.pair.sha256 = cc in
    λ i. record { sha1 = s i; sha256 = t i }
pair_told algs.Sha1 algs.Sha256 m n e f = absurd (cc)
pair_told algs.Sha256 algs.Sha1 m n e f = absurd (cc)
pair_told algs.Sha256 algs.Sha256 m n e f =
    let s : m.pair.sha1 ≡ n.pair.sha1 = cc in
    let t : m.pair.sha256 ≡ n.pair.sha256 = cc in
    λ i. record { sha1 = s i; sha256 = t i }

pub beside_itself : (e : StoredHash) → Some e.place ≡ place_beside e (Some e)
beside_itself e = ap (λ b. cond b (Some e.place) None) (sym (ap is_eq (tied_itself hashes_cmp_total e)))

same_of : (a : Alg) (m n : NormalMessage) → m.pair ≡ n.pair → same_hashes (stored_hash a m) (stored_hash a n) ≡ true
same_of algs.Sha1 m n p =
    ap is_eq
    (ap (λ (q : HashPair). ordering_then (hash_cmp (hashes.Sha1 q.sha1) (hashes.Sha1 n.pair.sha1)) (hash_cmp (hashes.Sha256 q.sha256) (hashes.Sha256 n.pair.sha256))) p
    ∙ tied_itself hashes_cmp_total (stored_hash algs.Sha1 n))
same_of algs.Sha256 m n p =
    ap is_eq
    (ap (λ (q : HashPair). ordering_then (hash_cmp (hashes.Sha256 q.sha256) (hashes.Sha256 n.pair.sha256)) (hash_cmp (hashes.Sha1 q.sha1) (hashes.Sha1 n.pair.sha1))) p
    ∙ tied_itself hashes_cmp_total (stored_hash algs.Sha256 n))

abbrev pub PlacesRise : List NormalMessage → Type 0
PlacesRise ms = IsStrictlySortedBy nat_cmp (map (λ (m : NormalMessage). m.place) ms)

module _ (list : List StoredHash) (ms : List NormalMessage) (announced : List (Option Hash)) (l : Lists list ms announced) (up : PlacesRise ms) (h : Hash) (here : Contains announced (Some h)) where
  -- a hash that no message has
  pub no_bearer : IsBearerAt list h None → find (λ m. has_hash h m.pair) ms ≡ None
  no_bearer none = finds_none (λ m. has_hash h m.pair) ms
      (λ m i t. none (stored_hash (alg_of h) m) (l.complete h m here (contains_from_has ms m i) t) (hash_told h m t))

  module _ (e : StoredHash) (i : ℕ) (at : slice_get list i ≡ Some e) (is : e.hash ≡ h) (least : (f : StoredHash) → Contains list f → f.hash ≡ h → e.place ≤ f.place) where
    abbrev pub behind : (alg : Alg) × (m : NormalMessage) × Contains ms m × (e ≡ stored_hash alg m)
    behind = l.sound e (contains_from_has list e (has-slice_get list i e at))

    -- the first message that has it
    abbrev pub bearer : NormalMessage
    bearer = behind.1

    alg_is : alg_of h ≡ behind.0
    alg_is = ap alg_of (sym is ∙ ap (λ (f : StoredHash). f.hash) behind.3) ∙ alg_told behind.0 bearer

    pub at_place : e.place ≡ bearer.place
    at_place = ap (λ (f : StoredHash). f.place) behind.3 ∙ place_told behind.0 bearer

    has_it : has_hash h bearer.pair ≡ true
    has_it = subst (λ g. has_hash g bearer.pair ≡ true) (sym (ap (λ (f : StoredHash). f.hash) behind.3) ∙ is) (has_its behind.0 bearer)

    pub bearer_found : find (λ m. has_hash h m.pair) ms ≡ Some bearer
    bearer_found =
        finds (λ m. has_hash h m.pair) ms bearer up (has_from_contains ms bearer behind.2) has_it
        (λ n j t. omega (arith, at_place, place_told (alg_of h) n, least (stored_hash (alg_of h) n) (l.complete h n here (contains_from_has ms n j) t) (hash_told h n t)))

    there : (q : ℕ) → Has (map (λ (f : StoredHash). f.place) (filter (same e) list)) q → Has (map (λ (m : NormalMessage). m.place) (filter (λ (m : NormalMessage). same_pair m.pair bearer.pair) ms)) q
    there q j =
        let w = from_has-map (λ (f : StoredHash). f.place) (filter (same e) list) q j in
        let v = from_has-filter (same e) list w.0 w.1 in
        let b = l.sound w.0 (contains_from_has list w.0 v.0) in
        let t = both_tie (hash_cmp w.0.hash e.hash) (hash_cmp w.0.other e.other) ((Equal-is (hashes_cmp w.0 e)).0 v.1) in
        let p : b.1.pair ≡ bearer.pair
        = pair_told b.0 behind.0 b.1 bearer
        (sym (ap (λ (f : StoredHash). f.hash) b.3) ∙ hash_cmp_exact w.0.hash e.hash t.0 ∙ ap (λ (f : StoredHash). f.hash) behind.3)
        (sym (ap (λ (f : StoredHash). f.other) b.3) ∙ hash_cmp_exact w.0.other e.other t.1 ∙ ap (λ (f : StoredHash). f.other) behind.3) in
        subst (Has (map (λ (m : NormalMessage). m.place) (filter (λ (m : NormalMessage). same_pair m.pair bearer.pair) ms)))
        (sym (ap (λ (f : StoredHash). f.place) b.3 ∙ place_told b.0 b.1) ∙ w.2)
        (has-map (λ (m : NormalMessage). m.place) (filter (λ (m : NormalMessage). same_pair m.pair bearer.pair) ms) b.1
        (has-filter (λ (m : NormalMessage). same_pair m.pair bearer.pair) ms b.1 (has_from_contains ms b.1 b.2)
        (ap (λ (r : HashPair). same_pair r bearer.pair) p ∙ same_itself bearer.pair)))

    back : (q : ℕ) → Has (map (λ (m : NormalMessage). m.place) (filter (λ (m : NormalMessage). same_pair m.pair bearer.pair) ms)) q → Has (map (λ (f : StoredHash). f.place) (filter (same e) list)) q
    back q j =
        let w = from_has-map (λ (m : NormalMessage). m.place) (filter (λ (m : NormalMessage). same_pair m.pair bearer.pair) ms) q j in
        let v = from_has-filter (λ (m : NormalMessage). same_pair m.pair bearer.pair) ms w.0 w.1 in
        let p : w.0.pair ≡ bearer.pair = same_pair-is w.0.pair bearer.pair v.1 in
        let f : StoredHash = stored_hash (alg_of h) w.0 in
        let i : Has list f = has_from_contains list f (l.complete h w.0 here (contains_from_has ms w.0 v.0) (ap (has_hash h) p ∙ has_it)) in
        let s : same_hashes f e ≡ true
        = subst (λ g. same_hashes f g ≡ true) (sym behind.3) (subst (λ a. same_hashes f (stored_hash a bearer) ≡ true) alg_is (same_of (alg_of h) w.0 bearer p)) in
        subst (Has (map (λ (f : StoredHash). f.place) (filter (same e) list)))
        (place_told (alg_of h) w.0 ∙ w.2)
        (has-map (λ (f : StoredHash). f.place) (filter (same e) list) f (has-filter (same e) list f i s))

    same_places : map (λ (f : StoredHash). f.place) (filter (same e) list) ≡ places_with ms bearer.pair
    unfolding places_with
    same_places =
        same_members nat_cmp_total (map (λ (f : StoredHash). f.place) (filter (same e) list)) (map (λ (m : NormalMessage). m.place) (filter (λ (m : NormalMessage). same_pair m.pair bearer.pair) ms))
        (places_rise e list l.rises)
        (keys_rise-filter (λ (m : NormalMessage). m.place) nat_cmp (λ (m : NormalMessage). same_pair m.pair bearer.pair) ms up)
        there back

    -- of the places of the messages with its hashes, those from it on in the list
    pub place_with_number : (k : ℕ) → place_beside e (slice_get list (i + k)) ≡ slice_get (places_with ms bearer.pair) k
    place_with_number k =
        run_from e list i l.rises at
        (λ f j s. least f (contains_from_has list f j) (hash_cmp_exact f.hash e.hash (both_tie (hash_cmp f.hash e.hash) (hash_cmp f.other e.other) ((Equal-is (hashes_cmp f e)).0 s)).0 ∙ is))
        k
        ∙ ap (λ ps. slice_get ps k) same_places
