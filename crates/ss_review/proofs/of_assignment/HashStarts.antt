-- What hashes begin with, as numbers: these stand to one another as the hashes do.
use Rattle.std.proofs.Common.{◌≡◌, ◌≢◌, ◌⊎◌, inl, inr, ℕ, zero, suc, ◌+◌, ◌*◌, ◌<◌, List, [], ◌∷◌, refl, sym, ap, ◌∙◌, arith}
use Rattle.std.specs.declared.cmp.Ordering.{Ordering}
use Rattle.std.specs.declared.cmp.Ordering.TheVariants.{Less, Equal, Greater}
use Rattle.std.specs.Ordering.{nat_cmp, ordering_then, ordering_reverse, MatchOrdering}
use Rattle.std.specs.Cmp.{IsTotalOrder, nat_cmp_is, ranks}
use Rattle.std.proofs.lemmas.Cmp.{on_total, then_total, nat_cmp_total, nat_list_cmp_total, tied_itself}
use Rattle.ss_block.specs.declared.hash.Alg.{Alg}
use Rattle.ss_block.specs.declared.hash.Hash.{Hash}
use Rattle.ss_block.specs.declared.hash.Hash.TheVariants as hashes
use Rattle.ss_block.specs.Order.{octets_cmp, hash_cmp}
use Rattle.ss_review.specs.declared.assign.hash_start.HashStart.{HashStart}
use Rattle.ss_review.specs.assign.StoredHashes.{first_octets, start_of, alg_place, start_cmp, IsNumberOf}
use Rattle.ss_review.proofs.of_lists.Keyed.{less}

-- one more octet behind a number
one_more : (x y p q : ℕ) → p < 256 → q < 256 → nat_cmp (x * 256 + p) (y * 256 + q) ≡ ordering_then (nat_cmp x y) (nat_cmp p q)
one_more x y p q l m = sym (nat_cmp_is (x * 256 + p) (y * 256 + q) (ordering_then (nat_cmp x y) (nat_cmp p q)) (by (nat_cmp x y) (nat_cmp p q) (ranks x y) (ranks p q)))
  where
    by : (c d : Ordering) → MatchOrdering c (x < y) (x ≡ y) (y < x) → MatchOrdering d (p < q) (p ≡ q) (q < p)
        → MatchOrdering (ordering_then c d) (x * 256 + p < y * 256 + q) (x * 256 + p ≡ y * 256 + q) (y * 256 + q < x * 256 + p)
    by Less d h k = let less : x < y = h in omega arith
    by Equal Less h k = let same : x ≡ y = h in let less : p < q = k in omega arith
    by Equal Equal h k = let same : x ≡ y = h in let level : p ≡ q = k in omega arith
    by Equal Greater h k = let same : x ≡ y = h in let less : q < p = k in omega arith
    by Greater d h k = let less : y < x = h in omega arith

then_assoc : (c d e : Ordering) → ordering_then (ordering_then c d) e ≡ ordering_then c (ordering_then d e)
then_assoc Less d e = refl
then_assoc Equal d e = refl
then_assoc Greater d e = refl

then_equal : (c : Ordering) → c ≡ ordering_then c Equal
then_equal Less = refl
then_equal Equal = refl
then_equal Greater = refl

-- three octets behind a number
three_more : (a b x y z u v w : ℕ) → x < 256 → y < 256 → z < 256 → u < 256 → v < 256 → w < 256
    → nat_cmp (a * 16777216 + x * 65536 + y * 256 + z) (b * 16777216 + u * 65536 + v * 256 + w)
    ≡ ordering_then (nat_cmp a b) (ordering_then (nat_cmp x u) (ordering_then (nat_cmp y v) (nat_cmp z w)))
three_more a b x y z u v w lx ly lz lu lv lw =
    let left : a * 16777216 + x * 65536 + y * 256 + z ≡ ((a * 256 + x) * 256 + y) * 256 + z = omega arith in
    let right : b * 16777216 + u * 65536 + v * 256 + w ≡ ((b * 256 + u) * 256 + v) * 256 + w = omega arith in
    (λ i. nat_cmp (left i) (right i))
    ∙ one_more ((a * 256 + x) * 256 + y) ((b * 256 + u) * 256 + v) z w lz lw
    ∙ ap (λ o. ordering_then o (nat_cmp z w)) (one_more (a * 256 + x) (b * 256 + u) y v ly lv)
    ∙ then_assoc (nat_cmp (a * 256 + x) (b * 256 + u)) (nat_cmp y v) (nat_cmp z w)
    ∙ ap (λ o. ordering_then o (ordering_then (nat_cmp y v) (nat_cmp z w))) (one_more a b x u lx lu)
    ∙ then_assoc (nat_cmp a b) (nat_cmp x u) (ordering_then (nat_cmp y v) (nat_cmp z w))

numbered : (a b : Alg) (xs ys : List ℕ) (m n : ℕ) → IsNumberOf (record { alg = a; octets = xs }) m → IsNumberOf (record { alg = b; octets = ys }) n
    → nat_cmp m n ≡ ordering_then (nat_cmp (alg_place a) (alg_place b)) (octets_cmp xs ys)
numbered a b (x ∷ y ∷ z ∷ []) (u ∷ v ∷ w ∷ []) m n s t =
    (λ i. nat_cmp (s.value i) (t.value i))
    ∙ three_more (alg_place a) (alg_place b) x y z u v w s.first s.second s.third t.first t.second t.third
    ∙ ap (λ o. ordering_then (nat_cmp (alg_place a) (alg_place b)) (ordering_then (nat_cmp x u) (ordering_then (nat_cmp y v) o))) (then_equal (nat_cmp z w))
numbered a b (x ∷ y ∷ z ∷ []) [] m n s t = absurd (omega (arith, t.three))
numbered a b (x ∷ y ∷ z ∷ []) (u ∷ []) m n s t = absurd (omega (arith, t.three))
numbered a b (x ∷ y ∷ z ∷ []) (u ∷ v ∷ []) m n s t = absurd (omega (arith, t.three))
numbered a b (x ∷ y ∷ z ∷ []) (u ∷ v ∷ w ∷ d ∷ ys) m n s t = absurd (omega (arith, t.three))
numbered a b [] ys m n s t = absurd (omega (arith, s.three))
numbered a b (x ∷ []) ys m n s t = absurd (omega (arith, s.three))
numbered a b (x ∷ y ∷ []) ys m n s t = absurd (omega (arith, s.three))
numbered a b (x ∷ y ∷ z ∷ d ∷ xs) ys m n s t = absurd (omega (arith, s.three))

pub as_numbers : (a b : HashStart) (m n : ℕ) → IsNumberOf a m → IsNumberOf b n → nat_cmp m n ≡ start_cmp a b
as_numbers a b m n s t = numbered a.alg b.alg a.octets b.octets m n s t

-- ---- what two hashes begin with, where that differs

-- the first octets, and as many noughts as are missing
padded : ℕ → List ℕ → List ℕ
padded zero xs = []
padded (suc n) [] = 0 ∷ padded n []
padded (suc n) (x ∷ xs) = x ∷ padded n xs

first_are : (xs : List ℕ) → first_octets xs ≡ padded 3 xs
unfolding padded
first_are [] = refl
first_are (x ∷ []) = refl
first_are (x ∷ y ∷ []) = refl
first_are (x ∷ y ∷ z ∷ xs) = refl

below_nought : (y : ℕ) → (nat_cmp 0 y ≡ Less) ⊎ (nat_cmp 0 y ≡ Equal)
below_nought zero = inr refl
below_nought (suc y) = inl (less 0 (suc y) (omega arith))

above_nought : (x : ℕ) → (nat_cmp x 0 ≡ Greater) ⊎ (nat_cmp x 0 ≡ Equal)
above_nought zero = inr refl
above_nought (suc x) = inl (nat_cmp_total.antisymm (suc x) 0 ∙ ap ordering_reverse (less 0 (suc x) (omega arith)))

nothing_before : (ys : List ℕ) (c : Ordering) → octets_cmp [] ys ≡ c → c ≢ Equal → Less ≡ c
nothing_before [] c e n = absurd (n (sym e))
nothing_before (y ∷ ys) c e n = e

nothing_behind : (xs : List ℕ) (c : Ordering) → octets_cmp xs [] ≡ c → c ≢ Equal → Greater ≡ c
nothing_behind [] c e n = absurd (n (sym e))
nothing_behind (x ∷ xs) c e n = e

-- where the first octets differ, they tell
tells : (n : ℕ) (xs ys : List ℕ) (c : Ordering) → octets_cmp (padded n xs) (padded n ys) ≡ c → c ≢ Equal → octets_cmp xs ys ≡ c
unfolding padded
tells zero xs ys c e n = absurd (n (sym e))
tells (suc k) [] [] c e n = absurd (n (sym e ∙ tied_itself nat_list_cmp_total (0 ∷ padded k [])))
tells (suc k) [] (y ∷ ys) c e n =
    elim (below_nought y) [
      | inl l ↦ sym (ap (λ o. ordering_then o (octets_cmp (padded k []) (padded k ys))) l) ∙ e
      | inr t ↦ nothing_before ys c (tells k [] ys c (sym (ap (λ o. ordering_then o (octets_cmp (padded k []) (padded k ys))) t) ∙ e) n) n
    ]
tells (suc k) (x ∷ xs) [] c e n =
    elim (above_nought x) [
      | inl g ↦ sym (ap (λ o. ordering_then o (octets_cmp (padded k xs) (padded k []))) g) ∙ e
      | inr t ↦ nothing_behind xs c (tells k xs [] c (sym (ap (λ o. ordering_then o (octets_cmp (padded k xs) (padded k []))) t) ∙ e) n) n
    ]
tells (suc k) (x ∷ xs) (y ∷ ys) c e n = by (nat_cmp x y) e (λ t. tells k xs ys c t n)
  where
    by : (o : Ordering) → ordering_then o (octets_cmp (padded k xs) (padded k ys)) ≡ c → (octets_cmp (padded k xs) (padded k ys) ≡ c → octets_cmp xs ys ≡ c) → ordering_then o (octets_cmp xs ys) ≡ c
    by Less t f = t
    by Equal t f = f t
    by Greater t f = t

first_tell : (xs ys : List ℕ) (c : Ordering) → octets_cmp (first_octets xs) (first_octets ys) ≡ c → c ≢ Equal → octets_cmp xs ys ≡ c
first_tell xs ys c e n = tells 3 xs ys c (sym (λ i. octets_cmp (first_are xs i) (first_are ys i)) ∙ e) n

pub first_then : (o c p : Ordering) → o ≡ c → c ≢ Equal → ordering_then o p ≡ c
first_then Less c p e n = e
first_then Equal c p e n = absurd (n (sym e))
first_then Greater c p e n = e

-- where what two hashes begin with differs, it tells
pub hash_start_tells : (g h : Hash) (c : Ordering) → start_cmp (start_of g) (start_of h) ≡ c → c ≢ Equal → hash_cmp g h ≡ c
hash_start_tells (hashes.Sha1 a) (hashes.Sha1 b) c e n = first_tell a b c e n
hash_start_tells (hashes.Sha1 a) (hashes.Sha256 b) c e n = e
hash_start_tells (hashes.Sha256 a) (hashes.Sha1 b) c e n = e
hash_start_tells (hashes.Sha256 a) (hashes.Sha256 b) c e n = first_tell a b c e n

pub start_cmp_total : IsTotalOrder start_cmp
start_cmp_total = then_total (on_total (λ (s : HashStart). alg_place s.alg) nat_cmp_total) (on_total (λ (s : HashStart). s.octets) nat_list_cmp_total)
