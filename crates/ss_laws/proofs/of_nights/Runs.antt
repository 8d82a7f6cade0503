-- The greatest runs of rising numbers have these numbers, and no two of them touch.
use Rattle.std.proofs.Common.{◌≡◌, ◌⊎◌, inl, inr, ℕ, suc, ◌+◌, ◌-◌, ◌<◌, ◌≤◌, Bool, true, false, List, [], ◌∷◌, ◌++◌, refl, sym, ap, subst, arith}
use Rattle.std.specs.Prelude.{◌==◌, nat_lt, if◌then◌else◌, All}
use Rattle.std.specs.declared.cmp.Ordering.TheVariants.{Less}
use Rattle.std.specs.Ordering.{nat_cmp}
use Rattle.std.specs.List.{AllPairs}
use Rattle.std.specs.List.Sorted.{IsStrictlySortedBy}
use Rattle.std.proofs.lemmas.Bool.{cases_lt, lt-ltb, ltb-true, eqb-true, eqb-false}
use Rattle.std.proofs.lemmas.List.Elements.{All-contains, All-from_recursion}
use Rattle.std.proofs.lemmas.List.Kept.{AllPairs-cons}
use Rattle.ss_block.specs.declared.block.Group.{Group}
use Rattle.ss_between.specs.Between.{NumberRun, numbers_between, runs_from, runs}
use Rattle.ss_octets.proofs.Members.{Has, has-append_left, has-append_right, has-append_cases, contains_from_has, all-has}
use Rattle.ss_review.proofs.of_lists.Keyed.{from_less}
use Rattle.ss_review.proofs.of_lists.Rising.{all_below}

-- ---- pairs of a list that is put together

module _ {X : Type 0} (R : X → X → Type 0) where
  first_pairs : (x : X) (xs : List X) → AllPairs R (x ∷ xs) → All (R x) xs
  first_pairs x xs p k d below = p 0 (suc k) d (omega arith) (omega (arith, below))

  other_pairs : (x : X) (xs : List X) → AllPairs R (x ∷ xs) → AllPairs R xs
  other_pairs x xs p i j d less below = p (suc i) (suc j) d (omega (arith, less)) (omega (arith, below))

  pub no_pairs : AllPairs R []
  no_pairs i j d less below = absurd (omega (arith, below))

  pub pairs_together : (xs ys : List X) → AllPairs R xs → AllPairs R ys → ((x : X) → Has xs x → (y : X) → Has ys y → R x y) → AllPairs R (xs ++ ys)
  pairs_together [] ys p q across = q
  pairs_together (x ∷ xs) ys p q across =
      AllPairs-cons R x (xs ++ ys)
      (All-from_recursion (R x) (xs ++ ys) (all_below (R x) (xs ++ ys) (λ z h.
      elim (has-append_cases xs ys z h) [
        | inl l ↦ All-contains (R x) xs z (first_pairs x xs p) (contains_from_has xs z l)
        | inr r ↦ across x (inl refl) z r
      ])))
      (pairs_together xs ys (other_pairs x xs p) q (λ z h y i. across z (inr h) y i))

-- ---- numbers that rise

abbrev pub RiseFrom : ℕ → List ℕ → Type 0
RiseFrom end [] = Unit {0}
RiseFrom end (n ∷ ns) = (end ≤ n) × RiseFrom (n + 1) ns

pub rise_from : (end : ℕ) (ns : List ℕ) → IsStrictlySortedBy nat_cmp ns → ((n : ℕ) → Has ns n → end ≤ n) → RiseFrom end ns
unfolding IsStrictlySortedBy
rise_from end [] up least = tt
rise_from end (n ∷ ns) up least = (
  least n (inl refl),
  rise_from (n + 1) ns up.1 (λ m h. (let l = from_less n m (all-has (λ q. nat_cmp n q ≡ Less) ns m up.0 h) in omega (arith, l))),
)

-- ---- one run

pub record IsBetween (g : Group) (first end : ℕ) (r : NumberRun) : Type 0 where
  pub some : first < end
  pub group_is : r.group ≡ g
  pub first_is : r.first ≡ first
  pub last_is : r.last ≡ end - 1

abbrev InRuns : List NumberRun → ℕ → Type 0
InRuns rs n = (r : NumberRun) × Has rs r × (r.first ≤ n) × (n ≤ r.last)

in_left : (rs qs : List NumberRun) (n : ℕ) → InRuns rs n → InRuns (rs ++ qs) n
in_left rs qs n w = (w.0, has-append_left rs qs w.0 w.1, w.2, w.3)

in_right : (rs qs : List NumberRun) (n : ℕ) → InRuns qs n → InRuns (rs ++ qs) n
in_right rs qs n w = (w.0, has-append_right rs qs w.0 w.1, w.2, w.3)

module _ (g : Group) where
  abbrev run : (first end : ℕ) → NumberRun
  run first end = record { group = g; first = first; last = end - 1 }

  between_at : (b : Bool) (first end : ℕ) (r : NumberRun) → nat_lt first end ≡ b → Has (if b then run first end ∷ [] else []) r → IsBetween g first end r
  between_at true first end r e (inl i) = record {
    some = ltb-true first end e;
    group_is = ap (λ (x : NumberRun). x.group) (sym i);
    first_is = ap (λ (x : NumberRun). x.first) (sym i);
    last_is = ap (λ (x : NumberRun). x.last) (sym i);
  }
  between_at true first end r e (inr h) = absurd h
  between_at false first end r e h = absurd h

  between_is : (first end : ℕ) (r : NumberRun) → Has (numbers_between g first end) r → IsBetween g first end r
  unfolding numbers_between
  between_is first end r h = between_at (nat_lt first end) first end r refl h

  between_here : (first end : ℕ) → first < end → Has (numbers_between g first end) (run first end)
  unfolding numbers_between
  between_here first end less = subst (λ (b : Bool). Has (if b then run first end ∷ [] else []) (run first end)) (sym (lt-ltb first end less)) (inl refl)

  in_between : (first end n : ℕ) → first ≤ n → n < end → InRuns (numbers_between g first end) n
  in_between first end n low high = (run first end, between_here first end (omega (arith, low, high)), low, omega (arith, high))

  from_between : (first end n : ℕ) → InRuns (numbers_between g first end) n → (first ≤ n) × (n < end)
  from_between first end n w =
      let is = between_is first end w.0 w.1 in
      let some = is.some in
      let low = is.first_is in
      let high = is.last_is in
      (omega (arith, low, w.2), omega (arith, high, some, w.3))

  -- ---- each run has numbers, from the first on

  pub record IsRunFrom (first : ℕ) (r : NumberRun) : Type 0 where
    pub group_is : r.group ≡ g
    pub from : first ≤ r.first
    pub some : r.first ≤ r.last

  a_run : (first end : ℕ) (r : NumberRun) → Has (numbers_between g first end) r → IsRunFrom first r
  a_run first end r h =
      let is = between_is first end r h in
      let some = is.some in
      let low = is.first_is in
      let high = is.last_is in
      record { group_is = is.group_is; from = omega (arith, low); some = omega (arith, low, high, some) }

  abbrev runs_at : Bool → (first end n : ℕ) → List ℕ → List NumberRun
  runs_at b first end n ns = if b then runs_from g first (n + 1) ns else numbers_between g first end ++ runs_from g n (n + 1) ns

  each_at : (b : Bool) (first end n : ℕ) (ns : List ℕ) (r : NumberRun) → first ≤ end → end ≤ n
      → (Has (runs_from g first (n + 1) ns) r → IsRunFrom first r)
      → (Has (runs_from g n (n + 1) ns) r → IsRunFrom n r)
      → Has (runs_at b first end n ns) r → IsRunFrom first r
  each_at true first end n ns r le low same new h = same h
  each_at false first end n ns r le low same new h =
      elim (has-append_cases (numbers_between g first end) (runs_from g n (n + 1) ns) r h) [
        | inl l ↦ a_run first end r l
        | inr i ↦ (let is = new i in let from = is.from in record { group_is = is.group_is; from = omega (arith, from, le, low); some = is.some })
      ]

  each : (first end : ℕ) (ns : List ℕ) (r : NumberRun) → first ≤ end → RiseFrom end ns → Has (runs_from g first end ns) r → IsRunFrom first r
  unfolding runs_from
  each first end [] r le up h = a_run first end r h
  each first end (n ∷ ns) r le up h =
      let low = up.0 in
      each_at (n == end) first end n ns r le low (each first (n + 1) ns r (omega (arith, le, low)) up.1) (each n (n + 1) ns r (omega arith) up.1) h

  -- ---- their numbers

  abbrev IsMember : (first end : ℕ) → List ℕ → ℕ → Type 0
  IsMember first end ns m = ((first ≤ m) × (m < end)) ⊎ Has ns m

  from_at : (b : Bool) (first end n : ℕ) (ns : List ℕ) (m : ℕ) → (n == end) ≡ b → first ≤ end
      → (InRuns (runs_from g first (n + 1) ns) m → IsMember first (n + 1) ns m)
      → (InRuns (runs_from g n (n + 1) ns) m → IsMember n (n + 1) ns m)
      → InRuns (runs_at b first end n ns) m → IsMember first end (n ∷ ns) m
  from_at true first end n ns m e le same new w =
      let at = eqb-true n end e in
      elim (same w) [
        | inl p ↦ (elim (cases_lt m end) [
          | inl less ↦ inl (p.0, less)
          | inr more ↦ (let here : n ≡ m = omega (arith, at, more, p.1) in inr (inl here))
        ])
        | inr h ↦ inr (inr h)
      ]
  from_at false first end n ns m e le same new w =
      elim (has-append_cases (numbers_between g first end) (runs_from g n (n + 1) ns) w.0 w.1) [
        | inl l ↦ inl (from_between first end m (w.0, l, w.2, w.3))
        | inr i ↦ (elim (new (w.0, i, w.2, w.3)) [
          | inl p ↦ (let here : n ≡ m = omega (arith, p.0, p.1) in inr (inl here))
          | inr h ↦ inr (inr h)
        ])
      ]

  members_from : (first end : ℕ) (ns : List ℕ) (m : ℕ) → first ≤ end → RiseFrom end ns → InRuns (runs_from g first end ns) m → IsMember first end ns m
  unfolding runs_from
  members_from first end [] m le up w = inl (from_between first end m w)
  members_from first end (n ∷ ns) m le up w =
      let low = up.0 in
      from_at (n == end) first end n ns m refl le (members_from first (n + 1) ns m (omega (arith, le, low)) up.1) (members_from n (n + 1) ns m (omega arith) up.1) w

  to_at : (b : Bool) (first end n : ℕ) (ns : List ℕ) (m : ℕ) → (n == end) ≡ b → first ≤ end → end ≤ n
      → (IsMember first (n + 1) ns m → InRuns (runs_from g first (n + 1) ns) m)
      → (IsMember n (n + 1) ns m → InRuns (runs_from g n (n + 1) ns) m)
      → IsMember first end (n ∷ ns) m → InRuns (runs_at b first end n ns) m
  to_at true first end n ns m e le low same new (inl p) = same (inl (p.0, omega (arith, p.1, low)))
  to_at true first end n ns m e le low same new (inr (inl here)) = same (inl (omega (arith, le, low, here), omega (arith, here)))
  to_at true first end n ns m e le low same new (inr (inr h)) = same (inr h)
  to_at false first end n ns m e le low same new (inl p) = in_left (numbers_between g first end) (runs_from g n (n + 1) ns) m (in_between first end m p.0 p.1)
  to_at false first end n ns m e le low same new (inr (inl here)) =
      in_right (numbers_between g first end) (runs_from g n (n + 1) ns) m (new (inl (omega (arith, here), omega (arith, here))))
  to_at false first end n ns m e le low same new (inr (inr h)) = in_right (numbers_between g first end) (runs_from g n (n + 1) ns) m (new (inr h))

  members_to : (first end : ℕ) (ns : List ℕ) (m : ℕ) → first ≤ end → RiseFrom end ns → IsMember first end ns m → InRuns (runs_from g first end ns) m
  unfolding runs_from
  members_to first end [] m le up (inl p) = in_between first end m p.0 p.1
  members_to first end [] m le up (inr h) = absurd h
  members_to first end (n ∷ ns) m le up w =
      let low = up.0 in
      to_at (n == end) first end n ns m refl le low (members_to first (n + 1) ns m (omega (arith, le, low)) up.1) (members_to n (n + 1) ns m (omega arith) up.1) w

  -- ---- they don't touch

  abbrev IsApart : List NumberRun → Type 0
  IsApart rs = AllPairs (λ r q. r.last + 1 < q.first) rs

  alone_at : (b : Bool) (first end : ℕ) → IsApart (if b then run first end ∷ [] else [])
  alone_at true first end i j d less below = absurd (omega (arith, less, below))
  alone_at false first end i j d less below = absurd (omega (arith, below))

  alone : (first end : ℕ) → IsApart (numbers_between g first end)
  unfolding numbers_between
  alone first end = alone_at (nat_lt first end) first end

  apart_at : (b : Bool) (first end n : ℕ) (ns : List ℕ) → (n == end) ≡ b → end ≤ n → RiseFrom (n + 1) ns
      → IsApart (runs_from g first (n + 1) ns) → IsApart (runs_from g n (n + 1) ns) → IsApart (runs_at b first end n ns)
  apart_at true first end n ns e low up same new = same
  apart_at false first end n ns e low up same new =
      pairs_together (λ (r q : NumberRun). r.last + 1 < q.first) (numbers_between g first end) (runs_from g n (n + 1) ns) (alone first end) new
      (λ r h q i.
      (let is = between_is first end r h in
      let some = is.some in
      let last = is.last_is in
      let later = each n (n + 1) ns q (omega arith) up i in
      let from = later.from in
      let other : end < n = elim (cases_lt end n) [ inl l ↦ l | inr m ↦ absurd (eqb-false n end e (omega (arith, m, low))) ] in
      omega (arith, some, last, from, other)))

  apart : (first end : ℕ) (ns : List ℕ) → first ≤ end → RiseFrom end ns → IsApart (runs_from g first end ns)
  unfolding runs_from
  apart first end [] le up = alone first end
  apart first end (n ∷ ns) le up =
      let low = up.0 in
      apart_at (n == end) first end n ns refl low up.1 (apart first (n + 1) ns (omega (arith, le, low)) up.1) (apart n (n + 1) ns (omega arith) up.1)

  -- ---- the greatest runs of numbers that rise

  module _ (ns : List ℕ) (up : RiseFrom 0 ns) where
    pub a_run_of : (r : NumberRun) → Has (runs g ns) r → IsRunFrom 0 r
    a_run_of r h = each 0 0 ns r (omega arith) up h

    pub has_number : (n : ℕ) → (r : NumberRun) × Has (runs g ns) r × (r.first ≤ n) × (n ≤ r.last) → Has ns n
    has_number n w = elim (members_from 0 0 ns n (omega arith) up w) [ inl p ↦ absurd (let none = p.1 in omega (arith, none)) | inr h ↦ h ]

    pub number_has : (n : ℕ) → Has ns n → (r : NumberRun) × Has (runs g ns) r × (r.first ≤ n) × (n ≤ r.last)
    number_has n h = members_to 0 0 ns n (omega arith) up (inr h)

    pub runs_apart : AllPairs (λ r q. r.last + 1 < q.first) (runs g ns)
    runs_apart = apart 0 0 ns (omega arith) up
