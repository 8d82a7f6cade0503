-- The hole with a number, between the announced numbers before and behind it.
use Rattle.std.proofs.Common.{◌≡◌, ◌⊎◌, inl, inr, ℕ, zero, suc, ◌+◌, ◌-◌, ◌<◌, ◌≤◌, refl, subst, arith}
use Rattle.std.specs.Prelude.{nat_lt}
use Rattle.std.proofs.lemmas.Bool.{cases_Bool, ltb-true, ltb-false}
use Rattle.ss_review.specs.report.Meaning.{IsHole}

pub record HasHole (P : ℕ → Type 0) (n : ℕ) : Type 0 where
  pub first : ℕ
  pub last : ℕ
  pub hole : IsHole P first last
  pub from : first ≤ n
  pub to : n ≤ last

module _ (P : ℕ → Type 0) (decided : (n : ℕ) → P n ⊎ ¬ P n) where
  -- the first of the numbers that aren't announced, down from one that isn't
  record Down (n : ℕ) : Type 0 where
    first : ℕ
    some : 1 ≤ first
    from : first ≤ n
    none : (j : ℕ) → first ≤ j → j ≤ n → ¬ P j
    before : (first ≡ 1) ⊎ P (first - 1)

  alone : (n j : ℕ) → ¬ P n → n ≤ j → j ≤ n → ¬ P j
  alone n j none low high p = let e : j ≡ n = omega (arith, low, high) in none (subst P e p)

  down : (n : ℕ) → ¬ P (suc n) → Down (suc n)
  down zero none = record { first = 1; some = omega arith; from = omega arith; none = λ j low high. alone 1 j none low high; before = inl refl }
  down (suc n) none =
      elim (decided (suc n)) [
        | inl p ↦ (
            let e : suc n ≡ suc (suc n) - 1 = omega arith in
            record { first = suc (suc n); some = omega arith; from = omega arith; none = λ j low high. alone (suc (suc n)) j none low high; before = inr (subst P e p) })
        | inr isnt ↦ (
            let d = down n isnt in
            let least : d.first ≤ suc n = d.from in
            record {
              first = d.first;
              some = d.some;
              from = omega (arith, least);
              none = λ j low high q. elim (cases_Bool (nat_lt j (suc (suc n)))) [
                | inl t ↦ (let l = ltb-true j (suc (suc n)) t in d.none j low (omega (arith, l)) q)
                | inr f ↦ (let m = ltb-false j (suc (suc n)) f in alone (suc (suc n)) j none m high q)
              ];
              before = d.before;
            })
      ]

  -- the last of them, up to one that is announced
  record Up (n : ℕ) : Type 0 where
    last : ℕ
    to : n ≤ last
    none : (j : ℕ) → n ≤ j → j ≤ last → ¬ P j
    behind : P (last + 1)

  up : (k n : ℕ) → ¬ P n → P (n + suc k) → Up n
  up zero n none p =
      let e : n + 1 ≡ n + 1 = refl in
      record { last = n; to = omega arith; none = λ j low high. alone n j none low high; behind = subst P e p }
  up (suc k) n none p =
      elim (decided (n + 1)) [
        | inl q ↦ record { last = n; to = omega arith; none = λ j low high. alone n j none low high; behind = q }
        | inr isnt ↦ (
            let e : n + suc (suc k) ≡ n + 1 + suc k = omega arith in
            let u = up k (n + 1) isnt (subst P e p) in
            let most : n + 1 ≤ u.last = u.to in
            record {
              last = u.last;
              to = omega (arith, most);
              none = λ j low high q. elim (cases_Bool (nat_lt n j)) [
                | inl t ↦ (let l = ltb-true n j t in u.none j (omega (arith, l)) high q)
                | inr f ↦ (let m = ltb-false n j f in alone n j none low m q)
              ];
              behind = u.behind;
            })
      ]

  pub hole_at : (n m : ℕ) → 1 ≤ n → ¬ P n → n < m → P m → HasHole P n
  hole_at zero m some none less p = absurd (omega (arith, some))
  hole_at (suc n) m some none less p =
      let d = down n none in
      let e : m ≡ suc n + suc (m - suc n - 1) = omega (arith, less) in
      let u = up (m - suc n - 1) (suc n) none (subst P e p) in
      let low : d.first ≤ suc n = d.from in
      let high : suc n ≤ u.last = u.to in
      record {
        first = d.first;
        last = u.last;
        hole = record {
          some_first = d.some;
          some_number = omega (arith, low, high);
          unannounced = λ j above below q. elim (cases_Bool (nat_lt (suc n) j)) [
            | inl t ↦ (let l = ltb-true (suc n) j t in u.none j (omega (arith, l)) below q)
            | inr f ↦ (let l = ltb-false (suc n) j f in d.none j above l q)
          ];
          behind = u.behind;
          before = d.before;
        };
        from = low;
        to = high;
      }
