-- What is left over where items are taken in runs of one size.
use Rattle.std.proofs.Common.{◌≡◌, ℕ, suc, ◌+◌, ◌-◌, ◌%◌, ◌<◌, ◌≤◌, List, [], ◌∷◌, ◌++◌, length, drop, sym, ap, ◌∙◌, arith}
use Rattle.std.proofs.Math.Nat.{suc-mod, mod_self, mod-le, mod-eq_of_lt, mod-lt}
use Rattle.std.proofs.lemmas.List.{length-drop, length_push, drop_all, drop-append-le}
use Rattle.ss_origin.specs.Calls.{left_over}

-- ---- remainders

one_more : (n size : ℕ) → (n + 1) % size ≡ (n % size + 1) % size
one_more n size =
    ap (λ k. k % size) (let e : n + 1 ≡ suc n = omega arith in e)
    ∙ suc-mod n size
    ∙ ap (λ k. k % size) (let e : suc (n % size) ≡ n % size + 1 = omega arith in e)

full : (n size : ℕ) → n % size + 1 ≡ size → (n + 1) % size ≡ 0
full n size e = one_more n size ∙ ap (λ k. k % size) e ∙ mod_self size

not_full : (n size : ℕ) → 1 ≤ size → (n % size + 1 ≡ size → ⊥) → (n + 1) % size ≡ n % size + 1
not_full n size some ne = one_more n size ∙ mod-eq_of_lt (let below : n % size < size = mod-lt n some in omega (arith, ne))

-- ---- items

module _ {X : Type 0} where
  pub length-left_over : (size : ℕ) (xs : List X) → length (left_over size xs) ≡ length xs % size
  length-left_over size xs =
      length-drop (length xs - length xs % size) xs ∙ (let least : length xs % size ≤ length xs = mod-le (length xs) size in omega arith)

  pub left_over-full : (size : ℕ) (xs : List X) (x : X) → length (left_over size xs) + 1 ≡ size → left_over size (xs ++ x ∷ []) ≡ []
  left_over-full size xs x e =
      let longer : length (xs ++ x ∷ []) ≡ length xs + 1 = length_push xs x in
      let none : length (xs ++ x ∷ []) % size ≡ 0
      = ap (λ k. k % size) longer ∙ full (length xs) size (ap (λ k. k + 1) (sym (length-left_over size xs)) ∙ e) in
      drop_all (length (xs ++ x ∷ []) - length (xs ++ x ∷ []) % size) (xs ++ x ∷ []) (omega arith)

  pub left_over-push : (size : ℕ) (xs : List X) (x : X) → 1 ≤ size → (length (left_over size xs) + 1 ≡ size → ⊥) → left_over size (xs ++ x ∷ []) ≡ left_over size xs ++ x ∷ []
  left_over-push size xs x some ne =
      let longer : length (xs ++ x ∷ []) ≡ length xs + 1 = length_push xs x in
      let more : length (xs ++ x ∷ []) % size ≡ length xs % size + 1
      = ap (λ k. k % size) longer ∙ not_full (length xs) size some (λ e. ne (ap (λ k. k + 1) (length-left_over size xs) ∙ e)) in
      let least : length xs % size ≤ length xs = mod-le (length xs) size in
      let same : length (xs ++ x ∷ []) - length (xs ++ x ∷ []) % size ≡ length xs - length xs % size = omega arith in
      ap (λ k. drop k (xs ++ x ∷ [])) same ∙ drop-append-le (length xs - length xs % size) xs (x ∷ []) (omega arith)
