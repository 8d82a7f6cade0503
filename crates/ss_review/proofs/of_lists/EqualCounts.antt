-- Counts over lists: by the parts of a test, and by any test where texts stand equally often.
use Rattle.std.proofs.Common.{◌≡◌, ◌⊎◌, inl, inr, ℕ, ◌+◌, Bool, true, false, cond, not, ◌&&◌, List, [], ◌∷◌, length, refl, sym, ap, ◌∙◌, arith}
use Rattle.std.specs.Prelude.{count_by}
use Rattle.std.specs.Str.{bytes_eq}
use Rattle.std.proofs.lemmas.Bool.{and_parts}
use Rattle.std.proofs.lemmas.Slice.Eq.{bytes_eq-Decides}
use Rattle.ss_review.proofs.of_lists.Counting.{count_by-cons}
use Rattle.ss_octets.proofs.Members.{Has}
use Rattle.ss_review.proofs.of_lists.Sums.{sum_by-added, sum_by-same, sum_by-none, count_by-same}

-- ---- tests

both_parts : (b c : Bool) → cond c 1 0 ≡ cond (b && c) 1 0 + cond (not b && c) 1 0
both_parts true true = refl
both_parts true false = refl
both_parts false true = refl
both_parts false false = refl

-- those that pass another test too, and those that don't
pub count_by-parts : {X : Type 0} (f g : X → Bool) (xs : List X) → count_by f xs ≡ count_by (λ x. g x && f x) xs + count_by (λ x. not (g x) && f x) xs
count_by-parts f g xs =
    sum_by-same (λ x. cond (f x) 1 0) (λ x. cond (g x && f x) 1 0 + cond (not (g x) && f x) 1 0) xs (λ x h. both_parts (g x) (f x))
    ∙ sum_by-added (λ x. cond (g x && f x) 1 0) (λ x. cond (not (g x) && f x) 1 0) xs

pub count_by-none : {X : Type 0} (f : X → Bool) (xs : List X) → ((x : X) → Has xs x → f x ≡ false) → count_by f xs ≡ 0
count_by-none f xs e = count_by-same f (λ x. false) xs e ∙ sum_by-none xs

pub count_by-all : {X : Type 0} (xs : List X) → count_by (λ x. true) xs ≡ length xs
count_by-all [] = refl
count_by-all {X} (x ∷ xs) =
    let rest : count_by (λ (y : X). true) xs ≡ length xs = count_by-all xs in
    omega (arith, count_by-cons (λ (y : X). true) x xs, rest)

-- ---- texts

-- those that are one text
count_of : (test : List ℕ → Bool) (text : List ℕ) (b : Bool) → test text ≡ b → (xs : List (List ℕ)) → count_by (λ m. bytes_eq text m && test m) xs ≡ cond b (count_by (bytes_eq text) xs) 0
count_of test text true e xs = count_by-same (λ m. bytes_eq text m && test m) (bytes_eq text) xs (λ m h. at m (bytes_eq text m) refl)
  where
    at : (m : List ℕ) (b : Bool) → bytes_eq text m ≡ b → (bytes_eq text m && test m) ≡ bytes_eq text m
    at m true same =
        let one : test m ≡ true = ap test (sym ((bytes_eq-Decides text m).0 same)) ∙ e in
        (λ i. same i && one i) ∙ sym same
    at m false same = ap (λ b. b && test m) same ∙ sym same
count_of test text false e xs = count_by-none (λ m. bytes_eq text m && test m) xs (λ m h. at m (bytes_eq text m) refl)
  where
    at : (m : List ℕ) (b : Bool) → bytes_eq text m ≡ b → (bytes_eq text m && test m) ≡ false
    at m true same =
        let one : test m ≡ false = ap test (sym ((bytes_eq-Decides text m).0 same)) ∙ e in
        λ i. same i && one i
    at m false same = ap (λ b. b && test m) same

module _ (xs ys : List (List ℕ)) (as_often : (m : List ℕ) → Has ys m → count_by (bytes_eq m) xs ≡ count_by (bytes_eq m) ys) where
  -- where all that pass are among some texts of the second list
  counts_among : (texts : List (List ℕ)) → ((m : List ℕ) → Has texts m → Has ys m) → (test : List ℕ → Bool) → ((m : List ℕ) → Has xs m ⊎ Has ys m → test m ≡ true → Has texts m) → count_by test xs ≡ count_by test ys
  counts_among [] within test among =
      count_by-none test xs (λ m h. fails m (test m) refl (inl h)) ∙ sym (count_by-none test ys (λ m h. fails m (test m) refl (inr h)))
    where
      fails : (m : List ℕ) (b : Bool) → test m ≡ b → Has xs m ⊎ Has ys m → test m ≡ false
      fails m true e h = absurd (among m h e)
      fails m false e h = e
  counts_among (text ∷ texts) within test among =
      count_by-parts test (bytes_eq text) xs
      ∙ (λ i. here i + counts_among texts (λ m h. within m (inr h)) (λ m. not (bytes_eq text m) && test m) rest i)
      ∙ sym (count_by-parts test (bytes_eq text) ys)
    where
      here : count_by (λ m. bytes_eq text m && test m) xs ≡ count_by (λ m. bytes_eq text m && test m) ys
      here =
          count_of test text (test text) refl xs
          ∙ ap (λ n. cond (test text) n 0) (as_often text (within text (inl refl)))
          ∙ sym (count_of test text (test text) refl ys)

      other : (m : List ℕ) → not (bytes_eq text m) ≡ true → Has (text ∷ texts) m → Has texts m
      other m apart (inl e) = absurd (let no : not true ≡ true = ap not (sym ((bytes_eq-Decides text m).1 e)) ∙ apart in cc)
      other m apart (inr h) = h

      rest : (m : List ℕ) → Has xs m ⊎ Has ys m → (not (bytes_eq text m) && test m) ≡ true → Has texts m
      rest m h e =
          let both = and_parts (not (bytes_eq text m)) (test m) e in
          other m both.0 (among m h both.1)

  -- Where each text of the second list stands as often in the first, any test that passes no others counts as many in both.
  pub same_counts : (test : List ℕ → Bool) → ((m : List ℕ) → Has xs m → test m ≡ true → Has ys m) → count_by test xs ≡ count_by test ys
  same_counts test among = counts_among ys (λ m h. h) test there
    where
      there : (m : List ℕ) → Has xs m ⊎ Has ys m → test m ≡ true → Has ys m
      there m (inl h) e = among m h e
      there m (inr h) e = h
