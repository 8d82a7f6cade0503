-- Lists of which a part is left: what a filter, a search or a count of the part says of the whole.
use Rattle.std.proofs.Common.{◌≡◌, inl, inr, Bool, true, false, cond, List, [], ◌∷◌, ◌++◌, length, map, filter, refl, sym, ap, ◌∙◌}
use Rattle.std.specs.Prelude.{Some, find, count_by}
use Rattle.std.specs.declared.cmp.Ordering.{Ordering}
use Rattle.std.specs.Cmp.{IsTotalOrder}
use Rattle.std.specs.List.{flat_map}
use Rattle.std.specs.List.Sorted.{IsStrictlySortedBy}
use Rattle.std.proofs.lemmas.List.Kept.{IsStrictlySortedBy-filter}
use Rattle.std.proofs.lemmas.List.Sums.{length-filter}
use Rattle.ss_octets.proofs.Members.{Has, has-filter, from_has-filter}
use Rattle.ss_review.proofs.of_lists.Rising.{same_members}

-- ---- tests

-- two tests are one where each follows from the other
pub one_test : (b c : Bool) → (b ≡ true → c ≡ true) → (c ≡ true → b ≡ true) → b ≡ c
one_test true c f g = sym (f refl)
one_test false true f g = g refl
one_test false false f g = refl

-- ---- what passes a test of a part that has all that passes it

module _ {X : Type 0} (p q : X → Bool) where
  filter_at : (a b : Bool) (x : X) (ys zs : List X) → (a ≡ true → b ≡ true) → p x ≡ a → filter p ys ≡ filter p zs → filter p (cond b (x ∷ ys) ys) ≡ cond a (x ∷ filter p zs) (filter p zs)
  filter_at true true x ys zs f t e = ap (λ c. cond c (x ∷ filter p ys) (filter p ys)) t ∙ ap (λ ws. x ∷ ws) e
  filter_at true false x ys zs f t e = absurd (let no = f refl in cc)
  filter_at false true x ys zs f t e = ap (λ c. cond c (x ∷ filter p ys) (filter p ys)) t ∙ e
  filter_at false false x ys zs f t e = e

  pub filter_within : (xs : List X) → ((x : X) → Has xs x → p x ≡ true → q x ≡ true) → filter p (filter q xs) ≡ filter p xs
  filter_within [] f = refl
  filter_within (x ∷ xs) f = filter_at (p x) (q x) x (filter q xs) xs (f x (inl refl)) refl (filter_within xs (λ y h. f y (inr h)))

  find_at : (a b : Bool) (x : X) (ys zs : List X) → (a ≡ true → b ≡ true) → p x ≡ a → find p ys ≡ find p zs → find p (cond b (x ∷ ys) ys) ≡ cond a (Some x) (find p zs)
  find_at true true x ys zs f t e = ap (λ c. cond c (Some x) (find p ys)) t
  find_at true false x ys zs f t e = absurd (let no = f refl in cc)
  find_at false true x ys zs f t e = ap (λ c. cond c (Some x) (find p ys)) t ∙ e
  find_at false false x ys zs f t e = e

  pub find_within : (xs : List X) → ((x : X) → Has xs x → p x ≡ true → q x ≡ true) → find p (filter q xs) ≡ find p xs
  find_within [] f = refl
  find_within (x ∷ xs) f = find_at (p x) (q x) x (filter q xs) xs (f x (inl refl)) refl (find_within xs (λ y h. f y (inr h)))

-- ---- lists that rise, and of which two tests keep the same

module _ {X : Type 0} {R : X → X → Ordering} (o : IsTotalOrder R) (p q : X → Bool) (xs ys : List X) (up : IsStrictlySortedBy R xs) (vp : IsStrictlySortedBy R ys)
    (there : (x : X) → Has xs x → p x ≡ true → Has ys x × (q x ≡ true))
    (back : (x : X) → Has ys x → q x ≡ true → Has xs x × (p x ≡ true)) where
  pub same_kept : filter p xs ≡ filter q ys
  same_kept =
      same_members o (filter p xs) (filter q ys) (IsStrictlySortedBy-filter R p xs up) (IsStrictlySortedBy-filter R q ys vp)
      (λ x h. (let f = from_has-filter p xs x h in let g = there x f.0 f.1 in has-filter q ys x g.0 g.1))
      (λ x h. (let f = from_has-filter q ys x h in let g = back x f.0 f.1 in has-filter p xs x g.0 g.1))

  pub same_count : count_by p xs ≡ count_by q ys
  same_count = sym (length-filter p xs) ∙ ap length same_kept ∙ length-filter q ys

-- ---- lists of lists

pub flat_map_agree : {X Y : Type 0} (f g : X → List Y) (xs : List X) → ((x : X) → Has xs x → f x ≡ g x) → flat_map f xs ≡ flat_map g xs
flat_map_agree f g [] e = refl
flat_map_agree f g (x ∷ xs) e =
    let head : f x ≡ g x = e x (inl refl) in
    let rest : flat_map f xs ≡ flat_map g xs = flat_map_agree f g xs (λ y h. e y (inr h)) in
    λ i. head i ++ rest i

pub flat_map-map : {X Y Z : Type 0} (f : Y → List Z) (g : X → Y) (xs : List X) → flat_map f (map g xs) ≡ flat_map (λ x. f (g x)) xs
flat_map-map f g [] = refl
flat_map-map f g (x ∷ xs) = ap (λ zs. f (g x) ++ zs) (flat_map-map f g xs)
