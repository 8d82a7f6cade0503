-- Lists of lists in which only one element gives something, or in which some give nothing.
use Rattle.std.proofs.Common.{◌≡◌, inl, inr, ◌||◌, Bool, true, false, cond, List, [], ◌∷◌, ◌++◌, filter, refl, sym, ap, ◌∙◌, subst}
use Rattle.std.specs.declared.cmp.Ordering.{Ordering}
use Rattle.std.specs.declared.cmp.Ordering.TheVariants.{Less}
use Rattle.std.specs.Cmp.{IsTotalOrder}
use Rattle.std.specs.List.{flat_map, list_any}
use Rattle.std.specs.List.Sorted.{IsStrictlySortedBy}
use Rattle.std.proofs.lemmas.List.{append-nil}
use Rattle.std.proofs.lemmas.List.Elements.{filter-append}
use Rattle.ss_octets.proofs.Members.{Has, all-has}
use Rattle.ss_review.proofs.of_lists.Rising.{not_less_itself}

pub filter-flat_map : {X Y : Type 0} (p : Y → Bool) (f : X → List Y) (xs : List X) → filter p (flat_map f xs) ≡ flat_map (λ x. filter p (f x)) xs
filter-flat_map p f [] = refl
filter-flat_map p f (x ∷ xs) = filter-append p (f x) (flat_map f xs) ∙ ap (λ ys. filter p (f x) ++ ys) (filter-flat_map p f xs)

-- no element gives anything
pub none_give : {X Y : Type 0} (f : X → List Y) (xs : List X) → ((x : X) → Has xs x → f x ≡ []) → flat_map f xs ≡ []
none_give f [] none = refl
none_give f (x ∷ xs) none =
    let here : f x ≡ [] = none x (inl refl) in
    let rest : flat_map f xs ≡ [] = none_give f xs (λ y h. none y (inr h)) in
    λ i. here i ++ rest i

-- of a list that rises, one element alone gives something
module _ {X Y : Type 0} {R : X → X → Ordering} (o : IsTotalOrder R) (f : X → List Y) (x : X) where
  pub one_gives : (xs : List X) → IsStrictlySortedBy R xs → Has xs x → ((y : X) → Has xs y → (y ≡ x → ⊥) → f y ≡ []) → flat_map f xs ≡ f x
  unfolding IsStrictlySortedBy
  one_gives [] up h none = absurd h
  one_gives (y ∷ ys) up (inl e) none =
      let rest : flat_map f ys ≡ []
      = none_give f ys (λ z h.
      none z (inr h) (λ same. not_less_itself o x (subst (λ w. R w x ≡ Less) e (subst (λ w. R y w ≡ Less) same (all-has (λ w. R y w ≡ Less) ys z up.0 h))))) in
      (λ i. f (e i) ++ rest i) ∙ append-nil (f x)
  one_gives (y ∷ ys) up (inr h) none =
      let here : f y ≡ []
      = none y (inl refl) (λ same. not_less_itself o x (subst (λ w. R w x ≡ Less) same (all-has (λ w. R y w ≡ Less) ys x up.0 h))) in
      (λ i. here i ++ flat_map f ys) ∙ one_gives ys up.1 h (λ z j apart. none z (inr j) apart)

-- elements that give nothing may be left out
module _ {X Y : Type 0} (f : X → List Y) (p : X → Bool) (none : (x : X) → p x ≡ false → f x ≡ []) where
  given_at : (b : Bool) (x : X) (ys : List X) (zs : List Y) → p x ≡ b → flat_map f ys ≡ zs → flat_map f (cond b (x ∷ ys) ys) ≡ f x ++ zs
  given_at true x ys zs t e = ap (λ ws. f x ++ ws) e
  given_at false x ys zs t e = e ∙ (λ i. sym (none x t) i ++ zs)

  pub givers : (xs : List X) → flat_map f (filter p xs) ≡ flat_map f xs
  givers [] = refl
  givers (x ∷ xs) = given_at (p x) x (filter p xs) (flat_map f xs) refl (givers xs)

pub any_agree : {X : Type 0} (p q : X → Bool) (xs : List X) → ((x : X) → Has xs x → p x ≡ q x) → list_any p xs ≡ list_any q xs
any_agree p q [] e = refl
any_agree p q (x ∷ xs) e =
    let head : p x ≡ q x = e x (inl refl) in
    let rest : list_any p xs ≡ list_any q xs = any_agree p q xs (λ y h. e y (inr h)) in
    λ i. head i || rest i
