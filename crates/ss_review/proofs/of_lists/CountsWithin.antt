-- Counts of a list that rises are at most those of a list that has its members.
use Rattle.std.proofs.Common.{◌≡◌, inl, inr, ℕ, ◌≤◌, Bool, true, false, cond, List, [], ◌∷◌, ◌++◌, refl, ap, subst, arith}
use Rattle.std.specs.Prelude.{count_by}
use Rattle.std.specs.declared.cmp.Ordering.{Ordering}
use Rattle.std.specs.declared.cmp.Ordering.TheVariants.{Less}
use Rattle.std.specs.Cmp.{IsTotalOrder}
use Rattle.std.specs.List.Sorted.{IsStrictlySortedBy}
use Rattle.ss_review.proofs.of_lists.Counting.{count_by-cons}
use Rattle.ss_octets.proofs.Members.{Has, has-append_left, has-append_right, has-append_cases, all-has}
use Rattle.ss_review.proofs.of_lists.Paired.{parted}
use Rattle.ss_review.proofs.of_lists.Rising.{not_less_itself}
use Rattle.ss_review.proofs.of_lists.Sums.{count_by-append}

module _ {K : Type 0} {R : K → K → Ordering} (o : IsTotalOrder R) (f : K → Bool) where
  -- a member that is above another isn't that one
  still_has : (front : List K) (x : K) (back : List K) (q : K) → R x q ≡ Less → Has (front ++ x ∷ back) q → Has (front ++ back) q
  still_has front x back q above h =
      elim (has-append_cases front (x ∷ back) q h) [
        | inl l ↦ has-append_left front back q l
        | inr (inl e) ↦ absurd (not_less_itself o q (subst (λ z. R z q ≡ Less) e above))
        | inr (inr r) ↦ has-append_right front back q r
      ]

  abbrev Within : List K → List K → Type 0
  Within xs ys = (q : K) → Has xs q → f q ≡ true → Has ys q

  counted_at : (b : Bool) (x : K) (xs ys : List K) → f x ≡ b → IsStrictlySortedBy R (x ∷ xs) → Within (x ∷ xs) ys → ((zs : List K) → Within xs zs → count_by f xs ≤ count_by f zs) → count_by f (x ∷ xs) ≤ count_by f ys
  unfolding IsStrictlySortedBy
  counted_at false x xs ys e up within rest =
      omega (arith, count_by-cons f x xs, ap {B = ℕ} (λ b. cond b 1 0) e, rest ys (λ q h t. within q (inr h) t))
  counted_at true x xs ys e up within rest =
      let w = parted ys x (within x (inl refl) e) in
      let fewer : count_by f xs ≤ count_by f (w.front ++ w.behind)
      = rest (w.front ++ w.behind) (λ q h t. still_has w.front x w.behind q (all-has (λ y. R x y ≡ Less) xs q up.0 h) (subst (λ zs. Has zs q) w.parts (within q (inr h) t))) in
      omega (arith, fewer, ap (count_by f) w.parts, count_by-append f w.front (x ∷ w.behind), count_by-append f w.front w.behind, count_by-cons f x w.behind, count_by-cons f x xs, ap {B = ℕ} (λ b. cond b 1 0) e)

  -- the members that pass are no more than those of a list that has them
  pub count_within : (xs ys : List K) → IsStrictlySortedBy R xs → ((q : K) → Has xs q → f q ≡ true → Has ys q) → count_by f xs ≤ count_by f ys
  unfolding IsStrictlySortedBy
  count_within [] ys up within = omega arith
  count_within (x ∷ xs) ys up within = counted_at (f x) x xs ys refl up within (λ zs w. count_within xs zs up.1 w)
