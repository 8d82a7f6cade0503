-- Why what fragments state doesn't hang on their order, and has one state and one payload.
use Rattle.std.proofs.Common.{◌≡◌, ◌∙◌, ℕ, ◌+◌, ◌<◌, List, [], ◌∷◌, length, arith, refl, sym, ap, inl, inr, suc}
use Rattle.std.specs.Prelude.{◌≢◌, Bool, true, false, ◌||◌, eqb, slice_index}
use Rattle.std.specs.FinSet as set
use Rattle.std.specs.FinSet.{same_set, nat_cmp-IsAntisymmetric}
use Rattle.std.specs.Cmp.{nat_cmp_total}
use Rattle.std.proofs.Math.Logic.{⊎_elim}
use Rattle.std.proofs.lemmas.Bool.{cases_eq}
use Rattle.ss_payload.specs.declared.joiner.JoinState.{JoinState}
use Rattle.ss_payload.specs.declared.joiner.JoinState.TheVariants.{Incomplete, Disputed, Whole}
use Rattle.ss_payload.specs.Joining.{Stated, IsDisputed, HasState, IsPayload, with_fragment}
use Rattle.ss_payload.proofs.Placed.{placed_cmp_total, placed_cmp-IsAntisymmetric, places, totals_with, octets_with}
use Rattle.ss_payload.proofs.Standing.{keeps_total, keeps_octet}

pub disputes_stay : (stated : Stated) (total index : ℕ) (octets : List ℕ) → IsDisputed stated → IsDisputed (with_fragment stated total index octets)
unfolding IsDisputed
disputes_stay stated total index octets d = ⊎_elim
    (λ t. inl (t.0, t.1, keeps_total stated total index octets t.0 t.2, keeps_total stated total index octets t.1 t.3, t.4))
    (λ o. inr (o.0, o.1, o.2, keeps_octet stated total index octets o.0 o.1 o.3, keeps_octet stated total index octets o.0 o.2 o.4, o.5))
    d

-- two that state the same totals and the same octets are one
same_stated : (s r : Stated) → ((t : ℕ) → set.contains s.totals t ≡ set.contains r.totals t) → ((i o : ℕ) → set.contains s.octets (i, o) ≡ set.contains r.octets (i, o)) → s ≡ r
same_stated s r t o =
    let totals = same_set nat_cmp_total nat_cmp-IsAntisymmetric s.totals r.totals t in
    let octets = same_set placed_cmp_total placed_cmp-IsAntisymmetric s.octets r.octets (λ p. o p.0 p.1) in
    λ d. record { totals = totals d; octets = octets d }

or_swap : (a b c : Bool) → (a || (b || c)) ≡ (b || (a || c))
or_swap true true c = refl
or_swap true false c = refl
or_swap false b c = refl

or_rotate : (a b c : Bool) → ((a || b) || c) ≡ ((a || c) || b)
or_rotate true b c = refl
or_rotate false true true = refl
or_rotate false true false = refl
or_rotate false false true = refl
or_rotate false false false = refl

or_again : (a b : Bool) → (a || (a || b)) ≡ (a || b)
or_again true b = refl
or_again false b = refl

or_twice : (a b : Bool) → ((a || b) || b) ≡ (a || b)
or_twice true b = refl
or_twice false true = refl
or_twice false false = refl

module _ (stated : Stated) (total index : ℕ) (octets : List ℕ) where
  module _ (total' index' : ℕ) (octets' : List ℕ) where
    totals_twice : (t : ℕ) → set.contains (with_fragment (with_fragment stated total index octets) total' index' octets').totals t ≡ (eqb t total' || (eqb t total || set.contains stated.totals t))
    totals_twice t = totals_with (with_fragment stated total index octets) total' index' octets' t ∙ ap (λ (b : Bool). eqb t total' || b) (totals_with stated total index octets t)

    octets_twice : (i o : ℕ) → set.contains (with_fragment (with_fragment stated total index octets) total' index' octets').octets (i, o) ≡ ((set.contains stated.octets (i, o) || places index octets i o) || places index' octets' i o)
    octets_twice i o = octets_with (with_fragment stated total index octets) total' index' octets' i o ∙ ap (λ (b : Bool). b || places index' octets' i o) (octets_with stated total index octets i o)

pub order_is_free : (stated : Stated) (total index total' index' : ℕ) (octets octets' : List ℕ) → with_fragment (with_fragment stated total index octets) total' index' octets' ≡ with_fragment (with_fragment stated total' index' octets') total index octets
order_is_free stated total index total' index' octets octets' = same_stated _ _
    (λ t. totals_twice stated total index octets total' index' octets' t ∙ or_swap (eqb t total') (eqb t total) _ ∙ sym (totals_twice stated total' index' octets' total index octets t))
    (λ i o. octets_twice stated total index octets total' index' octets' i o ∙ or_rotate _ (places index octets i o) (places index' octets' i o) ∙ sym (octets_twice stated total' index' octets' total index octets i o))

pub repeats_are_free : (stated : Stated) (total index : ℕ) (octets : List ℕ) → with_fragment (with_fragment stated total index octets) total index octets ≡ with_fragment stated total index octets
repeats_are_free stated total index octets = same_stated _ _
    (λ t. totals_twice stated total index octets total index octets t ∙ or_again (eqb t total) _ ∙ sym (totals_with stated total index octets t))
    (λ i o. octets_twice stated total index octets total index octets i o ∙ or_twice _ (places index octets i o) ∙ sym (octets_with stated total index octets i o))

pub one_state : (stated : Stated) (state other : JoinState) → HasState stated state → HasState stated other → state ≡ other
one_state stated Incomplete Incomplete s o = refl
one_state stated Incomplete Disputed s o = absurd (s.0 o)
one_state stated Incomplete Whole s o = absurd (o.1 s.1)
one_state stated Disputed Incomplete s o = absurd (o.0 s)
one_state stated Disputed Disputed s o = refl
one_state stated Disputed Whole s o = absurd (o.0 s)
one_state stated Whole Incomplete s o = absurd (s.1 o.1)
one_state stated Whole Disputed s o = absurd (s.0 o)
one_state stated Whole Whole s o = refl

same_texts : (a b : List ℕ) → length a ≡ length b → ((k : ℕ) → k < length a → slice_index a k ≡ slice_index b k) → a ≡ b
same_texts [] [] l e = refl
same_texts [] (y ∷ b) l e = absurd (omega (arith, l))
same_texts (x ∷ a) [] l e = absurd (omega (arith, l))
same_texts (x ∷ a) (y ∷ b) l e =
    let head : x ≡ y = e 0 (omega arith) in
    let rest = same_texts a b (omega (arith, l)) (λ k h. e (suc k) (omega (arith, h))) in
    λ d. head d ∷ rest d

pub one_payload : (stated : Stated) (text other : List ℕ) → ¬ IsDisputed stated → IsPayload stated text → IsPayload stated other → text ≡ other
unfolding IsDisputed
one_payload stated a b n p q =
    let long : length a ≡ length b = ⊎_elim (λ (e : length a ≡ length b). e) (λ (d : length a ≢ length b). absurd (n (inl (length a, length b, p.total, q.total, d)))) (cases_eq (length a) (length b)) in
    same_texts a b long (λ k h. ⊎_elim
    (λ (e : slice_index a k ≡ slice_index b k). e)
    (λ (d : slice_index a k ≢ slice_index b k). absurd (n (inr (k + 1, slice_index a k, slice_index b k, p.octets k h, q.octets k (omega (arith, h, long)), d))))
    (cases_eq (slice_index a k) (slice_index b k)))
