-- Why what fragments state is what some fragment states.
use Rattle.std.proofs.Common.{◌≡◌, ◌∙◌, ℕ, suc, zero, ◌+◌, ◌<◌, ◌≤◌, ◌⊎◌, inl, inr, List, [], ◌∷◌, length, slice_index, slice_index_or, arith, refl, sym, subst}
use Rattle.std.specs.Prelude.{◌↔◌, true, eqb, fold}
use Rattle.std.specs.List.{Any}
use Rattle.std.specs.FinSet as set
use Rattle.std.specs.FinSet.{contains-empty}
use Rattle.std.specs.Ordering.{nat_cmp}
use Rattle.std.proofs.Math.Logic.{⊎_elim}
use Rattle.std.proofs.lemmas.Bool.{or_cases, or_left, or_right, eq-eqb, eqb-true, false≢true}
use Rattle.ss_payload.specs.Joining.{Stated, HasTotal, HasOctet, nothing_stated, with_fragment, placed_cmp}
use Rattle.ss_payload.specs.Fragments.{Fragment, States, stated_by}
use Rattle.ss_payload.proofs.Placed.{places, places_nothing, places_one, totals_with, octets_with}
use Rattle.ss_payload.proofs.Adding.{place_of}

pub any_here : {X : Type 0} → (P : X → Type 0) (x : X) (xs : List X) → P x → Any P (x ∷ xs)
any_here P x xs p = (0, x, omega arith, refl, p)

pub any_there : {X : Type 0} → (P : X → Type 0) (x : X) (xs : List X) → Any P xs → Any P (x ∷ xs)
any_there P x xs a = (suc a.0, a.1, omega (arith, a.2), a.3, a.4)

any_at : {X : Type 0} → (P : X → Type 0) (x : X) (xs : List X) (k : ℕ) (y : X) → k < length (x ∷ xs) → slice_index_or (x ∷ xs) k y ≡ y → P y → P x ⊎ Any P xs
any_at P x xs zero y lt at p = inl (subst P (sym at) p)
any_at P x xs (suc k) y lt at p = inr (k, y, omega (arith, lt), at, p)

pub any_cases : {X : Type 0} → (P : X → Type 0) (x : X) (xs : List X) → Any P (x ∷ xs) → P x ⊎ Any P xs
any_cases P x xs a = any_at P x xs a.0 a.1 a.2 a.3 a.4

pub any_none : {X : Type 0} → (P : X → Type 0) → Any P [] → ⊥
any_none P a = omega (arith, a.2)

-- a fragment places an octet where it states it
places_from : (f : Fragment) (i o : ℕ) → places f.index f.octets i o ≡ true → States f i o
places_from f i o p = ⊎_elim
    (λ (h : i < f.index). absurd (false≢true (sym (places_nothing f.octets f.index i o (λ j l e. omega (arith, h, e))) ∙ p)))
    (λ rest. ⊎_elim
    (λ (h : f.index + length f.octets ≤ i). absurd (false≢true (sym (places_nothing f.octets f.index i o (λ j l e. omega (arith, h, l, e))) ∙ p)))
    (λ at. (at.0, at.1, sym at.2, sym (eqb-true o (slice_index f.octets at.0) (sym (places_one f.octets f.index at.0 i o at.2 at.1) ∙ p))))
    rest)
    (place_of f.index (length f.octets) i)

places_of : (f : Fragment) (i o : ℕ) → States f i o → places f.index f.octets i o ≡ true
places_of f i o s = places_one f.octets f.index s.0 i o (sym s.2) s.1 ∙ eq-eqb o (slice_index f.octets s.0) (sym s.3)

abbrev after : Stated → List Fragment → Stated
after stated fs = fold (λ s f. with_fragment s f.total f.index f.octets) stated fs

abbrev one_more : Stated → Fragment → Stated
one_more stated f = with_fragment stated f.total f.index f.octets

total_stays : (stated : Stated) (fs : List Fragment) (t : ℕ) → HasTotal stated t → HasTotal (after stated fs) t
total_stays stated [] t h = h
total_stays stated (f ∷ fs) t h = total_stays (one_more stated f) fs t (totals_with stated f.total f.index f.octets t ∙ or_right _ _ h)

total_of : (stated : Stated) (fs : List Fragment) (t : ℕ) → Any (λ (f : Fragment). f.total ≡ t) fs → HasTotal (after stated fs) t
total_of stated [] t a = absurd (any_none (λ (f : Fragment). f.total ≡ t) a)
total_of stated (f ∷ fs) t a = ⊎_elim
    (λ (e : f.total ≡ t). total_stays (one_more stated f) fs t (totals_with stated f.total f.index f.octets t ∙ or_left _ _ (eq-eqb t f.total (sym e))))
    (λ rest. total_of (one_more stated f) fs t rest)
    (any_cases (λ (f : Fragment). f.total ≡ t) f fs a)

total_from : (stated : Stated) (fs : List Fragment) (t : ℕ) → HasTotal (after stated fs) t → HasTotal stated t ⊎ Any (λ (f : Fragment). f.total ≡ t) fs
total_from stated [] t h = inl h
total_from stated (f ∷ fs) t h = ⊎_elim
    (λ (m : HasTotal (one_more stated f) t). ⊎_elim
    (λ (e : eqb t f.total ≡ true). inr (any_here (λ (f : Fragment). f.total ≡ t) f fs (sym (eqb-true t f.total e))))
    (λ (before : HasTotal stated t). inl before)
    (or_cases (eqb t f.total) (set.contains stated.totals t) (sym (totals_with stated f.total f.index f.octets t) ∙ m)))
    (λ rest. inr (any_there (λ (f : Fragment). f.total ≡ t) f fs rest))
    (total_from (one_more stated f) fs t h)

octet_stays : (stated : Stated) (fs : List Fragment) (i o : ℕ) → HasOctet stated i o → HasOctet (after stated fs) i o
octet_stays stated [] i o h = h
octet_stays stated (f ∷ fs) i o h = octet_stays (one_more stated f) fs i o (octets_with stated f.total f.index f.octets i o ∙ or_left _ _ h)

octet_of : (stated : Stated) (fs : List Fragment) (i o : ℕ) → Any (λ (f : Fragment). States f i o) fs → HasOctet (after stated fs) i o
octet_of stated [] i o a = absurd (any_none (λ (f : Fragment). States f i o) a)
octet_of stated (f ∷ fs) i o a = ⊎_elim
    (λ (s : States f i o). octet_stays (one_more stated f) fs i o (octets_with stated f.total f.index f.octets i o ∙ or_right _ _ (places_of f i o s)))
    (λ rest. octet_of (one_more stated f) fs i o rest)
    (any_cases (λ (f : Fragment). States f i o) f fs a)

octet_from : (stated : Stated) (fs : List Fragment) (i o : ℕ) → HasOctet (after stated fs) i o → HasOctet stated i o ⊎ Any (λ (f : Fragment). States f i o) fs
octet_from stated [] i o h = inl h
octet_from stated (f ∷ fs) i o h = ⊎_elim
    (λ (m : HasOctet (one_more stated f) i o). ⊎_elim
    (λ (before : HasOctet stated i o). inl before)
    (λ (p : places f.index f.octets i o ≡ true). inr (any_here (λ (f : Fragment). States f i o) f fs (places_from f i o p)))
    (or_cases (set.contains stated.octets (i, o)) (places f.index f.octets i o) (sym (octets_with stated f.total f.index f.octets i o) ∙ m)))
    (λ rest. inr (any_there (λ (f : Fragment). States f i o) f fs rest))
    (octet_from (one_more stated f) fs i o h)

no_total : (t : ℕ) → ¬ HasTotal nothing_stated t
unfolding nothing_stated
no_total t h = false≢true (sym (contains-empty nat_cmp t) ∙ h)

no_octet : (i o : ℕ) → ¬ HasOctet nothing_stated i o
unfolding nothing_stated
no_octet i o h = false≢true (sym (contains-empty placed_cmp (i, o)) ∙ h)

pub totals_are_of_fragments : (fs : List Fragment) (t : ℕ) → HasTotal (stated_by fs) t ↔ Any (λ (f : Fragment). f.total ≡ t) fs
totals_are_of_fragments fs t =
    (λ h. ⊎_elim (λ (n : HasTotal nothing_stated t). absurd (no_total t n)) (λ a. a) (total_from nothing_stated fs t h), λ a. total_of nothing_stated fs t a)

pub octets_are_of_fragments : (fs : List Fragment) (i o : ℕ) → HasOctet (stated_by fs) i o ↔ Any (λ (f : Fragment). States f i o) fs
octets_are_of_fragments fs i o =
    (λ h. ⊎_elim (λ (n : HasOctet nothing_stated i o). absurd (no_octet i o n)) (λ a. a) (octet_from nothing_stated fs i o h), λ a. octet_of nothing_stated fs i o a)
