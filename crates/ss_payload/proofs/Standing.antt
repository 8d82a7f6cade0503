-- A joiner that takes a fragment stands for what is stated with it, and answers from what it stood for.
use Rattle.std.proofs.Common.{◌≡◌, ◌∙◌, ℕ, ◌+◌, ◌<◌, List, length, arith, refl, sym, ap, inl, inr, ◌⊎◌, subst, ◌-◌}
use Rattle.std.specs.Prelude.{◌≢◌, Bool, true, false, ◌||◌, eqb, slice_index}
use Rattle.std.proofs.Math.Logic.{⊎_elim}
use Rattle.std.proofs.lemmas.Bool.{cases_eq, eq-eqb, or_left, or_right, eqb-true, cases_Bool, true≢false, false≢true, eqb-false, not-true, not-false, cond_both}
use Rattle.ss_payload.specs.declared.joiner.slot.Slot.{Slot}
use Rattle.ss_payload.specs.declared.joiner.slot.Slot.TheVariants as slot
use Rattle.ss_payload.specs.declared.joiner.totals.Totals.{Totals}
use Rattle.ss_payload.specs.declared.joiner.totals.Totals.TheVariants as totals
use Rattle.ss_payload.specs.Totals.{joined_total, total_differs}
use Rattle.ss_payload.specs.Slots.{joined_slot, slot_differs, slot_at, IsOne, IsTextOf}
use Rattle.ss_payload.specs.declared.joiner.Joiner.{Joiner}
use Rattle.ss_payload.specs.declared.joiner.JoinState.TheVariants.{Whole}
use Rattle.ss_payload.specs.Joining.{Stated, HasTotal, HasOctet, HasGap, HasState, IsDisputed, IsPayload, with_fragment}
use Rattle.ss_payload.specs.Joiner.{TotalsStand, SlotStands, Stands, KeepsAll, LacksSome}
use Rattle.ss_payload.proofs.Placed.{totals_with, octets_with, octets_inside, octets_outside}

or_self : (a : Bool) → (a || a) ≡ a
or_self true = refl
or_self false = refl

or_false : (a : Bool) → (a || false) ≡ a
or_false true = refl
or_false false = refl

-- where two members differ, one of them differs from any number
other_of : (P : ℕ → Type 0) (t u x : ℕ) → P t → P u → t ≢ u → (y : ℕ) × P y × (y ≢ x)
other_of P t u x p q ne = ⊎_elim
    (λ (e : t ≡ x). (u, q, λ f. ne (omega (arith, e, f))))
    (λ (n : t ≢ x). (t, p, n))
    (cases_eq t x)

module _ (stated : Stated) (total index : ℕ) (octets : List ℕ) where
  abbrev more : Stated
  more = with_fragment stated total index octets

  pub keeps_total : (t : ℕ) → HasTotal stated t → HasTotal more t
  keeps_total t h = totals_with stated total index octets t ∙ or_right _ _ h

  has_total : HasTotal more total
  has_total = totals_with stated total index octets total ∙ or_left _ _ (eq-eqb total total refl)

  pub keeps_octet : (i o : ℕ) → HasOctet stated i o → HasOctet more i o
  keeps_octet i o h = octets_with stated total index octets i o ∙ or_left _ _ h

  pub totals_join : (x : Totals) → TotalsStand x stated → TotalsStand (joined_total x total) more
  totals_join totals.Unstated h = λ t. totals_with stated total index octets t ∙ ap (λ (b : Bool). eqb t total || b) (h t) ∙ or_false (eqb t total)
  totals_join (totals.One other) h = cond_both (eqb other total) (totals.One other) totals.Many (λ x. TotalsStand x more)
      (λ e t. totals_with stated total index octets t ∙ ap (λ (b : Bool). eqb t total || b) (h t)
      ∙ ap (λ (z : ℕ). eqb t z || eqb t other) (sym (eqb-true other total e)) ∙ or_self (eqb t other))
      (λ e. (other, total, keeps_total other (h other ∙ eq-eqb other other refl), has_total, eqb-false other total e))
  totals_join totals.Many h = (h.0, h.1, keeps_total h.0 h.2, keeps_total h.1 h.3, h.4)

  pub slots_join : (j : ℕ) → j < length octets → (x : Slot) → SlotStands x stated (index + j) → SlotStands (joined_slot x (slice_index octets j)) more (index + j)
  slots_join j l slot.Empty h = λ o. octets_inside stated total index octets j o l ∙ ap (λ (b : Bool). b || eqb o (slice_index octets j)) (h o)
  slots_join j l (slot.One other) h = cond_both (eqb other (slice_index octets j)) (slot.One other) slot.Many (λ x. SlotStands x more (index + j))
      (λ e o. octets_inside stated total index octets j o l ∙ ap (λ (b : Bool). b || eqb o (slice_index octets j)) (h o)
      ∙ ap (λ (z : ℕ). eqb o other || eqb o z) (sym (eqb-true other (slice_index octets j) e)) ∙ or_self (eqb o other))
      (λ e. (
        other,
        slice_index octets j,
        keeps_octet (index + j) other (h other ∙ eq-eqb other other refl),
        octets_inside stated total index octets j (slice_index octets j) l ∙ or_right _ _ (eq-eqb (slice_index octets j) (slice_index octets j) refl),
        eqb-false other (slice_index octets j) e,
      ))
  slots_join j l slot.Many h = (h.0, h.1, keeps_octet (index + j) h.0 h.2, keeps_octet (index + j) h.1 h.3, h.4)

  pub slots_stay : (i : ℕ) → ((j : ℕ) → j < length octets → i ≢ index + j) → (x : Slot) → SlotStands x stated i → SlotStands x more i
  slots_stay i apart slot.Empty h = λ o. octets_outside stated total index octets i o apart ∙ h o
  slots_stay i apart (slot.One other) h = λ o. octets_outside stated total index octets i o apart ∙ h o
  slots_stay i apart slot.Many h = (h.0, h.1, keeps_octet i h.0 h.2, keeps_octet i h.1 h.3, h.4)

module _ (stated : Stated) where
  -- where a total differs from what is kept, another one was stated, and else none
  pub other_total : (x : Totals) (total : ℕ) → TotalsStand x stated → total_differs x total ≡ true → (other : ℕ) × HasTotal stated other × (other ≢ total)
  other_total totals.Unstated total h d = absurd (false≢true d)
  other_total (totals.One other) total h d = (other, h other ∙ eq-eqb other other refl, eqb-false other total (not-true (eqb other total) d))
  other_total totals.Many total h d = other_of (HasTotal stated) h.0 h.1 total h.2 h.3 h.4

  pub same_total : (x : Totals) (total : ℕ) → TotalsStand x stated → total_differs x total ≡ false → (other : ℕ) → HasTotal stated other → other ≡ total
  same_total totals.Unstated total h d other s = absurd (false≢true (sym (h other) ∙ s))
  same_total (totals.One one) total h d other s = eqb-true other one (sym (h other) ∙ s) ∙ eqb-true one total (not-false (eqb one total) d)
  same_total totals.Many total h d other s = absurd (true≢false d)

  pub other_octet : (x : Slot) (i octet : ℕ) → SlotStands x stated i → slot_differs x octet ≡ true → (other : ℕ) × HasOctet stated i other × (other ≢ octet)
  other_octet slot.Empty i octet h d = absurd (false≢true d)
  other_octet (slot.One other) i octet h d = (other, h other ∙ eq-eqb other other refl, eqb-false other octet (not-true (eqb other octet) d))
  other_octet slot.Many i octet h d = other_of (HasOctet stated i) h.0 h.1 octet h.2 h.3 h.4

  pub same_octet : (x : Slot) (i octet : ℕ) → SlotStands x stated i → slot_differs x octet ≡ false → (other : ℕ) → HasOctet stated i other → other ≡ octet
  same_octet slot.Empty i octet h d other s = absurd (false≢true (sym (h other) ∙ s))
  same_octet (slot.One one) i octet h d other s = eqb-true other one (sym (h other) ∙ s) ∙ eqb-true one octet (not-false (eqb one octet) d)
  same_octet slot.Many i octet h d other s = absurd (true≢false d)

  -- what is kept as one was stated once
  pub one_total : (x : Totals) → x ≢ totals.Many → TotalsStand x stated → (t u : ℕ) → HasTotal stated t → HasTotal stated u → t ≡ u
  one_total totals.Unstated m h t u s r = absurd (false≢true (sym (h t) ∙ s))
  one_total (totals.One one) m h t u s r = eqb-true t one (sym (h t) ∙ s) ∙ sym (eqb-true u one (sym (h u) ∙ r))
  one_total totals.Many m h t u s r = absurd (m refl)

  pub one_octet : (x : Slot) (i : ℕ) → x ≢ slot.Many → SlotStands x stated i → (o p : ℕ) → HasOctet stated i o → HasOctet stated i p → o ≡ p
  one_octet slot.Empty i m h o p s r = absurd (false≢true (sym (h o) ∙ s))
  one_octet (slot.One one) i m h o p s r = eqb-true o one (sym (h o) ∙ s) ∙ sym (eqb-true p one (sym (h p) ∙ r))
  one_octet slot.Many i m h o p s r = absurd (m refl)

  pub some_octet : (x : Slot) (i : ℕ) → x ≢ slot.Empty → SlotStands x stated i → (o : ℕ) × HasOctet stated i o
  some_octet slot.Empty i m h = absurd (m refl)
  some_octet (slot.One one) i m h = (one, h one ∙ eq-eqb one one refl)
  some_octet slot.Many i m h = (h.0, h.2)

neither : (x : Slot) → x ≢ slot.Empty → x ≢ slot.Many → IsOne x
neither slot.Empty e m = absurd (e refl)
neither (slot.One one) e m = tt
neither slot.Many e m = absurd (m refl)

-- a joiner against what it stands for
module _ (joiner : Joiner) (stated : Stated) (stands : Stands joiner stated) where
  pub disputed_total : joiner.totals ≡ totals.Many → IsDisputed stated
  unfolding IsDisputed
  disputed_total e = inl (let h : TotalsStand totals.Many stated = subst (λ (x : Totals). TotalsStand x stated) e stands.totals in h)

  pub disputed_octet : joiner.marked ≡ true → IsDisputed stated
  unfolding IsDisputed
  disputed_octet m =
      let at = stands.marked m in
      let h : SlotStands slot.Many stated at.0 = subst (λ (x : Slot). SlotStands x stated at.0) at.1 (stands.octets at.0) in
      inr (at.0, h.0, h.1, h.2, h.3, h.4)

  pub undisputed : joiner.marked ≡ false → joiner.totals ≢ totals.Many → ¬ IsDisputed stated
  unfolding IsDisputed
  undisputed m n d = ⊎_elim
      (λ t. t.4 (one_total stated joiner.totals n stands.totals t.0 t.1 t.2 t.3))
      (λ o. o.5 (one_octet stated (slot_at joiner.runs o.0) o.0 (stands.unmarked m o.0) (stands.octets o.0) o.1 o.2 o.3 o.4))
      d

  lacks : (x : Totals) → x ≢ totals.Many → TotalsStand x stated → LacksSome x joiner.runs → HasGap stated
  unfolding HasGap
  lacks totals.Unstated n h l = inl (λ t s. false≢true (sym (h t) ∙ s))
  lacks (totals.One total) n h l = inr (
    total,
    l.0 + 1,
    h total ∙ eq-eqb total total refl,
    omega arith,
    omega (arith, l.1),
    λ o s. let e : SlotStands slot.Empty stated (l.0 + 1) = subst (λ (x : Slot). SlotStands x stated (l.0 + 1)) l.2 (stands.octets (l.0 + 1)) in false≢true (sym (e o) ∙ s),
  )
  lacks totals.Many n h l = absurd (n refl)

  pub gap : joiner.totals ≢ totals.Many → LacksSome joiner.totals joiner.runs → HasGap stated
  gap n l = lacks joiner.totals n stands.totals l

  pub many_or_not : (x : Totals) → (x ≡ totals.Many) ⊎ (x ≢ totals.Many)
  many_or_not totals.Unstated = inr (λ e. cc)
  many_or_not (totals.One total) = inr (λ e. cc)
  many_or_not totals.Many = inl refl

  pub not_whole : (joiner.marked ≡ false → LacksSome joiner.totals joiner.runs) → ¬ HasState stated Whole
  not_whole l w = ⊎_elim
      (λ (m : joiner.marked ≡ true). w.0 (disputed_octet m))
      (λ (m : joiner.marked ≡ false). ⊎_elim (λ (e : joiner.totals ≡ totals.Many). w.0 (disputed_total e)) (λ (n : joiner.totals ≢ totals.Many). w.1 (gap n (l m))) (many_or_not joiner.totals))
      (cases_Bool joiner.marked)

  module _ (total : ℕ) (all : KeepsAll joiner total) where
    kept_total : TotalsStand (totals.One total) stated
    kept_total = subst (λ (x : Totals). TotalsStand x stated) all.one stands.totals

    no_gap : ¬ HasGap stated
    unfolding HasGap
    no_gap g = ⊎_elim
        (λ none. none total (kept_total total ∙ eq-eqb total total refl))
        (λ lack.
        let e : lack.0 ≡ total = eqb-true lack.0 total (sym (kept_total lack.0) ∙ lack.2) in
        let back : lack.1 - 1 + 1 ≡ lack.1 = omega (arith, lack.3) in
        let said : slot_at joiner.runs lack.1 ≢ slot.Empty = subst (λ (i : ℕ). slot_at joiner.runs i ≢ slot.Empty) back (all.said (lack.1 - 1) (omega (arith, lack.3, lack.4, e))) in
        let o = some_octet stated (slot_at joiner.runs lack.1) lack.1 said (stands.octets lack.1) in
        lack.5 o.0 o.1)
        g

    pub whole : HasState stated Whole
    whole = (undisputed all.marked (λ e. let f : totals.One total ≡ totals.Many = sym all.one ∙ e in cc), no_gap)

    pub payload : (text : List ℕ) → IsTextOf joiner.runs text total → IsPayload stated text
    payload text t = record {
      total = kept_total (length text) ∙ eq-eqb (length text) total t.long;
      octets = λ i h.
          let e : SlotStands (slot.One (slice_index text i)) stated (i + 1) = subst (λ (x : Slot). SlotStands x stated (i + 1)) (t.said i (omega (arith, h, t.long))) (stands.octets (i + 1)) in
          e (slice_index text i) ∙ eq-eqb (slice_index text i) (slice_index text i) refl;
    }

    pub all_one : (k : ℕ) → k < total → IsOne (slot_at joiner.runs (k + 1))
    all_one k h = neither (slot_at joiner.runs (k + 1)) (all.said k h) (stands.unmarked all.marked (k + 1))
