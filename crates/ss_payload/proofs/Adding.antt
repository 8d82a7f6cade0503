-- What a joiner stands for once it took a fragment, and what it answers.
use Rattle.std.proofs.Common.{◌≡◌, ◌∙◌, ℕ, ◌+◌, ◌-◌, ◌<◌, ◌≤◌, List, length, arith, refl, sym, ap, inl, inr, ◌⊎◌, subst}
use Rattle.std.specs.Prelude.{◌≢◌, Bool, true, false, ◌||◌, eqb, slice_index}
use Rattle.std.proofs.Math.Logic.{⊎_elim}
use Rattle.std.proofs.lemmas.Bool.{cases_lt, or_cases, or_parts, true≢false, false≢true, not-true, not-false, cond-false}
use Rattle.ss_payload.specs.declared.joiner.slot.Slot.{Slot}
use Rattle.ss_payload.specs.declared.joiner.slot.Slot.TheVariants as slot
use Rattle.ss_payload.specs.declared.joiner.totals.Totals.{Totals}
use Rattle.ss_payload.specs.declared.joiner.runs.Runs.{Runs}
use Rattle.ss_payload.specs.declared.joiner.Joiner.{Joiner}
use Rattle.ss_payload.specs.Totals.{joined_total, total_differs}
use Rattle.ss_payload.specs.Slots.{joined_slot, slot_differs, slot_at, IsPut, SomeDiffers, NoneDiffers}
use Rattle.ss_payload.specs.Joining.{Stated, DisagreesWith, with_fragment}
use Rattle.ss_payload.specs.Joiner.{TotalsStand, SlotStands, Stands}
use Rattle.ss_payload.proofs.Standing.{totals_join, slots_join, slots_stay, other_total, same_total, other_octet, same_octet}

-- an index lies before a fragment, after it or in it
pub place_of : (index count i : ℕ) → (i < index) ⊎ ((index + count ≤ i) ⊎ ((j : ℕ) × (j < count) × (i ≡ index + j)))
place_of index count i = ⊎_elim
    (λ (h : i < index). inl h)
    (λ (h : index ≤ i). ⊎_elim
    (λ (g : i < index + count). inr (inr (i - index, omega (arith, g, h), omega (arith, h))))
    (λ (g : index + count ≤ i). inr (inl g))
    (cases_lt i (index + count)))
    (cases_lt i index)

differs_many : (x : Slot) (o : ℕ) → slot_differs x o ≡ true → joined_slot x o ≡ slot.Many
differs_many slot.Empty o d = absurd (false≢true d)
differs_many (slot.One one) o d = cond-false (eqb one o) (slot.One one) slot.Many (not-true (eqb one o) d)
differs_many slot.Many o d = refl

agrees_not_many : (x : Slot) (o : ℕ) → slot_differs x o ≡ false → joined_slot x o ≢ slot.Many
agrees_not_many slot.Empty o d = λ e. cc
agrees_not_many (slot.One one) o d = rw (not-false (eqb one o) d) (λ e. cc)
agrees_not_many slot.Many o d = absurd (true≢false d)

module _ (joiner : Joiner) (stated : Stated) (stands : Stands joiner stated) (total index : ℕ) (octets : List ℕ) (room new : Runs) where
  module _ (same : (i : ℕ) → slot_at room i ≡ slot_at joiner.runs i) (put : IsPut room new index octets (length octets)) (differs : Bool) (some : differs ≡ true → SomeDiffers room index octets) (none : differs ≡ false → NoneDiffers room index octets (length octets)) where
    abbrev more : Stated
    more = with_fragment stated total index octets

    in_room : (i : ℕ) → SlotStands (slot_at room i) stated i
    in_room i = subst (λ (x : Slot). SlotStands x stated i) (sym (same i)) (stands.octets i)

    octets_added : (i : ℕ) → SlotStands (slot_at new i) more i
    octets_added i = ⊎_elim
        (λ (h : i < index). subst (λ (x : Slot). SlotStands x more i) (sym (put.before i h)) (slots_stay stated total index octets i (λ j l e. omega (arith, h, e)) (slot_at room i) (in_room i)))
        (λ rest. ⊎_elim
        (λ (h : index + length octets ≤ i). subst (λ (x : Slot). SlotStands x more i) (sym (put.behind i h)) (slots_stay stated total index octets i (λ j l e. omega (arith, h, l, e)) (slot_at room i) (in_room i)))
        (λ at. subst (λ (k : ℕ). SlotStands (slot_at new k) more k) (sym at.2)
        (subst (λ (x : Slot). SlotStands x more (index + at.0)) (sym (put.inside at.0 at.1)) (slots_join stated total index octets at.0 at.1 (slot_at room (index + at.0)) (in_room (index + at.0)))))
        rest)
        (place_of index (length octets) i)

    many_stays : (i : ℕ) → slot_at joiner.runs i ≡ slot.Many → slot_at new i ≡ slot.Many
    many_stays i m = ⊎_elim
        (λ (h : i < index). put.before i h ∙ same i ∙ m)
        (λ rest. ⊎_elim
        (λ (h : index + length octets ≤ i). put.behind i h ∙ same i ∙ m)
        (λ at.
        let e : slot_at room (index + at.0) ≡ slot.Many = ap (λ (k : ℕ). slot_at room k) (sym at.2) ∙ same i ∙ m in
        ap (λ (k : ℕ). slot_at new k) at.2 ∙ put.inside at.0 at.1 ∙ ap (λ (x : Slot). joined_slot x (slice_index octets at.0)) e)
        rest)
        (place_of index (length octets) i)

    marked_added : (joiner.marked || differs) ≡ true → (i : ℕ) × (slot_at new i ≡ slot.Many)
    marked_added m = ⊎_elim
        (λ (h : joiner.marked ≡ true). let at = stands.marked h in (at.0, many_stays at.0 at.1))
        (λ (h : differs ≡ true). let at = some h in (index + at.0, put.inside at.0 at.1 ∙ differs_many (slot_at room (index + at.0)) (slice_index octets at.0) at.2))
        (or_cases joiner.marked differs m)

    unmarked_added : (joiner.marked || differs) ≡ false → (i : ℕ) → slot_at new i ≢ slot.Many
    unmarked_added m i many =
        let parts = or_parts joiner.marked differs m in
        ⊎_elim
        (λ (h : i < index). stands.unmarked parts.0 i (sym (same i) ∙ sym (put.before i h) ∙ many))
        (λ rest. ⊎_elim
        (λ (h : index + length octets ≤ i). stands.unmarked parts.0 i (sym (same i) ∙ sym (put.behind i h) ∙ many))
        (λ at. agrees_not_many (slot_at room (index + at.0)) (slice_index octets at.0) (none parts.1 at.0 at.1) (sym (put.inside at.0 at.1) ∙ ap (λ (k : ℕ). slot_at new k) (sym at.2) ∙ many))
        rest)
        (place_of index (length octets) i)

    pub added : (after : Joiner) → after.totals ≡ joined_total joiner.totals total → after.runs ≡ new → after.marked ≡ (joiner.marked || differs) → Stands after more
    added after t r m = record {
      totals = subst (λ (x : Totals). TotalsStand x more) (sym t) (totals_join stated total index octets joiner.totals stands.totals);
      octets = λ i. subst (λ (x : Runs). SlotStands (slot_at x i) more i) (sym r) (octets_added i);
      marked = λ h. subst (λ (x : Runs). (i : ℕ) × (slot_at x i ≡ slot.Many)) (sym r) (marked_added (sym m ∙ h));
      unmarked = λ h. subst (λ (x : Runs). (i : ℕ) → slot_at x i ≢ slot.Many) (sym r) (unmarked_added (sym m ∙ h));
    }

    pub disagrees : (total_differs joiner.totals total || differs) ≡ true → DisagreesWith stated total index octets
    unfolding DisagreesWith
    disagrees d = ⊎_elim
        (λ (h : total_differs joiner.totals total ≡ true). inl (other_total stated joiner.totals total stands.totals h))
        (λ (h : differs ≡ true).
        let at = some h in
        let other = other_octet stated (slot_at room (index + at.0)) (index + at.0) (slice_index octets at.0) (in_room (index + at.0)) at.2 in
        inr (at.0, other.0, at.1, other.1, other.2))
        (or_cases (total_differs joiner.totals total) differs d)

    pub agrees : (total_differs joiner.totals total || differs) ≡ false → ¬ DisagreesWith stated total index octets
    unfolding DisagreesWith
    agrees d with_it =
        let parts = or_parts (total_differs joiner.totals total) differs d in
        ⊎_elim
        (λ other. other.2 (same_total stated joiner.totals total stands.totals parts.0 other.0 other.1))
        (λ other. other.4 (same_octet stated (slot_at room (index + other.0)) (index + other.0) (slice_index octets other.0) (in_room (index + other.0)) (none parts.1 other.0 other.2) other.1 other.3))
        with_it

  -- where there was no memory
  pub unchanged : (after : Joiner) → ((i : ℕ) → slot_at after.runs i ≡ slot_at joiner.runs i) → after.totals ≡ joiner.totals → after.marked ≡ joiner.marked → Stands after stated
  unchanged after same t m = record {
    totals = subst (λ (x : Totals). TotalsStand x stated) (sym t) stands.totals;
    octets = λ i. subst (λ (x : Slot). SlotStands x stated i) (sym (same i)) (stands.octets i);
    marked = λ h. let at = stands.marked (sym m ∙ h) in (at.0, same at.0 ∙ at.1);
    unmarked = λ h i many. stands.unmarked (sym m ∙ h) i (sym (same i) ∙ many);
  }
