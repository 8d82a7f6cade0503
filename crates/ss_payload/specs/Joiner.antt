-- What a joiner stands for. It keeps whether one total was stated, or more. At each index it keeps whether one octet
-- was stated, or more.
use Rattle.std.specs.Prelude.{◌≡◌, ◌≢◌, ℕ, ◌+◌, ◌<◌, true, false, eqb}
use Rattle.std.specs.FinSet as set
use Rattle.ss_payload.specs.declared.joiner.slot.Slot.{Slot}
use Rattle.ss_payload.specs.declared.joiner.slot.Slot.TheVariants as slot
use Rattle.ss_payload.specs.declared.joiner.totals.Totals.{Totals}
use Rattle.ss_payload.specs.declared.joiner.totals.Totals.TheVariants as totals
use Rattle.ss_payload.specs.declared.joiner.runs.Runs.{Runs}
use Rattle.ss_payload.specs.declared.joiner.Joiner.{Joiner}
use Rattle.ss_payload.specs.Slots.{slot_at}
use Rattle.ss_payload.specs.Joining.{Stated, HasTotal, HasOctet}

-- what is kept of the totals that were stated
abbrev pub TotalsStand : Totals → Stated → Type 0
TotalsStand totals.Unstated stated = (t : ℕ) → set.contains stated.totals t ≡ false
TotalsStand (totals.One total) stated = (t : ℕ) → set.contains stated.totals t ≡ eqb t total
TotalsStand totals.Many stated = (t : ℕ) × (u : ℕ) × HasTotal stated t × HasTotal stated u × (t ≢ u)

-- what is kept of the octets that were stated at an index
abbrev pub SlotStands : Slot → Stated → ℕ → Type 0
SlotStands slot.Empty stated index = (o : ℕ) → set.contains stated.octets (index, o) ≡ false
SlotStands (slot.One octet) stated index = (o : ℕ) → set.contains stated.octets (index, o) ≡ eqb o octet
SlotStands slot.Many stated index = (o : ℕ) × (p : ℕ) × HasOctet stated index o × HasOctet stated index p × (o ≢ p)

-- a joiner stands for what was stated
pub record Stands (joiner : Joiner) (stated : Stated) : Type 0 where
  pub totals : TotalsStand joiner.totals stated
  pub octets : (index : ℕ) → SlotStands (slot_at joiner.runs index) stated index
  pub marked : joiner.marked ≡ true → (index : ℕ) × (slot_at joiner.runs index ≡ slot.Many)
  pub unmarked : joiner.marked ≡ false → (index : ℕ) → slot_at joiner.runs index ≢ slot.Many

-- one total was stated, one octet at each index from 1 to it, and two octets nowhere
pub record KeepsAll (joiner : Joiner) (total : ℕ) : Type 0 where
  pub one : joiner.totals ≡ totals.One total
  pub marked : joiner.marked ≡ false
  pub said : (k : ℕ) → k < total → slot_at joiner.runs (k + 1) ≢ slot.Empty

-- no total or several were stated, or no octet at some index from 1 to the one total
abbrev pub LacksSome : Totals → Runs → Type 0
LacksSome totals.Unstated runs = Unit {0}
LacksSome (totals.One total) runs = (k : ℕ) × (k < total) × (slot_at runs (k + 1) ≡ slot.Empty)
LacksSome totals.Many runs = Unit {0}
