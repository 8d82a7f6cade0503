-- Fronts: the first octets of payloads, as far as fragments were joined.
use Rattle.std.specs.Prelude.{◌≡◌, ◌⊎◌, ℕ, ◌+◌, ◌-◌, ◌/◌, ◌<◌, ◌≤◌, ◌==◌, ◌&&◌, Bool, List, [], ◌++◌, length, drop, nat_le, nat_lt}
use Rattle.std.specs.Prelude.{if◌then◌else◌}
use Rattle.std.specs.List.{Contains, sum_by}
use Rattle.ss_spelled.specs.declared.fragment.Fragment.{Fragment}
use Rattle.ss_spelled.specs.declared.front.Front.{Front}
use Rattle.ss_spelled.specs.Spelled.{StandsIn}

-- a fragment states the total, which isn't 0, and each octet of the front stands in one that does
pub record IsFront (fragments : List Fragment) (q : Front) : Type 0 where
  pub some_octet : 1 ≤ q.total
  pub stated : (f : Fragment) × Contains fragments f × (f.total ≡ q.total)
  pub fits : length q.text ≤ q.total
  pub each : (place : ℕ) → place < length q.text → StandsIn fragments q.total q.text place

-- a fragment has octets after a front, and agrees with it before them
pub record IsTail (q : Front) (f : Fragment) (tail : List ℕ) : Type 0 where
  pub total : f.total ≡ q.total
  pub some_index : 1 ≤ f.index
  pub within : f.index ≤ length q.text + 1
  pub agrees : f.octets ≡ drop (f.index - 1) q.text ++ tail
  pub some_octet : 1 ≤ length tail
  pub fits : length q.text + length tail ≤ q.total

-- a front with octets after it
abbrev pub with_tail : Front → List ℕ → Front
with_tail q tail = record { total = q.total; text = q.text ++ tail }

-- a fragment makes this front of another one
abbrev pub IsLonger : Front → List Fragment → Front → Type 0
IsLonger q fragments longer =
    (f : Fragment) × (tail : List ℕ) × Contains fragments f × IsTail q f tail × (longer ≡ with_tail q tail)

-- these are the fronts of before, and those that fragments make of this front
pub record AreJoinedBy (q : Front) (fragments : List Fragment) (before after : List Front) : Type 0 where
  pub kept : (r : Front) → Contains before r → Contains after r
  pub made : (r : Front) → IsLonger q fragments r → Contains after r
  pub only : (r : Front) → Contains after r → Contains before r ⊎ IsLonger q fragments r

-- the empty front of a total
abbrev pub beginning : ℕ → Front
beginning total = record { total = total; text = [] }

-- these are the empty fronts of the totals that fragments state, but for 0
pub record AreBeginnings (fragments : List Fragment) (fronts : List Front) : Type 0 where
  pub made : (f : Fragment) → Contains fragments f → 1 ≤ f.total → Contains fronts (beginning f.total)
  pub only : (r : Front) → Contains fronts r → (f : Fragment) × Contains fragments f × (r ≡ beginning f.total) × (1 ≤ f.total)

-- ---- steps

-- a fragment of the same total has the octet after a front
abbrev pub is_tried : Front → Fragment → Bool
is_tried q f =
    f.total == q.total && nat_le f.index (length q.text + 1) && nat_lt (length q.text + 1) (f.index + length f.octets)

-- such a fragment takes more steps for each 1,024 octets of the front and of the fragment
abbrev pub fragment_cost : Front → Fragment → ℕ
fragment_cost q f = if is_tried q f then length q.text / 1024 + length f.octets / 1024 + 2 else 0

-- the steps of a front: one for each 1,024 fragments, one more, and those of the fragments
abbrev pub front_cost : List Fragment → Front → ℕ
front_cost fragments q = length fragments / 1024 + 1 + sum_by (fragment_cost q) fragments
