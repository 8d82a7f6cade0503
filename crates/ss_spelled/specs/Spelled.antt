-- What fragments spell (RFC 5848, section 5.3.2).
use Rattle.std.specs.Prelude.{◌≡◌, ℕ, ◌+◌, ◌-◌, ◌<◌, ◌≤◌, List, length, take, drop}
use Rattle.std.specs.List.{Contains}
use Rattle.ss_spelled.specs.declared.fragment.Fragment.{Fragment}

-- A fragment has the octet of a text before which so many others stand: the text has the fragment's octets at its index,
-- and this octet is one of them.
pub record HasOctet (f : Fragment) (text : List ℕ) (place : ℕ) : Type 0 where
  pub some_index : 1 ≤ f.index
  pub agrees : take (length f.octets) (drop (f.index - 1) text) ≡ f.octets
  pub from : f.index ≤ place + 1
  pub until : place + 1 < f.index + length f.octets

-- one of the fragments that state this total has the octet
abbrev pub StandsIn : List Fragment → (total : ℕ) → (text : List ℕ) → (place : ℕ) → Type 0
StandsIn fragments total text place =
    (f : Fragment) × Contains fragments f × (f.total ≡ total) × HasOctet f text place

-- each octet of the text, which has some, stands in a fragment that states its length
pub record IsSpelled (fragments : List Fragment) (text : List ℕ) : Type 0 where
  pub some_octet : 1 ≤ length text
  pub each : (place : ℕ) → place < length text → StandsIn fragments (length text) text place
