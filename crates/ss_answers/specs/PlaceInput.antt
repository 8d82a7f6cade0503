-- What reading a file of places takes from its reader, and when each fault comes.
use Rattle.std.specs.Prelude.{ℕ, ◌≤◌, Bool, true, false, List, length, Option, None, Some, Result, Ok, Err, nat_lt}
use Rattle.ss_answers.specs.declared.places.fault.PlaceFault.{PlaceFault}
use Rattle.ss_answers.specs.declared.places.fault.PlaceFault.TheVariants.{BadLine, Read, TooBig, TooMany, NotWhole, Memory}
use Rattle.ss_answers.specs.declared.input.InputFault.{InputFault}
use Rattle.ss_answers.specs.declared.input.InputFault.TheVariants as inputs
use Rattle.ss_answers.specs.Input.{GivesAll, GivesMore}
use Rattle.ss_answers.specs.PlaceFile.{BreaksOffInLine, HasFirstBadPlace, HasPlaces, HasTooManyPlaces}

-- a file that wasn't read gives no places
abbrev pub place_fault : InputFault → PlaceFault
place_fault inputs.Read = Read
place_fault inputs.TooBig = TooBig
place_fault inputs.Memory = Memory

-- whether a fault is that of a read
abbrev pub is_fault_of_read : PlaceFault → Bool
is_fault_of_read (BadLine line) = false
is_fault_of_read Read = true
is_fault_of_read TooBig = false
is_fault_of_read TooMany = false
is_fault_of_read NotWhole = false
is_fault_of_read Memory = false

-- whether an answer is that a read failed
abbrev pub has_failed_read : {T : Type 0} → Result T PlaceFault → Bool
has_failed_read (Ok x) = false
has_failed_read (Err fault) = is_fault_of_read fault

-- what a fault says about the text
abbrev pub IsPlacesTextFault : List ℕ → PlaceFault → Type 0
IsPlacesTextFault text (BadLine line) = HasFirstBadPlace text line
IsPlacesTextFault text Read = ⊥
IsPlacesTextFault text TooBig = ⊥
IsPlacesTextFault text TooMany = HasTooManyPlaces text
IsPlacesTextFault text NotWhole = BreaksOffInLine text
IsPlacesTextFault text Memory = Unit {0}

-- the places are those of the lines that the reader gave, in their order
pub record ArePlaces (old new : Option (List ℕ)) (max : ℕ) (places : List ℕ) : Type 0 where
  pub text : List ℕ
  pub all : GivesAll old new max text
  pub has : HasPlaces text places

-- what the reader gave has this fault
pub record IsFaultOfPlaces (old new : Option (List ℕ)) (max : ℕ) (fault : PlaceFault) : Type 0 where
  pub text : List ℕ
  pub all : GivesAll old new max text
  pub is : IsPlacesTextFault text fault

-- what each fault says; a failed reader is stated apart
abbrev pub IsPlaceFault : Option (List ℕ) → Option (List ℕ) → ℕ → PlaceFault → Type 0
IsPlaceFault old new max (BadLine line) = IsFaultOfPlaces old new max (BadLine line)
IsPlaceFault old new max Read = Unit {0}
IsPlaceFault old new max TooBig = GivesMore old new max
IsPlaceFault old new max TooMany = IsFaultOfPlaces old new max TooMany
IsPlaceFault old new max NotWhole = IsFaultOfPlaces old new max NotWhole
IsPlaceFault old new max Memory = Unit {0}

-- ---- a file

-- the places are those of the lines of some text within the limit of a file
pub record ArePlacesOfFile (places : List ℕ) : Type 0 where
  pub text : List ℕ
  pub within : length text ≤ 80000000
  pub has : HasPlaces text places

-- The octets that an opened file holds, where they are known, give these places. How many of them are left is open.
abbrev pub AreHeldPlaces : Option (List ℕ) → List ℕ → Type 0
AreHeldPlaces held places = (left : Option (List ℕ)) × ArePlaces held left 80000000 places

-- they give this fault
abbrev pub IsHeldPlaceFault : Option (List ℕ) → PlaceFault → Type 0
IsHeldPlaceFault held fault = (left : Option (List ℕ)) × IsPlaceFault held left 80000000 fault

-- a file is known to have more octets than allowed
abbrev pub is_longer : Option ℕ → Bool
is_longer None = false
is_longer (Some length) = nat_lt 80000000 length

-- some text within the limit of a file has this fault
abbrev pub IsFaultOfText : PlaceFault → Type 0
IsFaultOfText fault = (text : List ℕ) × (length text ≤ 80000000) × IsPlacesTextFault text fault

-- what a fault says about a file
abbrev pub IsPlacesFileFault : PlaceFault → Type 0
IsPlacesFileFault (BadLine line) = IsFaultOfText (BadLine line)
IsPlacesFileFault Read = Unit {0}
IsPlacesFileFault TooBig = Unit {0}
IsPlacesFileFault TooMany = IsFaultOfText TooMany
IsPlacesFileFault NotWhole = IsFaultOfText NotWhole
IsPlacesFileFault Memory = Unit {0}
