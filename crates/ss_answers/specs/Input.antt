-- What reading all of a file takes from its reader, and when that fails.
use Rattle.std.specs.Prelude.{◌≡◌, ℕ, ◌+◌, ◌≤◌, Bool, true, false, List, ◌++◌, length, take, Option, Result, Ok, Err}
use Rattle.std.specs.Io.KnownBytes.{Consumes, IsAtEnd}
use Rattle.ss_answers.specs.declared.input.InputFault.{InputFault}
use Rattle.ss_answers.specs.declared.input.InputFault.TheVariants.{Read, TooBig, Memory}

-- a reader gave a text and no more, within the limit
pub record GivesAll (old new : Option (List ℕ)) (max : ℕ) (text : List ℕ) : Type 0 where
  pub taken : Consumes old new text
  pub at_end : IsAtEnd new
  pub within : length text ≤ max

-- a reader gave more than the limit, of which one octet more was taken
pub record GivesMore (old new : Option (List ℕ)) (max : ℕ) : Type 0 where
  pub text : List ℕ
  pub taken : Consumes old new text
  pub beyond : length text ≡ max + 1

-- whether a fault is that of a read
abbrev pub is_failed_read : InputFault → Bool
is_failed_read Read = true
is_failed_read TooBig = false
is_failed_read Memory = false

-- whether an answer is that a read failed
abbrev pub failed_input : {T : Type 0} → Result T InputFault → Bool
failed_input (Ok x) = false
failed_input (Err fault) = is_failed_read fault

-- what a fault says about the reader
abbrev pub IsInputFault : Option (List ℕ) → Option (List ℕ) → ℕ → InputFault → Type 0
IsInputFault old new max Read = Unit {0}
IsInputFault old new max TooBig = GivesMore old new max
IsInputFault old new max Memory = Unit {0}

-- ---- parts of the reading

-- a fault of one read
abbrev pub IsReadOrMemory : InputFault → Type 0
IsReadOrMemory Read = Unit {0}
IsReadOrMemory TooBig = ⊥
IsReadOrMemory Memory = Unit {0}

-- one read took some octets, at most so many, and none only at the end
pub record TakesSome (old new : Option (List ℕ)) (before after : List ℕ) (most count : ℕ) : Type 0 where
  pub octets : List ℕ
  pub taken : Consumes old new octets
  pub appended : after ≡ before ++ octets
  pub counted : length octets ≡ count
  pub fits : count ≤ most
  pub none : count ≡ 0 → IsAtEnd new

-- a reader gave a text, and so many octets are left of the limit
pub record GivesFirst (old new : Option (List ℕ)) (max left : ℕ) (text : List ℕ) : Type 0 where
  pub taken : Consumes old new text
  pub counted : length text + left ≡ max

-- one read gave the first octets of a chunk, so many, and none only at the end
pub record GivesPart (old new : Option (List ℕ)) (chunk : List ℕ) (count : ℕ) : Type 0 where
  pub taken : Consumes old new (take count chunk)
  pub fits : count ≤ length chunk
  pub none : count ≡ 0 → IsAtEnd new
