-- What reading a file of counters takes from its reader, and when each fault comes.
use Rattle.std.specs.Prelude.{ℕ, ◌^◌, ◌<◌, Bool, true, false, List, length, Option, None, Some, Result, Ok, Err, nat_lt}
use Rattle.ss_review.specs.declared.counted.counter.Counter.{Counter}
use Rattle.ss_answers.specs.declared.counters.fault.CounterFault.{CounterFault}
use Rattle.ss_answers.specs.declared.counters.fault.CounterFault.TheVariants.{BadLine, Read, TooBig, NotWhole, Memory}
use Rattle.ss_answers.specs.declared.input.InputFault.{InputFault}
use Rattle.ss_answers.specs.declared.input.InputFault.TheVariants as inputs
use Rattle.ss_answers.specs.Input.{GivesAll, GivesMore}
use Rattle.ss_answers.specs.CounterFile.{HasCounters, HasFirstBadCounter, IsNotWhole}

-- a file that wasn't read gives no counters
abbrev pub counter_fault : InputFault → CounterFault
counter_fault inputs.Read = Read
counter_fault inputs.TooBig = TooBig
counter_fault inputs.Memory = Memory

-- whether a fault is that of a read
abbrev pub is_read_fault : CounterFault → Bool
is_read_fault (BadLine line) = false
is_read_fault Read = true
is_read_fault TooBig = false
is_read_fault NotWhole = false
is_read_fault Memory = false

-- whether an answer is that a read failed
abbrev pub read_failed : {T : Type 0} → Result T CounterFault → Bool
read_failed (Ok x) = false
read_failed (Err fault) = is_read_fault fault

-- what a fault says about the text
abbrev pub IsCountersTextFault : List ℕ → CounterFault → Type 0
IsCountersTextFault text (BadLine line) = HasFirstBadCounter text line
IsCountersTextFault text Read = ⊥
IsCountersTextFault text TooBig = ⊥
IsCountersTextFault text NotWhole = IsNotWhole text
IsCountersTextFault text Memory = Unit {0}

-- the counters are those of the lines that the reader gave, in their order
pub record AreCounters (old new : Option (List ℕ)) (max : ℕ) (counters : List Counter) : Type 0 where
  pub text : List ℕ
  pub all : GivesAll old new max text
  pub has : HasCounters text counters

-- the line of this number is the first bad one of those that the reader gave
pub record IsBadCounter (old new : Option (List ℕ)) (max : ℕ) (line : ℕ) : Type 0 where
  pub text : List ℕ
  pub all : GivesAll old new max text
  pub first : HasFirstBadCounter text line

-- what the reader gave isn't whole
pub record IsNotWholeInput (old new : Option (List ℕ)) (max : ℕ) : Type 0 where
  pub text : List ℕ
  pub all : GivesAll old new max text
  pub not_whole : IsNotWhole text

-- what each fault says; a failed reader is stated apart
abbrev pub IsCounterFault : Option (List ℕ) → Option (List ℕ) → ℕ → CounterFault → Type 0
IsCounterFault old new max (BadLine line) = IsBadCounter old new max line
IsCounterFault old new max Read = Unit {0}
IsCounterFault old new max TooBig = GivesMore old new max
IsCounterFault old new max NotWhole = IsNotWholeInput old new max
IsCounterFault old new max Memory = Unit {0}

-- ---- a file

-- the counters are those of the lines of some text within the limit of a file
pub record AreCountersOfFile (counters : List Counter) : Type 0 where
  pub text : List ℕ
  pub within : length text < 2 ^ 32
  pub has : HasCounters text counters

-- The octets that an opened file holds, where they are known, give these counters. How many of them are left is open.
abbrev pub AreHeldCounters : Option (List ℕ) → List Counter → Type 0
AreHeldCounters held counters = (left : Option (List ℕ)) × AreCounters held left 4294967295 counters

-- they give this fault
abbrev pub IsHeldCounterFault : Option (List ℕ) → CounterFault → Type 0
IsHeldCounterFault held fault = (left : Option (List ℕ)) × IsCounterFault held left 4294967295 fault

-- a file is known to have more octets than allowed
abbrev pub is_too_long : Option ℕ → Bool
is_too_long None = false
is_too_long (Some length) = nat_lt 4294967295 length

-- what a fault says about a file
abbrev pub IsCountersFileFault : CounterFault → Type 0
IsCountersFileFault (BadLine line) = (text : List ℕ) × (length text < 2 ^ 32) × HasFirstBadCounter text line
IsCountersFileFault Read = Unit {0}
IsCountersFileFault TooBig = Unit {0}
IsCountersFileFault NotWhole = (text : List ℕ) × (length text < 2 ^ 32) × IsNotWhole text
IsCountersFileFault Memory = Unit {0}
