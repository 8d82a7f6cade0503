-- What reading a file of answers takes from its reader, and when each fault comes.
use Rattle.std.specs.Prelude.{◌≡◌, ℕ, ◌^◌, ◌<◌, Bool, true, false, List, length, Option, Result, Ok, Err}
use Rattle.ss_answers.specs.declared.fault.AnswerFault.{AnswerFault}
use Rattle.ss_answers.specs.declared.fault.AnswerFault.TheVariants.{BadLine, Read, TooBig, Memory}
use Rattle.ss_answers.specs.declared.input.InputFault.{InputFault}
use Rattle.ss_answers.specs.declared.input.InputFault.TheVariants as inputs
use Rattle.ss_answers.specs.Input.{GivesAll, GivesMore}
use Rattle.ss_answers.specs.Answers.{Answer, HasFirstBadLine, HasLines, Rise, SaysTheSame, payloads_of}

-- a file that wasn't read gives no answers
abbrev pub answer_fault : InputFault → AnswerFault
answer_fault inputs.Read = Read
answer_fault inputs.TooBig = TooBig
answer_fault inputs.Memory = Memory

-- whether a fault is that of a read
abbrev pub is_read : AnswerFault → Bool
is_read (BadLine line) = false
is_read Read = true
is_read TooBig = false
is_read Memory = false

-- whether an answer is that a read failed
abbrev pub failed_read : {T : Type 0} → Result T AnswerFault → Bool
failed_read (Ok x) = false
failed_read (Err fault) = is_read fault

-- what a fault says about the text
abbrev pub IsTextFault : List ℕ → AnswerFault → Type 0
IsTextFault text (BadLine line) = HasFirstBadLine text line
IsTextFault text Read = ⊥
IsTextFault text TooBig = ⊥
IsTextFault text Memory = Unit {0}

-- the answers are those of the lines that the reader gave
pub record AreRead (old new : Option (List ℕ)) (max : ℕ) (answers : List Answer) : Type 0 where
  pub text : List ℕ
  pub lines : List Answer
  pub all : GivesAll old new max text
  pub has : HasLines text lines
  pub same : SaysTheSame lines answers

-- the lines are those of the text that the reader gave
pub record AreLinesRead (old new : Option (List ℕ)) (max : ℕ) (lines : List Answer) : Type 0 where
  pub text : List ℕ
  pub all : GivesAll old new max text
  pub has : HasLines text lines

-- the line of this number is the first bad one of those that the reader gave
pub record IsBadLine (old new : Option (List ℕ)) (max : ℕ) (line : ℕ) : Type 0 where
  pub text : List ℕ
  pub all : GivesAll old new max text
  pub first : HasFirstBadLine text line

-- what each fault says; a failed reader is stated apart
abbrev pub IsAnswerFault : Option (List ℕ) → Option (List ℕ) → ℕ → AnswerFault → Type 0
IsAnswerFault old new max (BadLine line) = IsBadLine old new max line
IsAnswerFault old new max Read = Unit {0}
IsAnswerFault old new max TooBig = GivesMore old new max
IsAnswerFault old new max Memory = Unit {0}

-- ---- a file

-- the answers are those of the lines of some text within the limit of a file
pub record AreOfFile (answers : List Answer) : Type 0 where
  pub text : List ℕ
  pub lines : List Answer
  pub within : length text < 2 ^ 32
  pub has : HasLines text lines
  pub same : SaysTheSame lines answers

-- the payloads are those that the lines of such a text trust, in the order of their octets
pub record ArePayloadsOfFile (payloads : List (List ℕ)) : Type 0 where
  pub answers : List Answer
  pub of_file : AreOfFile answers
  pub are : payloads ≡ payloads_of answers
  pub rise : Rise payloads

-- The octets that an opened file holds, where they are known, give these answers. How many of them are left is open.
abbrev pub AreHeld : Option (List ℕ) → List Answer → Type 0
AreHeld held answers = (left : Option (List ℕ)) × AreRead held left 4294967295 answers

-- they give this fault
abbrev pub IsHeldFault : Option (List ℕ) → AnswerFault → Type 0
IsHeldFault held fault = (left : Option (List ℕ)) × IsAnswerFault held left 4294967295 fault

-- the payloads are those that the lines of such a file trust, in the order of their octets
pub record ArePayloadsHeld (held : Option (List ℕ)) (payloads : List (List ℕ)) : Type 0 where
  pub answers : List Answer
  pub gives : AreHeld held answers
  pub are : payloads ≡ payloads_of answers
  pub rise : Rise payloads

-- what a fault says about a file
abbrev pub IsFileFault : AnswerFault → Type 0
IsFileFault (BadLine line) = (text : List ℕ) × (length text < 2 ^ 32) × HasFirstBadLine text line
IsFileFault Read = Unit {0}
IsFileFault TooBig = Unit {0}
IsFileFault Memory = Unit {0}
