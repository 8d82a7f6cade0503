-- A run over lines, each of which is answered before the next one is read.
use Rattle.std.specs.Prelude.{◌≡◌, ◌⊎◌, ℕ, ◌+◌, ◌<◌, true, false, List, [], ◌∷◌, ◌++◌, length, flat_map, None, is_some, Result}
use Rattle.std.specs.Prelude.{Ok, Err}
use Rattle.std.specs.List.{AllByRecursion}
use Rattle.std.specs.Io.KnownBytes.{Consumes, IsAtEnd}
use Rattle.ss_octets.specs.Ascii.{lf}
use Rattle.ss_octets.specs.Cut.{Lacks}
use Rattle.ss_frame.specs.Output.{WritesWhole, WritesPrefix}
use Rattle.ss_frame.specs.Watched.{Source, Sink}
use Rattle.ss_block.specs.Reading.{or_none}
use Rattle.ss_signed.specs.declared.fault.DescribeFault.{DescribeFault}
use Rattle.ss_signed.specs.declared.fault.DescribeFault.TheVariants.{Line, Read, Write, Memory}
use Rattle.ss_signed.specs.declared.run.LineEnd.{LineEnd}
use Rattle.ss_signed.specs.declared.run.LineEnd.TheVariants as ends
use Rattle.ss_signed.specs.declared.run.Octet.{Octet}
use Rattle.ss_signed.specs.declared.run.Octet.TheVariants as octets
use Rattle.ss_signed.specs.Lines.{answer_to}

-- lines, each ended by LF
abbrev pub ended : List (List ℕ) → List ℕ
ended lines = flat_map (λ line. line ++ lf ∷ []) lines

-- what is written about lines
abbrev pub answers : List (List ℕ) → List ℕ
answers lines = flat_map (λ line. or_none (answer_to line)) lines

-- a line without its LF, of a form that is answered
abbrev pub IsLine : List ℕ → Type 0
IsLine line = Lacks lf line × (is_some (answer_to line) ≡ true)

-- these lines were read, and these octets after them
pub record HasRead (before after : Source) (lines : List (List ℕ)) (rest : List ℕ) : Type 0 where
  pub taken : Consumes before.left after.left (ended lines ++ rest)
  pub each : AllByRecursion IsLine lines

-- all octets were lines, and they were answered
pub record DescribesAll (before after : Source) (was is : Sink) : Type 0 where
  pub lines : List (List ℕ)
  pub read : HasRead before after lines []
  pub at_end : IsAtEnd after.left
  pub written : WritesWhole was is (answers lines)

-- the octets after the lines are a line of another form, or they aren't ended by LF
abbrev pub IsBadLine : List ℕ → Type 0
IsBadLine rest =
    ((line : List ℕ) × (rest ≡ line ++ lf ∷ []) × Lacks lf line × (answer_to line ≡ None))
    ⊎ (Lacks lf rest × (0 < length rest))

-- the lines before were answered, and these octets were read after them
pub record Answered (before after : Source) (was is : Sink) (rest : List ℕ) (count : ℕ) : Type 0 where
  pub lines : List (List ℕ)
  pub read : HasRead before after lines rest
  pub written : WritesWhole was is (answers lines)
  pub counted : count ≡ length lines

-- it was the line of this number, from 1
pub record StopsAtLine (before after : Source) (was is : Sink) (number : ℕ) : Type 0 where
  pub rest : List ℕ
  pub count : ℕ
  pub answered : Answered before after was is rest count
  pub bad : IsBadLine rest
  pub number_is : number ≡ count + 1

-- the lines before were answered, and some octets were read after them
abbrev pub StopsAfter : (before after : Source) → (was is : Sink) → Type 0
StopsAfter before after was is = (rest : List ℕ) × (count : ℕ) × Answered before after was is rest count

-- a prefix of the answers to lines that were read was written
abbrev pub StopsWriting : (before after : Source) → (was is : Sink) → Type 0
StopsWriting before after was is =
    (lines : List (List ℕ)) × HasRead before after lines [] × WritesPrefix was is (answers lines)

-- how a run ends
abbrev pub EndsDescribing : (before after : Source) → (was is : Sink) → Result (Unit {0}) DescribeFault → Type 0
EndsDescribing before after was is (Ok done) = DescribesAll before after was is
EndsDescribing before after was is (Err (Line number)) = StopsAtLine before after was is number
EndsDescribing before after was is (Err Read) = StopsAfter before after was is
EndsDescribing before after was is (Err Write) = StopsWriting before after was is
EndsDescribing before after was is (Err Memory) = StopsAfter before after was is

-- ---- one line

-- one octet, from the reader before a read to the reader after it
abbrev pub TakesOctet : (before after : Source) → Octet → Type 0
TakesOctet before after (octets.Taken octet) =
    Consumes before.left after.left (octet ∷ []) × (after.failed ≡ before.failed)
TakesOctet before after octets.End =
    Consumes before.left after.left [] × IsAtEnd after.left × (after.failed ≡ before.failed)
TakesOctet before after octets.Failed = Consumes before.left after.left [] × (after.failed ≡ true)

-- what was read up to the end of a line
abbrev pub ReadsLine : (before after : Source) → (line : List ℕ) → LineEnd → Type 0
ReadsLine before after line ends.Lf = Consumes before.left after.left (line ++ lf ∷ []) × Lacks lf line × (after.failed ≡ false)
ReadsLine before after line ends.End =
    Consumes before.left after.left line × Lacks lf line × IsAtEnd after.left × (after.failed ≡ false)
ReadsLine before after line ends.Long = Consumes before.left after.left line × Lacks lf line × (0 < length line)
ReadsLine before after line ends.Failed = Consumes before.left after.left line
ReadsLine before after line ends.Memory = (taken : List ℕ) × Consumes before.left after.left taken

-- the answer to a line was written, or a prefix of it; or nothing
abbrev pub Answers : (line : List ℕ) → (number : ℕ) → (was is : Sink) → Result (Unit {0}) DescribeFault → Type 0
Answers line number was is (Ok done) =
    (is_some (answer_to line) ≡ true) × WritesWhole was is (or_none (answer_to line))
Answers line number was is (Err (Line told)) = (told ≡ number) × (answer_to line ≡ None) × (is ≡ was)
Answers line number was is (Err Read) = ⊥
Answers line number was is (Err Write) =
    (is_some (answer_to line) ≡ true) × WritesPrefix was is (or_none (answer_to line))
Answers line number was is (Err Memory) = is ≡ was
