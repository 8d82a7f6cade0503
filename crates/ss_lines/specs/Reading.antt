-- What was read up to the end of a line.
use Rattle.std.specs.Prelude.{◌≡◌, ℕ, ◌<◌, true, false, List, [], ◌∷◌, ◌++◌, length, flat_map}
use Rattle.std.specs.List.{AllByRecursion}
use Rattle.std.specs.Io.KnownBytes.{Consumes, IsAtEnd}
use Rattle.ss_octets.specs.Ascii.{lf}
use Rattle.ss_octets.specs.Cut.{Lacks}
use Rattle.ss_frame.specs.Watched.{Source}
use Rattle.ss_lines.specs.declared.reading.LineEnd.{LineEnd}
use Rattle.ss_lines.specs.declared.reading.LineEnd.TheVariants as ends
use Rattle.ss_lines.specs.declared.reading.Octet.{Octet}
use Rattle.ss_lines.specs.declared.reading.Octet.TheVariants as octets

-- lines, each ended by LF
abbrev pub ended : List (List ℕ) → List ℕ
ended lines = flat_map (λ line. line ++ lf ∷ []) lines

-- these lines were read, and these octets after them
pub record HasRead (before after : Source) (lines : List (List ℕ)) (rest : List ℕ) : Type 0 where
  pub taken : Consumes before.left after.left (ended lines ++ rest)
  pub each : AllByRecursion (Lacks lf) lines

-- one octet, from the reader before a read to the reader after it
abbrev pub TakesOctet : (before after : Source) → Octet → Type 0
TakesOctet before after (octets.Taken octet) =
    Consumes before.left after.left (octet ∷ []) × (after.failed ≡ before.failed)
TakesOctet before after octets.End =
    Consumes before.left after.left [] × IsAtEnd after.left × (after.failed ≡ before.failed)
TakesOctet before after octets.Failed = Consumes before.left after.left [] × (after.failed ≡ true)

-- what was read up to the end of a line
abbrev pub ReadsLine : (before after : Source) → (line : List ℕ) → LineEnd → Type 0
ReadsLine before after line ends.Lf = Consumes before.left after.left (line ++ lf ∷ []) × Lacks lf line × (after.failed ≡ false)
ReadsLine before after line ends.End =
    Consumes before.left after.left line × Lacks lf line × IsAtEnd after.left × (after.failed ≡ false)
ReadsLine before after line ends.Long = Consumes before.left after.left line × Lacks lf line × (0 < length line)
ReadsLine before after line ends.Failed = Consumes before.left after.left line
ReadsLine before after line ends.Memory = (taken : List ℕ) × Consumes before.left after.left taken
