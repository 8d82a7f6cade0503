-- A run over lines, in which each question is answered before the next line is read.
use Rattle.std.specs.Prelude.{◌≡◌, ◌⊎◌, ℕ, ◌+◌, ◌<◌, List, [], ◌∷◌, ◌++◌, length, Some, None, Result, Ok, Err}
use Rattle.std.specs.BTreeSet.{insert_key}
use Rattle.std.specs.Io.KnownBytes.{IsAtEnd}
use Rattle.ss_octets.specs.Ascii.{lf}
use Rattle.ss_octets.specs.Cut.{Lacks}
use Rattle.ss_frame.specs.Output.{WritesWhole, WritesPrefix}
use Rattle.ss_frame.specs.Watched.{Source, Sink}
use Rattle.ss_lines.specs.Reading.{HasRead}
use Rattle.ss_spelled.specs.declared.fault.SpellFault.{SpellFault}
use Rattle.ss_spelled.specs.declared.fault.SpellFault.TheVariants.{Line, Read, Write, Memory}
use Rattle.ss_spelled.specs.declared.fragment.Fragment.{Fragment}
use Rattle.ss_spelled.specs.declared.request.Request.TheVariants.{Keep, Answer}
use Rattle.ss_spelled.specs.declared.search.Bounds.{Bounds}
use Rattle.ss_spelled.specs.declared.search.Spelled.{Spelled}
use Rattle.ss_spelled.specs.Orders.{fragment_cmp}
use Rattle.ss_spelled.specs.Search.{IsAnswer}
use Rattle.ss_spelled.specs.Requests.{request}
use Rattle.ss_spelled.specs.Answers.{answer_text}

abbrev pub usual : Bounds
usual = record { texts = 1024; steps = 300000 }

-- fragments in order, each once, with one more
abbrev pub with_fragment : List Fragment → Fragment → List Fragment
with_fragment fragments f = insert_key fragment_cmp fragments f

-- this is written about fragments
abbrev pub IsAnswerText : List Fragment → List ℕ → Type 0
IsAnswerText fragments text = (s : Spelled) × IsAnswer fragments usual s × (text ≡ answer_text s)

-- These lines were read, this was written about them, and these fragments were read after the last question.
pub data Spoken : (lines : List (List ℕ)) → (fragments : List Fragment) → (written : List ℕ) → Type 0 where
  none_yet : Spoken [] [] []
  one_kept : (lines : List (List ℕ)) (fragments : List Fragment) (written line : List ℕ) (f : Fragment)
      → Spoken lines fragments written → request line ≡ Some (Keep f)
      → Spoken (lines ++ line ∷ []) (with_fragment fragments f) written
  answered : (lines : List (List ℕ)) (fragments : List Fragment) (written line text : List ℕ)
      → Spoken lines fragments written → request line ≡ Some Answer → IsAnswerText fragments text
      → Spoken (lines ++ line ∷ []) [] (written ++ text)

-- lines were read, and these octets after them; they were answered, and these fragments are left
pub record HasSpoken (before after : Source) (was is : Sink) (fragments : List Fragment) (rest : List ℕ) (count : ℕ) : Type 0 where
  pub lines : List (List ℕ)
  pub read : HasRead before after lines rest
  pub words : List ℕ
  pub spoken : Spoken lines fragments words
  pub written : WritesWhole was is words
  pub counted : count ≡ length lines

-- the lines before were answered, and some octets were read after them
abbrev pub StopsAfter : (before after : Source) → (was is : Sink) → Type 0
StopsAfter before after was is =
    (fragments : List Fragment) × (rest : List ℕ) × (count : ℕ) × HasSpoken before after was is fragments rest count

-- all octets were lines, and they were answered
pub record SpellsAll (before after : Source) (was is : Sink) : Type 0 where
  pub fragments : List Fragment
  pub count : ℕ
  pub spoken : HasSpoken before after was is fragments [] count
  pub at_end : IsAtEnd after.left

-- the octets after the lines are a line of another form, or they aren't ended by LF
abbrev pub IsBadLine : List ℕ → Type 0
IsBadLine rest =
    ((line : List ℕ) × (rest ≡ line ++ lf ∷ []) × Lacks lf line × (request line ≡ None))
    ⊎ (Lacks lf rest × (0 < length rest))

-- it was the line of this number, from 1
pub record StopsAtLine (before after : Source) (was is : Sink) (number : ℕ) : Type 0 where
  pub fragments : List Fragment
  pub rest : List ℕ
  pub count : ℕ
  pub spoken : HasSpoken before after was is fragments rest count
  pub bad : IsBadLine rest
  pub number_is : number ≡ count + 1

-- a prefix of the answers to lines that were read was written
pub record StopsWriting (before after : Source) (was is : Sink) : Type 0 where
  pub lines : List (List ℕ)
  pub read : HasRead before after lines []
  pub fragments : List Fragment
  pub words : List ℕ
  pub spoken : Spoken lines fragments words
  pub written : WritesPrefix was is words

-- how a run ends
abbrev pub EndsSpelling : (before after : Source) → (was is : Sink) → Result (Unit {0}) SpellFault → Type 0
EndsSpelling before after was is (Ok done) = SpellsAll before after was is
EndsSpelling before after was is (Err (Line number)) = StopsAtLine before after was is number
EndsSpelling before after was is (Err Read) = StopsAfter before after was is
EndsSpelling before after was is (Err Write) = StopsWriting before after was is
EndsSpelling before after was is (Err Memory) = StopsAfter before after was is

-- ---- one line

-- an answer was written, or a prefix of it; or nothing
abbrev pub Speaks : (fragments left : List Fragment) → (was is : Sink) → Result (Unit {0}) SpellFault → Type 0
Speaks fragments left was is (Ok done) =
    (text : List ℕ) × IsAnswerText fragments text × (left ≡ []) × WritesWhole was is text
Speaks fragments left was is (Err (Line number)) = ⊥
Speaks fragments left was is (Err Read) = ⊥
Speaks fragments left was is (Err Write) = (text : List ℕ) × IsAnswerText fragments text × WritesPrefix was is text
Speaks fragments left was is (Err Memory) = is ≡ was

-- a fragment was kept, and nothing written
pub record KeepsOne (line : List ℕ) (fragments left : List Fragment) (was is : Sink) : Type 0 where
  pub fragment : Fragment
  pub asked : request line ≡ Some (Keep fragment)
  pub kept : left ≡ with_fragment fragments fragment
  pub same : is ≡ was

-- what a line asks for was done
abbrev pub Obeys : (line : List ℕ) → (number : ℕ) → (fragments left : List Fragment) → (was is : Sink) → Result (Unit {0}) SpellFault → Type 0
Obeys line number fragments left was is (Ok done) =
    KeepsOne line fragments left was is
    ⊎ ((request line ≡ Some Answer) × Speaks fragments left was is (Ok done))
Obeys line number fragments left was is (Err (Line told)) = (told ≡ number) × (request line ≡ None) × (is ≡ was)
Obeys line number fragments left was is (Err Read) = ⊥
Obeys line number fragments left was is (Err Write) =
    (request line ≡ Some Answer) × Speaks fragments left was is (Err Write)
Obeys line number fragments left was is (Err Memory) = is ≡ was
