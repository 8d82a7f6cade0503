-- The lines of a text of which only the first part was taken.
use Rattle.std.specs.Prelude.{◌≡◌, ℕ, ◌+◌, ◌≤◌, List, [], ◌∷◌, ◌++◌, length}
use Rattle.std.specs.List.{AllByRecursion}
use Rattle.ss_octets.specs.Ascii.{lf}
use Rattle.ss_answers.specs.declared.fault.AnswerFault.{AnswerFault}
use Rattle.ss_answers.specs.declared.fault.AnswerFault.TheVariants.{BadLine, Read, TooBig, Memory}
use Rattle.ss_answers.specs.declared.lines.Lines.{Lines}
use Rattle.ss_answers.specs.declared.lines.LinesSoFar.{LinesSoFar}
use Rattle.ss_answers.specs.Answers.{Answer, HasFields, IsNoLine, line_text}
use Rattle.ss_answers.specs.AnswerLine.{AreKnown, AreWithin, IsKnown, answers_of}
use Rattle.ss_answers.specs.Lines.{Lacks, ended}

-- the text of lines that have ended
abbrev pub ended_text : Lines → List ℕ
ended_text lines = ended line_text (answers_of lines)

-- the text that was taken
unfoldable pub text_of : LinesSoFar → List ℕ
text_of lines = ended_text lines.ended ++ lines.unfinished.items

-- payloads that are known stand at their places
pub record HoldsPayloads (lines : LinesSoFar) : Type 0 where
  pub last : IsKnown lines.ended.octets.items lines.last
  pub others : AreKnown lines.ended.octets.items lines.payloads.entries

-- the lines that have ended are good, and the line that hasn't has no line feed
pub record IsSound (lines : LinesSoFar) : Type 0 where
  pub fields : AllByRecursion HasFields (answers_of lines.ended)
  pub within : AreWithin lines.ended
  pub payloads : HoldsPayloads lines
  pub lacks : Lacks lf lines.unfinished.items
  -- neither the lines nor the octets of their fields are more than the octets of their text
  pub counted : length lines.ended.places.items ≤ length (ended_text lines.ended)
  pub sized : length lines.ended.octets.items ≤ length (ended_text lines.ended)

-- a line came after the others, which this text spells
pub record AddsLine (old new : Lines) (text : List ℕ) : Type 0 where
  pub line : Answer
  pub fields : HasFields line
  pub spelt : text ≡ line_text line
  pub answers : answers_of new ≡ answers_of old ++ line ∷ []
  pub within : AreWithin new
  pub counted : length new.places.items ≡ length old.places.items + 1
  pub sized : length new.octets.items ≤ length old.octets.items + length text

-- what a fault says about the text of a line, where so many stand before it
abbrev pub IsLineFault : ℕ → List ℕ → AnswerFault → Type 0
IsLineFault before text (BadLine number) = (number ≡ before + 1) × IsNoLine text
IsLineFault before text Read = ⊥
IsLineFault before text TooBig = ⊥
IsLineFault before text Memory = Unit {0}

-- the line of this number is the first bad one of the text, and a line feed ends it, whatever follows
pub record HasEndedBadLine (text : List ℕ) (number : ℕ) : Type 0 where
  pub lines : List Answer
  pub line : List ℕ
  pub rest : List ℕ
  pub fields : AllByRecursion HasFields lines
  pub before : text ≡ ended line_text lines ++ (line ++ lf ∷ rest)
  pub lacks : Lacks lf line
  pub place : number ≡ length lines + 1
  pub bad : IsNoLine line

-- what a fault says about the text of which this is the first part
abbrev pub IsPartFault : List ℕ → AnswerFault → Type 0
IsPartFault text (BadLine number) = HasEndedBadLine text number
IsPartFault text Read = ⊥
IsPartFault text TooBig = ⊥
IsPartFault text Memory = Unit {0}
