-- Texts of lines, each ended by LF, for lines of any kind: which of them are good, and how each is spelt.
use Rattle.std.specs.Prelude.{◌≡◌, ℕ, ◌+◌, ◌<◌, ◌==◌, if◌then◌else◌, ◌⊎◌, List, [], ◌∷◌, ◌++◌, length, flat_map}
use Rattle.std.specs.List.{AllByRecursion}
use Rattle.ss_octets.specs.Ascii.{lf}
pub use Rattle.ss_octets.specs.Cut.{Lacks}

-- lines, each ended by a line feed
abbrev pub ended : {A : Type 0} → (A → List ℕ) → List A → List ℕ
ended spell lines = flat_map (λ line. spell line ++ lf ∷ []) lines

-- a text has these lines: it spells each of them, ended by a line feed that may be missing at the last
pub record AreLines {A : Type 0} (good : A → Type 0) (spell : A → List ℕ) (text : List ℕ) (lines : List A)
    : Type 0 where
  pub fields : AllByRecursion good lines
  pub spelt : (text ≡ ended spell lines) ⊎ (text ++ lf ∷ [] ≡ ended spell lines)

-- the first line of a text, up to its line feed or to the end
abbrev pub first_line : List ℕ → List ℕ
first_line [] = []
first_line (octet ∷ text) = if octet == lf then [] else octet ∷ first_line text

-- a text is the spelling of no good line
abbrev pub SpellsNone : {A : Type 0} → (A → Type 0) → (A → List ℕ) → List ℕ → Type 0
SpellsNone {A} good spell text = (line : A) → good line → text ≡ spell line → ⊥

-- the line of this number is the first bad one: good lines stand before it, and what follows them begins with
-- a line that is none
pub record IsFirstBad {A : Type 0} (good : A → Type 0) (spell : A → List ℕ) (text : List ℕ) (number : ℕ) : Type 0 where
  pub lines : List A
  pub rest : List ℕ
  pub fields : AllByRecursion good lines
  pub before : text ≡ ended spell lines ++ rest
  pub some : 0 < length rest
  pub place : number ≡ length lines + 1
  pub bad : SpellsNone good spell (first_line rest)
