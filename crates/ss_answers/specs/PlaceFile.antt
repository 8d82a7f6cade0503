-- Files of places: the numbers of messages of a log, from 0. Each stands in a line of its own, in any order, and as often
-- as somebody likes.
use Rattle.std.specs.Prelude.{◌≡◌, ℕ, ◌+◌, ◌<◌, ◌≤◌, List, ◌∷◌, ◌++◌, length, decimal, All}
use Rattle.std.specs.List.{AllByRecursion}
use Rattle.ss_octets.specs.Ascii.{lf}
use Rattle.ss_answers.specs.Lines.{Lacks, SpellsNone, ended}

-- how many messages a log may have, and so a file places
abbrev pub most_places : ℕ
most_places = 10000000

-- a message of a log may stand at this place
abbrev pub IsPlace : ℕ → Type 0
IsPlace place = place < most_places

-- the text of a file: each place in decimal, ended by a line feed
abbrev pub text_of_places : List ℕ → List ℕ
text_of_places places = ended decimal places

-- ---- a text

-- a text has these places, in this order
pub record HasPlaces (text : List ℕ) (places : List ℕ) : Type 0 where
  pub fields : AllByRecursion IsPlace places
  pub few : length places ≤ most_places
  pub spelt : text ≡ text_of_places places

-- a text begins with these places, and this rest follows them, which isn't empty
pub record BeginsWithPlaces (text : List ℕ) (places : List ℕ) (rest : List ℕ) : Type 0 where
  pub fields : AllByRecursion IsPlace places
  pub spelt : text ≡ text_of_places places ++ rest
  pub some : 0 < length rest

-- the line of this number, from 1, is the first bad one: it has a line feed, and it spells no place
pub record HasFirstBadPlace (text : List ℕ) (number : ℕ) : Type 0 where
  pub places : List ℕ
  pub line : List ℕ
  pub after : List ℕ
  pub begins : BeginsWithPlaces text places (line ++ lf ∷ after)
  pub few : length places < most_places
  pub lacks : Lacks lf line
  pub bad : SpellsNone IsPlace decimal line
  pub place : number ≡ length places + 1

-- what follows the places of a text is a line that no line feed ends
pub record BreaksOffInLine (text : List ℕ) : Type 0 where
  pub places : List ℕ
  pub rest : List ℕ
  pub begins : BeginsWithPlaces text places rest
  pub few : length places < most_places
  pub lacks : Lacks lf rest

-- something follows as many places as a file may have
pub record HasTooManyPlaces (text : List ℕ) : Type 0 where
  pub places : List ℕ
  pub rest : List ℕ
  pub begins : BeginsWithPlaces text places rest
  pub all : length places ≡ most_places

-- a text has these places and no others, and shows no fault
pub record HasOnlyPlaces (text : List ℕ) (places : List ℕ) : Type 0 where
  pub has : HasPlaces text places
  pub no_others : (others : List ℕ) → HasPlaces text others → others ≡ places
  pub none_bad : (number : ℕ) → HasFirstBadPlace text number → ⊥
  pub whole : BreaksOffInLine text → ⊥
  pub few : HasTooManyPlaces text → ⊥

-- ---- laws

-- Places that are written a line each are read back, in their order and as often as they were written.
abbrev pub PlacesAreReadBack : Type 0
PlacesAreReadBack = (places : List ℕ)
    → All IsPlace places → length places ≤ most_places → HasOnlyPlaces (text_of_places places) places
