-- Lists of signed files, the newest first (docs/dev/FORMATS.md, "A chain").
use Rattle.std.specs.Prelude.{◌≡◌, ◌≢◌, ◌⊎◌, ℕ, List, [], ◌∷◌, ◌++◌, slice_get, Option, Some, None}
use Rattle.sha2.specs.Sha256.{sha256}

-- the octets of a signed file, and the text of its link
pub record SignedFile : Type 0 where
  pub octets : List ℕ
  pub link : List ℕ

-- ---- what links name

-- The SHA-256 that the text of a link names for the file before, or none in the first file of a chain. How texts are read
-- is left open, but it is one way for all links.
abbrev pub Naming : Type 0
Naming = List ℕ → Option (List ℕ)

-- each link but that of the oldest file names the SHA-256 of the file before
abbrev pub AreLinked : Naming → List SignedFile → Type 0
AreLinked names [] = Unit {0}
AreLinked names (f ∷ []) = Unit {0}
AreLinked names (f ∷ g ∷ fs) = (names f.link ≡ Some (sha256 g.octets)) × AreLinked names (g ∷ fs)

-- the oldest file is the first of a chain: its link names no file before
abbrev pub GoBackToTheFirst : Naming → List SignedFile → Type 0
GoBackToTheFirst names [] = ⊥
GoBackToTheFirst names (f ∷ []) = names f.link ≡ None
GoBackToTheFirst names (f ∷ g ∷ fs) = GoBackToTheFirst names (g ∷ fs)

-- ---- two lists

-- the newest files of both have one SHA-256, if both have a file
abbrev pub HaveOneNewest : List SignedFile → List SignedFile → Type 0
HaveOneNewest [] gs = Unit {0}
HaveOneNewest (f ∷ fs) [] = Unit {0}
HaveOneNewest (f ∷ fs) (g ∷ gs) = sha256 f.octets ≡ sha256 g.octets

-- the second list has all files of the first one, in the same places, and then maybe older ones
abbrev pub GoesOn : List SignedFile → List SignedFile → Type 0
GoesOn fs gs = (older : List SignedFile) × (gs ≡ fs ++ older)

-- the files are the same, one by one, up to the end of the shorter list
abbrev pub AreTheSame : List SignedFile → List SignedFile → Type 0
AreTheSame fs gs = GoesOn fs gs ⊎ GoesOn gs fs

-- at one place of both stand two files with different octets and one SHA-256
pub record ShareASum (fs gs : List SignedFile) : Type 0 where
  pub place : ℕ
  pub one : SignedFile
  pub other : SignedFile
  pub one_is : slice_get fs place ≡ Some one
  pub other_is : slice_get gs place ≡ Some other
  pub differ : one.octets ≢ other.octets
  pub same_sum : sha256 one.octets ≡ sha256 other.octets
