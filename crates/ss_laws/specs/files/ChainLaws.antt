-- What a chain of signed files shows.
use Rattle.std.specs.Prelude.{◌≡◌, ◌⊎◌, ℕ, List, ◌∷◌, Contains}
use Rattle.std.specs.List.{AllByRecursion}
use Rattle.ss_laws.specs.files.Files.{SignedFile, Naming, AreLinked, GoBackToTheFirst}
use Rattle.ss_laws.specs.files.Files.{HaveOneNewest, GoesOn, AreTheSame, ShareASum}
use Rattle.ss_laws.specs.files.Links.{Check, HasLink}

-- a file has one link at most
abbrev pub LinksAreOne : Type 0
LinksAreOne = (c : Check) (octets link other : List ℕ) → HasLink c octets link → HasLink c octets other → link ≡ other

-- Each file has its link, and each link but the oldest file's names the SHA-256 of the file before. Nothing else is asked
-- of the files: they may have findings.
pub record IsChain (c : Check) (names : Naming) (files : List SignedFile) : Type 0 where
  pub links : AllByRecursion (λ f. HasLink c f.octets f.link) files
  pub linked : AreLinked names files

-- If the newest files have one link, the files before are the same, or two of them share a sum. Of the newest files nothing
-- else is asked.
abbrev pub FilesBeforeAreOne : Type 0
FilesBeforeAreOne = (c : Check) (names : Naming) (f g : SignedFile) (fs gs : List SignedFile)
    → IsChain c names (f ∷ fs) → IsChain c names (g ∷ gs) → f.link ≡ g.link
    → AreTheSame fs gs ⊎ ShareASum fs gs

-- if the newest files have one SHA-256, the chains are the same, or two files share a sum
abbrev pub ChainsAreOne : Type 0
ChainsAreOne = (c : Check) (names : Naming) (fs gs : List SignedFile)
    → IsChain c names fs → IsChain c names gs → HaveOneNewest fs gs
    → AreTheSame fs gs ⊎ ShareASum fs gs

-- ---- what was signed, and what a folder has

-- The folder has each file that was signed, octet for octet, and the walk goes over them in their order. It goes over no
-- other file if the oldest one that was signed is the first of the chain.
pub record HasAllThatWasSigned (names : Naming) (folder : List (List ℕ)) (signed walked : List SignedFile) : Type 0 where
  pub there : (f : SignedFile) → Contains signed f → Contains folder f.octets
  pub in_order : GoesOn signed walked
  pub no_other : GoBackToTheFirst names signed → walked ≡ signed

-- The walk goes over files of the folder, from the newest one that was signed back to a first file.
abbrev pub NothingIsMissing : Type 0
NothingIsMissing = (c : Check) (names : Naming) (folder : List (List ℕ)) (signed walked : List SignedFile)
    → IsChain c names signed → IsChain c names walked
    → ((f : SignedFile) → Contains walked f → Contains folder f.octets) → GoBackToTheFirst names walked
    → HaveOneNewest signed walked
    → HasAllThatWasSigned names folder signed walked ⊎ ShareASum signed walked
