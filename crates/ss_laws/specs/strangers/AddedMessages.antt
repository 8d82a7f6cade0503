-- Messages that strangers add to a log, anywhere in it.
use Rattle.std.specs.Prelude.{◌≡◌, ◌⊎◌, ℕ, List, [], ◌∷◌, Contains, Some}
use Rattle.ss_review.specs.keep.BlockMessage.{BlockMessage}
use Rattle.ss_review.specs.keep.Contents.{block_in, contents}
use Rattle.ss_review.specs.keep.Notes.{notes}
use Rattle.ss_review.specs.sessions.Verified.{Answers}
use Rattle.ss_laws.specs.strangers.Strangers.{IsForeign, HasMore}

-- The second log is the first one with messages added that may be added, each of them anywhere.
abbrev pub IsWith : (List ℕ → Type 0) → List (List ℕ) → List (List ℕ) → Type 0
IsWith may log [] = log ≡ []
IsWith may log (m ∷ more) =
    ((rest : List (List ℕ)) × (log ≡ m ∷ rest) × IsWith may rest more) ⊎ (may m × IsWith may log more)

-- Whoever holds no key of a trusted payload may add a copy of a message of the log, and any message whose block is
-- foreign, if it has one. A message without a block, and a spoilt one, has none.
abbrev pub MayBeAdded : Answers → List (List ℕ) → List ℕ → Type 0
MayBeAdded says log m =
    Contains log m ⊎ ((place : ℕ) (b : BlockMessage) → block_in place m ≡ Some b → IsForeign says b)

-- Such a log has what the first one has, and more.
abbrev pub AddedAnywhere : Type 0
AddedAnywhere = (says : Answers) (log more : List (List ℕ)) → IsWith (MayBeAdded says log) log more
    → HasMore says (contents (notes log)) (contents (notes more))
