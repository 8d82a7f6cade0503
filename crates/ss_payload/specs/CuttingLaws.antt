-- What holds of the pieces of a text.
use Rattle.std.specs.Prelude.{◌≡◌, ℕ, ◌+◌, ◌<◌, ◌≤◌, List}
use Rattle.std.specs.List.{Contains}
use Rattle.ss_payload.specs.declared.cuts.Cut.{Cut}
use Rattle.ss_payload.specs.Cuts.{AreCuts}

-- a piece lies within the octets that are cut, and has 1 to `size` of them
pub record LiesWithin (octets size : ℕ) (c : Cut) : Type 0 where
  pub some_index : 1 ≤ c.index
  pub end : c.index + c.len ≤ octets + 1
  pub some_octet : 1 ≤ c.len
  pub at_most : c.len ≤ size

-- the piece has the octet at an index
abbrev pub HasIndex : Cut → ℕ → Type 0
HasIndex c index = (c.index ≤ index) × (index < c.index + c.len)

-- each piece lies within
abbrev pub PiecesLieWithin : Type 0
PiecesLieWithin =
    (octets size : ℕ) (cuts : List Cut) (c : Cut) → 1 ≤ size → AreCuts octets size cuts → Contains cuts c
    → LiesWithin octets size c

-- each index has its piece
abbrev pub PiecesCover : Type 0
PiecesCover =
    (octets size : ℕ) (cuts : List Cut) (index : ℕ) → 1 ≤ size → AreCuts octets size cuts → 1 ≤ index → index ≤ octets
    → (c : Cut) × Contains cuts c × HasIndex c index

-- and no second one
abbrev pub PiecesAreApart : Type 0
PiecesAreApart =
    (octets size : ℕ) (cuts : List Cut) (c d : Cut) (index : ℕ) → 1 ≤ size → AreCuts octets size cuts → Contains cuts c
    → Contains cuts d → HasIndex c index → HasIndex d index → c ≡ d
