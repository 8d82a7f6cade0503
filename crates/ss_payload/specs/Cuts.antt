-- The pieces in which a payload block is sent (RFC 5848, section 5.3.2).
use Rattle.std.specs.Prelude.{◌≡◌, ℕ, ◌+◌, ◌-◌, ◌≤◌, List, [], ◌∷◌, ◌++◌, take, drop}
use Rattle.std.specs.List.{sum_by}
use Rattle.ss_payload.specs.declared.cuts.Cut.{Cut}

-- how many octets the pieces have
abbrev pub octet_count : List Cut → ℕ
octet_count cuts = sum_by (λ c. c.len) cuts

-- The pieces of a text of so many octets: they follow one another from index 1 to its end, each of `size`
-- octets, except a last one that may be shorter.
pub record AreCuts (octets size : ℕ) (cuts : List Cut) : Type 0 where
  pub follow : (before : List Cut) (c : Cut) (after : List Cut) → cuts ≡ before ++ c ∷ after
      → c.index ≡ 1 + octet_count before
  pub end : octet_count cuts ≡ octets
  pub full : (before : List Cut) (c next : Cut) (after : List Cut) → cuts ≡ before ++ c ∷ next ∷ after → c.len ≡ size
  pub last : (before : List Cut) (c : Cut) → cuts ≡ before ++ c ∷ [] → (1 ≤ c.len) × (c.len ≤ size)

-- the octets of a piece
abbrev pub piece_of : List ℕ → Cut → List ℕ
piece_of text c = take c.len (drop (c.index - 1) text)
