-- The fragments of a payload, and what they state together (RFC 5848, section 5.3.2).
use Rattle.std.specs.Prelude.{◌≡◌, ℕ, ◌+◌, ◌<◌, List, length, slice_index, fold}
use Rattle.ss_payload.specs.declared.cuts.Cut.{Cut}
use Rattle.ss_payload.specs.Cuts.{piece_of}
use Rattle.ss_payload.specs.Joining.{Stated, nothing_stated, with_fragment}

-- a fragment: how many octets the payload has, and octets of it from an index on
pub record Fragment : Type 0 where
  pub total : ℕ
  pub index : ℕ
  pub octets : List ℕ

-- what fragments state together
abbrev pub stated_by : List Fragment → Stated
stated_by fragments = fold (λ s f. with_fragment s f.total f.index f.octets) nothing_stated fragments

-- the fragment has this octet at this index
abbrev pub States : Fragment → ℕ → ℕ → Type 0
States f index octet = (j : ℕ) × (j < length f.octets) × (f.index + j ≡ index) × (slice_index f.octets j ≡ octet)

-- the fragment that a piece of a text is sent in
abbrev pub fragment_of : List ℕ → Cut → Fragment
fragment_of text c = record { total = length text; index = c.index; octets = piece_of text c }
