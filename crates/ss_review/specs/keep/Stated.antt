-- What a certificate block states of a payload (RFC 5848, section 5.3.2).
use Rattle.std.specs.Prelude.{◌≡◌, Option, Some, None}
use Rattle.ss_block.specs.Block as block
use Rattle.ss_block.specs.Meanings.{octets_of}
use Rattle.ss_review.specs.declared.keep.kept_block.Stated.{Stated}

-- this is stated by the block, which is in its ranges
pub record States (s : Stated) (c : block.Certificate) : Type 0 where
  pub total : s.total ≡ c.total
  pub index : s.index ≡ c.index
  pub fragment : octets_of s.fragment ≡ c.fragment
  pub valid : block.IsCertificate c

-- some certificate block states this
abbrev pub IsOfBlock : Stated → Type 0
IsOfBlock s = (c : block.Certificate) × States s c

abbrev pub IsStated : Option Stated → Option block.Certificate → Type 0
IsStated (Some s) (Some c) = States s c
IsStated None None = Unit {0}
IsStated (Some s) None = ⊥
IsStated None (Some c) = ⊥
