-- The octets with which the element of a block begins in a text (RFC 5424, section 6.3): `[` and an SD-ID, which is
-- `ssign` or `ssign-cert` (RFC 5848, sections 4.2 and 5.3.2).
use Rattle.std.specs.Prelude.{◌≡◌, ℕ, Bool, true, false, List, ◌++◌, codes}
use Rattle.ss_block.specs.declared.reading.Reading.{Reading}
use Rattle.ss_block.specs.declared.reading.Reading.TheVariants.{Plain, Unparsed, Signature, Certificate, Spoilt}
use Rattle.ss_block.specs.Reading.{reading}

-- `[ssign` stands somewhere in a text
pub record HoldsMark (t : List ℕ) : Type 0 where
  pub front : List ℕ
  pub back : List ℕ
  pub is : t ≡ front ++ (codes "[ssign" ++ back)

-- a message that has the element of a block, spoilt or not
abbrev pub has_block_element : Reading → Bool
has_block_element Plain = false
has_block_element (Unparsed part pos) = false
has_block_element (Signature b) = true
has_block_element (Certificate b) = true
has_block_element (Spoilt cause) = true

-- the text of each message that has the element of a block holds `[ssign`
abbrev pub BlocksAreMarked : Type 0
BlocksAreMarked = (t : List ℕ) → has_block_element (reading t) ≡ true → HoldsMark t
