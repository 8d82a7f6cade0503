-- What a review depends on in a message (RFC 5848, section 7): of one without a block its two hashes alone, of a block
-- its text, and of a spoilt one why it is none.
use Rattle.std.specs.Prelude.{ℕ, List, map}
use Rattle.ss_block.specs.declared.hash.HashPair.{HashPair}
use Rattle.ss_block.specs.declared.spoil.Spoil.{Spoil}
use Rattle.ss_block.specs.declared.reading.Reading.{Reading}
use Rattle.ss_block.specs.declared.reading.Reading.TheVariants as readings
use Rattle.ss_block.specs.Reading.{reading}
use Rattle.ss_block.specs.Hashes.{pair}

pub data Note : Type 0 where
  Normal : HashPair → Note
  Block : List ℕ → Note
  Spoilt : Spoil → Note

-- a message that doesn't parse is one without a block
abbrev pub noted : List ℕ → Reading → Note
noted text readings.Plain = Normal (pair text)
noted text (readings.Unparsed part pos) = Normal (pair text)
noted text (readings.Signature b) = Block text
noted text (readings.Certificate b) = Block text
noted text (readings.Spoilt cause) = Spoilt cause

unfoldable pub note : List ℕ → Note
note text = noted text (reading text)

abbrev pub notes : List (List ℕ) → List Note
notes log = map note log
