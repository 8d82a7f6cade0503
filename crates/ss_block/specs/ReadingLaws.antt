-- What holds for every text.
use Rattle.std.specs.Prelude.{◌≡◌, ℕ, Bool, true, false, List, is_some}
use Rattle.ss_message.specs.declared.fault.Part.{Part}
use Rattle.ss_message.specs.Message.{MessageValue, IsMessage, text}
use Rattle.ss_message.specs.Faults.{FailsAt}
use Rattle.ss_block.specs.declared.reading.Reading.{Reading}
use Rattle.ss_block.specs.declared.reading.Reading.TheVariants.{Plain, Unparsed, Signature, Certificate, Spoilt}
use Rattle.ss_block.specs.Block as block
use Rattle.ss_block.specs.Reading.{value_reading, reading}
use Rattle.ss_block.specs.Session.{session}
use Rattle.ss_block.specs.Signed.{signed}

-- the text of a message is read as what its value is, and what is read as no message is the text of no value
abbrev pub ReadingsAreOfValues : Type 0
ReadingsAreOfValues =
    ((t : List ℕ) (v : MessageValue) → IsMessage v → t ≡ text v → reading t ≡ value_reading v)
    × ((t : List ℕ) (part : Part) (pos : ℕ) → reading t ≡ Unparsed part pos → (v : MessageValue) → IsMessage v
    → t ≡ text v → ⊥)

-- what is read as no message fails there, by the row of the table of faults for that part, and what fails so is read so
abbrev pub UnparsedTextsFail : Type 0
UnparsedTextsFail =
    ((t : List ℕ) (part : Part) (pos : ℕ) → reading t ≡ Unparsed part pos → FailsAt part t pos)
    × ((t : List ℕ) (part : Part) (pos : ℕ) → FailsAt part t pos → reading t ≡ Unparsed part pos)

-- a block that is read is in the ranges of one
abbrev pub BlocksAreInRange : Type 0
BlocksAreInRange =
    ((t : List ℕ) (b : block.Signature) → reading t ≡ Signature b → block.IsSignature b)
    × ((t : List ℕ) (b : block.Certificate) → reading t ≡ Certificate b → block.IsCertificate b)

-- a signature block or a certificate block
abbrev pub is_block : Reading → Bool
is_block Plain = false
is_block (Unparsed part pos) = false
is_block (Signature b) = true
is_block (Certificate b) = true
is_block (Spoilt cause) = false

-- a text has signed octets and a session exactly where it is a block
abbrev pub BlocksAreSigned : Type 0
BlocksAreSigned =
    (t : List ℕ) → (is_some (signed t) ≡ is_block (reading t)) × (is_some (session t) ≡ is_block (reading t))
