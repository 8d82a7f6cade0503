-- What holds of all payload blocks.
use Rattle.std.specs.Prelude.{◌≡◌, ◌≤◌, Some, length}
use Rattle.std.specs.Str.{IsAscii}
use Rattle.ss_payload.specs.Payload.{PayloadValue, IsPayload, payload_text}
use Rattle.ss_payload.specs.PayloadReading.{payload_in}

-- the text of a payload block is ASCII
abbrev pub TextsAreAscii : Type 0
TextsAreAscii = (p : PayloadValue) → IsAscii (payload_text p)

-- and has three octets at least
abbrev pub TextsHaveOctets : Type 0
TextsHaveOctets = (p : PayloadValue) → 3 ≤ length (payload_text p)

-- and is read as the payload
abbrev pub TextsAreRead : Type 0
TextsAreRead = (p : PayloadValue) → IsPayload p → payload_in (payload_text p) ≡ Some p
