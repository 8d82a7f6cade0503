-- The text of a plan: a line for each block message, ended by LF, which says what is to be signed for it.
use Rattle.std.specs.Prelude.{ℕ, List, [], ◌++◌, codes, flat_map, Option, Some, None}
use Rattle.ss_octets.specs.StrictBase64.{base64}
use Rattle.ss_block.specs.Signed.{signed}

-- want OCTETS, with the octets in strict base64
abbrev pub want_line : List ℕ → List ℕ
want_line octets = codes "want " ++ base64 octets ++ codes "\n"

abbrev pub line_if_signed : Option (List ℕ) → List ℕ
line_if_signed (Some octets) = want_line octets
line_if_signed None = []

-- of a block message, what is signed of it; nothing of another message
unfoldable pub want_of : List ℕ → List ℕ
want_of message = line_if_signed (signed message)

-- the whole text
abbrev pub want_lines : List (List ℕ) → List ℕ
want_lines messages = flat_map want_of messages
