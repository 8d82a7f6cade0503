-- The lines that are answered: what `ssign plan` wants to have signed, and what `ssign questions` asks.
use Rattle.std.specs.Prelude.{ℕ, List, [], take, drop, length, codes, Option, Some, None, if◌then◌else◌, is_some}
use Rattle.std.specs.Str.{bytes_eq}
use Rattle.ss_octets.specs.Ascii.{sp}
use Rattle.ss_octets.specs.Cut.{parts_at}
use Rattle.ss_octets.specs.StrictBase64.{octets_in}
use Rattle.ss_signed.specs.Described.{described}
use Rattle.ss_signed.specs.Object.{object_of}

-- what follows a beginning, where a text begins so
abbrev pub after : (beginning text : List ℕ) → Option (List ℕ)
after beginning text =
    if bytes_eq (take (length beginning) text) beginning then Some (drop (length beginning) text) else None

-- the word before the only SP of a text
abbrev pub first_of_two : Option (List ℕ × List ℕ) → Option (List ℕ)
first_of_two (Some parts) = if is_some (parts_at sp parts.1) then None else Some parts.0
first_of_two None = None

-- the word between the two SPs of a text
abbrev pub second_of_three : Option (List ℕ × List ℕ) → Option (List ℕ)
second_of_three (Some parts) = first_of_two (parts_at sp parts.1)
second_of_three None = None

-- what the octets say that a word spells in strict base64; none if it spells none
abbrev pub answer_to_octets : Option (List ℕ) → Option (List ℕ)
answer_to_octets (Some octets) = Some (object_of (described octets))
answer_to_octets None = None

abbrev pub answer_to_word : Option (List ℕ) → Option (List ℕ)
answer_to_word (Some word) = answer_to_octets (octets_in word)
answer_to_word None = None

-- a question about a payload is passed over
abbrev pub answer_to_trust : Option (List ℕ) → Option (List ℕ)
answer_to_trust (Some payload) = Some []
answer_to_trust None = None

-- `yes? PAYLOAD OCTETS SIGNATURE`: of the payload and the signature only the SP between them is looked at
abbrev pub answer_to_question : Option (List ℕ) → (line : List ℕ) → Option (List ℕ)
answer_to_question (Some words) line = answer_to_word (second_of_three (parts_at sp words))
answer_to_question None line = answer_to_trust (after (codes "trust? ") line)

-- `want OCTETS`
abbrev pub answer_to_want : Option (List ℕ) → (line : List ℕ) → Option (List ℕ)
answer_to_want (Some word) line = answer_to_word (Some word)
answer_to_want None line = answer_to_question (after (codes "yes? ") line) line

-- what is written about a line, which is given without its LF; none for a line of another form
unfoldable pub answer_to : List ℕ → Option (List ℕ)
answer_to line = answer_to_want (after (codes "want ") line) line
