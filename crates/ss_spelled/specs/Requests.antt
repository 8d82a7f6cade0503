-- The lines that are answered: fragments, and the question what they spell.
use Rattle.std.specs.Prelude.{ℕ, List, take, drop, length, codes, nat_le, Option, Some, None, if◌then◌else◌}
use Rattle.std.specs.Str.{bytes_eq}
use Rattle.ss_octets.specs.Ascii.{sp}
use Rattle.ss_octets.specs.Cut.{parts_at}
use Rattle.ss_octets.specs.Number.{number_in}
use Rattle.ss_octets.specs.StrictBase64.{octets_in}
use Rattle.ss_spelled.specs.declared.fragment.Fragment.{Fragment}
use Rattle.ss_spelled.specs.declared.request.Request.{Request}
use Rattle.ss_spelled.specs.declared.request.Request.TheVariants.{Keep, Answer}

-- what follows a beginning, where a text begins so
abbrev pub after : (beginning text : List ℕ) → Option (List ℕ)
after beginning text =
    if bytes_eq (take (length beginning) text) beginning then Some (drop (length beginning) text) else None

-- a fragment has at most 9,999 octets
abbrev pub with_octets : (total index : ℕ) → Option (List ℕ) → Option Fragment
with_octets total index (Some octets) =
    if nat_le (length octets) 9999 then Some (record { total = total; index = index; octets = octets }) else None
with_octets total index None = None

abbrev pub with_index : (total : ℕ) → Option ℕ → (octets : List ℕ) → Option Fragment
with_index total (Some index) octets = with_octets total index (octets_in octets)
with_index total None octets = None

abbrev pub with_total : Option ℕ → (index octets : List ℕ) → Option Fragment
with_total (Some total) index octets = with_index total (number_in 1 99999999 index) octets
with_total None index octets = None

-- the fragment of three words: two numbers from 1 to 99,999,999, and octets in strict base64
abbrev pub fragment_of : (total index octets : List ℕ) → Option Fragment
fragment_of total index octets = with_total (number_in 1 99999999 total) index octets

abbrev pub fragment_from : (total : List ℕ) → Option (List ℕ × List ℕ) → Option Fragment
fragment_from total (Some parts) = fragment_of total parts.0 parts.1
fragment_from total None = None

abbrev pub fragment_within : Option (List ℕ × List ℕ) → Option Fragment
fragment_within (Some parts) = fragment_from parts.0 (parts_at sp parts.1)
fragment_within None = None

-- three words, with SP between them
abbrev pub fragment_in : List ℕ → Option Fragment
fragment_in words = fragment_within (parts_at sp words)

abbrev pub kept : Option Fragment → Option Request
kept (Some fragment) = Some (Keep fragment)
kept None = None

abbrev pub request_after : Option (List ℕ) → Option Request
request_after (Some words) = kept (fragment_in words)
request_after None = None

-- `spell`, or `fragment TOTAL INDEX OCTETS`; none for a line of another form
abbrev pub request : List ℕ → Option Request
request line =
    if bytes_eq line (codes "spell") then Some Answer else request_after (after (codes "fragment ") line)
