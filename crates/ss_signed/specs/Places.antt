-- Where SIGN is put.
use Rattle.std.specs.Prelude.{◌≡◌, ◌≤◌, ◌+◌, ℕ, List, [], ◌∷◌, ◌++◌, length, take, drop, codes, Option, Some, None}
use Rattle.std.specs.Prelude.{if◌then◌else◌}
use Rattle.ss_message.specs.declared.message.Parameter.{Parameter}
use Rattle.ss_message.specs.declared.message.Element.{Element}
use Rattle.ss_message.specs.declared.message.Message.{Message}
use Rattle.ss_message.specs.Octets.{part_of}
use Rattle.ss_message.specs.Message.{text}
use Rattle.ss_message.specs.Layout.{value_of}
use Rattle.ss_block.specs.Signed.{is_block_id}
use Rattle.ss_signed.specs.Completed.{completed_value}

-- the first element named `ssign` or `ssign-cert`
abbrev pub first_block : List ℕ → List Element → Option Element
first_block source [] = None
first_block source (e ∷ es) = if is_block_id (part_of source e.id) then Some e else first_block source es

-- the octet after the last of these parameters, or the first of these positions
abbrev pub end_from : ℕ → List Parameter → ℕ
end_from pos [] = pos
end_from pos (p ∷ ps) = end_from (p.value.end + 1) ps

-- where the `]` of an element stands
abbrev pub end_of : Element → ℕ
end_of e = end_from e.id.end e.parameters

-- SP and SIGN, as they stand in a text
abbrev pub sign_text : List ℕ
sign_text = codes " SIGN=\"AA==\""

-- octets with SIGN at a place
abbrev pub completed_text : List ℕ → ℕ → List ℕ
completed_text octets place = take place octets ++ sign_text ++ drop place octets

-- with SIGN at this place the octets are the text of the completed message
pub record IsSignPlace (m : Message) (place : ℕ) : Type 0 where
  pub within : place ≤ length m.source.now
  pub spelled : completed_text m.source.now place ≡ text (completed_value (value_of m))
