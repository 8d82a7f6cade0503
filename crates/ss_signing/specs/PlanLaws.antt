-- A plan's lines are the signed octets of what is emitted where the same messages are signed.
use Rattle.std.specs.Prelude.{◌≡◌, ℕ, List, [], ◌∷◌, replicate, flat_map, Option, Some, None}
use Rattle.ss_message.specs.Stamp.{Moment}
use Rattle.ss_block.specs.Signed.{signed}
use Rattle.ss_origin.specs.Counting.{Start}
use Rattle.ss_origin.specs.Setting.{Setting}
use Rattle.ss_signing.specs.Accepted.{all_calls, Accepts}
use Rattle.ss_signing.specs.Wants.{want_line, want_lines}
use Rattle.ss_signing.specs.Jobs.{planned}

abbrev pub octets_if_signed : Option (List ℕ) → List (List ℕ)
octets_if_signed (Some octets) = octets ∷ []
octets_if_signed None = []

-- what is signed of the block messages among these, in order
abbrev pub signed_among : List (List ℕ) → List (List ℕ)
signed_among messages = flat_map (λ m. octets_if_signed (signed m)) messages

-- The first messages were emitted where a log is signed, the second where a plan is made. The plan's lines have, in
-- order, the signed octets of the block messages among the second. Those among the first have the same octets, in the
-- same order: each block counts once, and is sent `copies` times in a row.
pub record IsPlanOf (copies : ℕ) (emitted for_plan : List (List ℕ)) : Type 0 where
  pub lines : want_lines for_plan ≡ flat_map want_line (signed_among for_plan)
  pub signed : signed_among emitted ≡ flat_map (λ octets. replicate copies octets) (signed_among for_plan)

-- Both runs had the same calls accepted: the same messages with the same stamp. The payload is the same, and so is the
-- configuration, but that a plan has `copies` 1, and where the originators started. The schemes and the sealers' answers
-- are any.
abbrev pub PlansTellWhatIsSigned : Type 0
PlansTellWhatIsSigned = (s : Setting) (start : Start) (stamp : Option Moment)
    (messages emitted for_plan : List (List ℕ))
    → let calls = all_calls start stamp messages in
    Accepts s start calls emitted → Accepts (planned s.config s.payload) start calls for_plan
    → IsPlanOf s.config.copies emitted for_plan
