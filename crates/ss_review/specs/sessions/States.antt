-- The state of a session, by what its certificate blocks state together.
use Rattle.std.specs.Prelude.{◌≡◌, ℕ, ◌+◌, ◌<◌, ◌≤◌, true, false, List, length, Contains, map, None, Some}
use Rattle.std.specs.FinSet as set
use Rattle.ss_block.specs.Block as block
use Rattle.ss_block.specs.Joining.{Stated, IsDisputed, HasGap, IsPayload}
use Rattle.ss_block.specs.Payload.{PayloadValue}
use Rattle.ss_block.specs.PayloadReading.{payload_in}
use Rattle.ss_review.specs.declared.report.session_report.SessionState.{SessionState}
use Rattle.ss_review.specs.declared.report.session_report.SessionState.TheVariants as states
use Rattle.ss_review.specs.keep.BlockMessage.{BlockMessage, Fragment}
use Rattle.ss_review.specs.sessions.Payloads.{certificates, octets}
use Rattle.ss_review.specs.sessions.Verified.{Answers}

-- the totals, and the octets with their indexes, of all of these fragments
unfoldable pub stated_by : List block.Certificate → Stated
stated_by cs = record { totals = set.from_list (map (λ c. c.total) cs); octets = set.from_list (octets cs) }

-- one text is stated: no two totals, no two octets at one index, and an octet at each index up to the total
pub record StatesText (stated : Stated) (text : List ℕ) : Type 0 where
  pub undisputed : ¬ IsDisputed stated
  pub gapless : ¬ HasGap stated
  pub text_is : IsPayload stated text

-- a certificate block that is valid under the payload has an octet at the index
pub record HasValidOctet (says : Answers) (bs : List BlockMessage) (payload : List ℕ) (index : ℕ) : Type 0 where
  pub message : BlockMessage
  pub stored : Contains bs message
  pub said : block.Certificate
  pub says_so : message.said ≡ Fragment said
  pub valid : says.valid payload message.signed said.signature ≡ true
  pub from : said.index ≤ index
  pub to : index < said.index + length said.fragment

-- there is one at each index of the payload
abbrev pub IsCovered : Answers → List BlockMessage → List ℕ → Type 0
IsCovered says bs payload = (index : ℕ) → 1 ≤ index → index ≤ length payload → HasValidOctet says bs payload index

-- the text is a payload block
abbrev pub IsPayloadBlock : List ℕ → Type 0
IsPayloadBlock text = (value : PayloadValue) × (payload_in text ≡ Some value)

-- The session of these blocks is joined under the text: it is the one text that they state, it is a payload block, it
-- is trusted, and the blocks that are valid under it cover it.
abbrev pub IsJoinedUnder : Answers → List BlockMessage → List ℕ → Type 0
IsJoinedUnder says bs text =
    StatesText (stated_by (certificates bs)) text
    × IsPayloadBlock text
    × (says.trusted text ≡ true)
    × IsCovered says bs text

-- the session of these blocks is in the state
abbrev pub IsInState : Answers → List BlockMessage → SessionState → Type 0
IsInState says bs states.Disputed = IsDisputed (stated_by (certificates bs))
IsInState says bs states.Incomplete =
    (¬ IsDisputed (stated_by (certificates bs))) × HasGap (stated_by (certificates bs))
IsInState says bs states.Malformed =
    (text : List ℕ) × StatesText (stated_by (certificates bs)) text × (payload_in text ≡ None)
IsInState says bs states.Untrusted =
    (text : List ℕ) × StatesText (stated_by (certificates bs)) text × IsPayloadBlock text × (says.trusted text ≡ false)
IsInState says bs states.Unaccepted =
    (text : List ℕ) × StatesText (stated_by (certificates bs)) text × IsPayloadBlock text × (says.trusted text ≡ true)
    × (¬ IsCovered says bs text)
IsInState says bs states.Joined = (text : List ℕ) × IsJoinedUnder says bs text
