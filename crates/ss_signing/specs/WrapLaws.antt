-- What holds of a run in which messages are wrapped.
use Rattle.std.specs.Prelude.{◌≡◌, ◌≢◌, true, ℕ, List, map, Option}
use Rattle.ss_message.specs.Message.{is_timestamp}
use Rattle.ss_message.specs.Stamp.{Moment}
use Rattle.ss_frame.specs.declared.limits.Form.{Form}
use Rattle.ss_frame.specs.Limits.{Allowance}
use Rattle.ss_frame.specs.Watched.{Source}
use Rattle.ss_payload.specs.Payload.{PayloadValue}
use Rattle.ss_block.specs.Head.{HeadValue, IsHead}
use Rattle.ss_origin.specs.declared.config.Config.{Config}
use Rattle.ss_origin.specs.declared.fault.OriginFault.{OriginFault}
use Rattle.ss_origin.specs.declared.fault.OriginFault.TheVariants.{HasBlock, NotSyslog}
use Rattle.ss_origin.specs.Counting.{Start}
use Rattle.ss_origin.specs.Sealing.{Answers}
use Rattle.ss_origin.specs.Setting.{Setting}
use Rattle.ss_wrap.specs.Wrap.{unwrapped}
use Rattle.ss_signing.specs.Jobs.{going_ahead, planning_from, signing_from}
use Rattle.ss_signing.specs.Prepared.{prepared_for}
use Rattle.ss_signing.specs.Run.{Job, IsRefused}

-- no message is refused as none of RFC 5424 (O2) or for a block element (O3), whatever its octets are
abbrev pub TakesEach : Job → Type 0
TakesEach job = (limits : Allowance) (before after : Source) (place : Option ℕ) (fault : OriginFault)
    → IsRefused job limits before after place fault → (fault ≢ NotSyslog) × (fault ≢ HasBlock)

-- So it is where a log is signed, whatever its sealer may answer,
abbrev pub SigningTakesEach : {J : Type 0} → (J → Answers) → Type 0
SigningTakesEach {J} answers = (sealer : J) (start : Start) (s : Setting) (stamp : Option Moment) (out : Form)
    → is_timestamp stamp ≡ true → TakesEach (signing_from start s (answers sealer) stamp true out)

-- where it is planned,
abbrev pub PlanningTakesEach : Type 0
PlanningTakesEach = (start : Start) (config : Config) (payload : PayloadValue) (stamp : Option Moment)
    → is_timestamp stamp ≡ true → TakesEach (planning_from start config payload stamp true)

-- and where the counters are wanted with which the signed log will end.
abbrev pub AheadTakesEach : Type 0
AheadTakesEach = (start : Start) (config : Config) (payload : PayloadValue) (stamp : Option Moment)
    → is_timestamp stamp ≡ true → TakesEach (going_ahead start config payload stamp true)

-- what is signed for the messages of a log gives back exactly these messages
abbrev pub MessagesComeBack : Type 0
MessagesComeBack = (h : HeadValue) (stamp : Option Moment) (messages : List (List ℕ)) → IsHead h
    → is_timestamp stamp ≡ true → map unwrapped (prepared_for true h stamp messages) ≡ messages
