-- What the inner functions keep of a log that was read and prepared.
use Rattle.std.specs.Prelude.{◌≡◌, ℕ, Bool, false, List, Option, None}
use Rattle.ss_message.specs.Stamp.{Moment}
use Rattle.ss_frame.specs.Limits.{Allowance}
use Rattle.ss_frame.specs.Watched.{Source}
use Rattle.ss_frame.specs.declared.limits.Form.{Form}
use Rattle.ss_block.specs.Head.{HeadValue}
use Rattle.ss_report.specs.declared.fault.RunFault.TheVariants as run
use Rattle.ss_report.specs.log.Log.{StopsLog, plainly}
use Rattle.ss_signing.specs.declared.fault.SignFault.{SignFault}
use Rattle.ss_signing.specs.declared.fault.SignFault.TheVariants as faults
use Rattle.ss_signing.specs.Prepared.{prepared_for, unfit}
use Rattle.ss_signing.specs.Run.{IsTorn, IsUnfit, ReadsWhole}

-- the log was read to its clean end, its messages are fit, and these are signed for it
pub record ReadsPrepared (form : Form) (wraps : Bool) (h : HeadValue) (stamp : Option Moment) (limits : Allowance)
    (before after : Source) (prepared : List (List ℕ)) : Type 0 where
  pub messages : List (List ℕ)
  pub read : ReadsWhole limits before after messages
  pub fit : unfit form wraps h stamp limits.max_len messages ≡ None
  pub prepared_are : prepared ≡ prepared_for wraps h stamp messages

-- why nothing is signed for a log, before an originator is made
abbrev pub StopsPreparing : Form → (wraps : Bool) → HeadValue → Option Moment → Allowance → (before after : Source)
    → SignFault → Type 0
StopsPreparing form wraps h stamp limits before after (faults.Run (run.Frame fault)) = StopsLog (plainly limits) before after fault
StopsPreparing form wraps h stamp limits before after (faults.Run (run.Review fault)) = ⊥
StopsPreparing form wraps h stamp limits before after (faults.Run (run.Extract fault)) =
    IsUnfit form wraps h stamp limits before after (faults.Run (run.Extract fault))
StopsPreparing form wraps h stamp limits before after (faults.Run run.Write) = ⊥
StopsPreparing form wraps h stamp limits before after (faults.Run run.Memory) = after.failed ≡ false
StopsPreparing form wraps h stamp limits before after (faults.TornInput pos) = IsTorn limits before after pos
StopsPreparing form wraps h stamp limits before after (faults.LongWrap place) =
    IsUnfit form wraps h stamp limits before after (faults.LongWrap place)
StopsPreparing form wraps h stamp limits before after (faults.Origin fault place) = ⊥
