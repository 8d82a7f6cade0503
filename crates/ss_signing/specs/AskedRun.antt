-- What the sealer of a run that signs is asked: for each block that is due for the messages of the log, once and in
-- order, up to the first that isn't signed, and nothing else. Nothing is asked after a refusal, or after the last flush.
use Rattle.std.specs.Prelude.{◌≡◌, ◌≢◌, ◌⊎◌, List, ℕ, Option, None, Result, Ok, Err}
use Rattle.ss_frame.specs.Limits.{Allowance}
use Rattle.ss_frame.specs.Watched.{Source, Sink}
use Rattle.ss_origin.specs.Asking.{Asking}
use Rattle.ss_origin.specs.Originator.{RefusesStart}
use Rattle.ss_origin.specs.declared.fault.OriginFault.{OriginFault}
use Rattle.ss_origin.specs.declared.fault.OriginFault.TheVariants.{BadConfig}
use Rattle.ss_report.specs.declared.fault.RunFault.TheVariants as run
use Rattle.ss_signing.specs.declared.fault.SignFault.{SignFault}
use Rattle.ss_signing.specs.declared.fault.SignFault.TheVariants as faults
use Rattle.ss_signing.specs.Accepted.{all_calls}
use Rattle.ss_signing.specs.Asked.{StopsCalls}
use Rattle.ss_signing.specs.Run.{Job, CanStart, ReadsWhole, SealsRun, submitted, unfit_for}

-- The log was read to its clean end, and its messages are fit. Of the calls for them, in order, some were accepted, and
-- the sealer was asked for their blocks, and then for those of the next call, up to the first that isn't signed.
pub record SealsInPart {J : Type 0} (job : Job) (asked : Asking J) (limits : Allowance) (before after : Source)
    (first last : J) : Type 0 where
  pub messages : List (List ℕ)
  pub read : ReadsWhole limits before after messages
  pub fit : unfit_for job limits messages ≡ None
  pub stops : StopsCalls job.setting job.start asked (all_calls job.start job.stamp (submitted job messages)) first last

-- no originator was made, and nothing was asked
pub record IsUnmade {J : Type 0} (job : Job) (fault : OriginFault) (place : Option ℕ) (first last : J) : Type 0 where
  pub refused : RefusesStart (CanStart job.setting job.start) fault
  pub no_place : place ≡ None
  pub same : last ≡ first

-- In a run that failed so: nothing, where it failed before the first call. An originator that was made answers no call
-- with `BadConfig`, so nothing was asked then.
abbrev pub AskedUntil : {J : Type 0} → Job → Asking J → Allowance → (before after : Source) → SignFault
    → (first last : J) → Type 0
AskedUntil job asked limits before after (faults.Run (run.Frame fault)) first last = last ≡ first
AskedUntil job asked limits before after (faults.Run (run.Review fault)) first last = last ≡ first
AskedUntil job asked limits before after (faults.Run (run.Extract fault)) first last = last ≡ first
AskedUntil job asked limits before after (faults.Run run.Write) first last =
    SealsInPart job asked limits before after first last
AskedUntil job asked limits before after (faults.Run run.Memory) first last =
    (last ≡ first) ⊎ SealsInPart job asked limits before after first last
AskedUntil job asked limits before after (faults.TornInput pos) first last = last ≡ first
AskedUntil job asked limits before after (faults.LongWrap place) first last = last ≡ first
AskedUntil job asked limits before after (faults.Origin fault place) first last =
    IsUnmade job fault place first last
    ⊎ ((fault ≢ BadConfig) × SealsInPart job asked limits before after first last)

-- whatever came of the run, from its sealer to the one that it gives back
abbrev pub AskedRun : {J X : Type 0} → Job → Asking J → Allowance → (before after : Source) → (was is : Sink)
    → (first last : J) → Result X SignFault → Type 0
AskedRun job asked limits before after was is first last (Ok x) =
    SealsRun job asked limits before after was is first last
AskedRun job asked limits before after was is first last (Err fault) =
    AskedUntil job asked limits before after fault first last
