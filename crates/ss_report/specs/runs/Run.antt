-- What a run over a log does, from octets to octets.
use Rattle.std.specs.Prelude.{◌≡◌, ℕ, Bool, false, List, Option, Some, None, option_map}
use Rattle.std.specs.Borrow.{Bor}
use Rattle.ss_frame.specs.Watched.{Source, Sink}
use Rattle.ss_frame.specs.Output.{WritesWhole, WritesPrefix}
use Rattle.ss_report.specs.declared.log.read_options.ReadOptions.{ReadOptions}
use Rattle.ss_report.specs.declared.log.ending.Ending.{Ending}
use Rattle.ss_report.specs.log.Log.{ReadsLog, StopsRun}
use Rattle.ss_report.specs.declared.runs.extraction.ExtractFault.{ExtractFault}
use Rattle.ss_report.specs.declared.fault.RunFault.{RunFault}
use Rattle.ss_report.specs.declared.fault.RunFault.TheVariants as run
use Rattle.ss_report.specs.declared.verdict.verdict.Verdict.{Verdict}

-- what a run makes of the messages and the ending of a log, whether it reviews them, and what of them it refuses
pub record Job : Type 0 where
  pub output : List (List ℕ) → Ending → List ℕ
  pub verdict : List (List ℕ) → Ending → Verdict
  pub reviews : Bool
  pub refusal : List (List ℕ) → Option ExtractFault

-- payloads that are known beforehand, or counters, where some are given
abbrev pub given : {X : Type 0} → Option (Bor (List X)) → Option (List X)
given xs = option_map (λ ys. ys.now) xs

-- nothing is refused, whatever the messages
abbrev pub nothing : List (List ℕ) → Option ExtractFault
nothing messages = None

-- the log was read to its end, and this is what the run makes of it
pub record Makes (job : Job) (options : ReadOptions) (before after : Source) (output : List ℕ) (verdict : Verdict) : Type 0
  where
    pub messages : List (List ℕ)
    pub ending : Ending
    pub reading : ReadsLog options before after messages ending
    pub no_read_failed : after.failed ≡ false
    pub unrefused : job.refusal messages ≡ None
    pub output_is : output ≡ job.output messages ending
    pub verdict_is : verdict ≡ job.verdict messages ending

-- a run that succeeds: the log was read to its end, and the output was written whole
pub record Runs (job : Job) (options : ReadOptions) (before after : Source) (was is : Sink) (verdict : Verdict) : Type 0
  where
    pub messages : List (List ℕ)
    pub ending : Ending
    pub reading : ReadsLog options before after messages ending
    pub no_read_failed : after.failed ≡ false
    pub unrefused : job.refusal messages ≡ None
    pub written : WritesWhole was is (job.output messages ending)
    pub verdict_is : verdict ≡ job.verdict messages ending

-- a run whose output couldn't be written: a prefix of it was
pub record FailsToWrite (job : Job) (options : ReadOptions) (before after : Source) (was is : Sink) : Type 0 where
  pub messages : List (List ℕ)
  pub ending : Ending
  pub reading : ReadsLog options before after messages ending
  pub no_read_failed : after.failed ≡ false
  pub unrefused : job.refusal messages ≡ None
  pub written : WritesPrefix was is (job.output messages ending)

-- a run that is refused: the log was read to its end, and it is what the run refuses first
pub record IsRefused (job : Job) (options : ReadOptions) (before after : Source) (fault : ExtractFault) : Type 0 where
  pub messages : List (List ℕ)
  pub ending : Ending
  pub reading : ReadsLog options before after messages ending
  pub no_read_failed : after.failed ≡ false
  pub refused : job.refusal messages ≡ Some fault

-- why a run failed before anything was written
abbrev pub StopsBefore : Job → ReadOptions → (before after : Source) → RunFault → Type 0
StopsBefore job options before after (run.Extract fault) = IsRefused job options before after fault
StopsBefore job options before after (run.Frame fault) = StopsRun job.reviews options before after (run.Frame fault)
StopsBefore job options before after (run.Review fault) = StopsRun job.reviews options before after (run.Review fault)
StopsBefore job options before after run.Memory = StopsRun job.reviews options before after run.Memory
StopsBefore job options before after run.Write = ⊥

-- why a run failed
abbrev pub Stops : Job → ReadOptions → (before after : Source) → (was is : Sink) → RunFault → Type 0
Stops job options before after was is run.Write = FailsToWrite job options before after was is
Stops job options before after was is (run.Frame fault) = StopsRun job.reviews options before after (run.Frame fault)
Stops job options before after was is (run.Review fault) = StopsRun job.reviews options before after (run.Review fault)
Stops job options before after was is run.Memory = StopsRun job.reviews options before after run.Memory
Stops job options before after was is (run.Extract fault) = IsRefused job options before after fault
