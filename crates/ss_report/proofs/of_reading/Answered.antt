-- What a run answers once its output was written.
use Rattle.std.proofs.Common.{◌≡◌, ◌≢◌, Result, Ok, Err, sym, subst}
use Rattle.std.specs.Prelude.{MatchResult, IfOk, IfErr}
use Rattle.ss_frame.specs.Watched.{Source, Sink}
use Rattle.ss_report.specs.declared.fault.RunFault.{RunFault}
use Rattle.ss_report.specs.declared.fault.RunFault.TheVariants as run
use Rattle.ss_report.specs.declared.verdict.verdict.Verdict.{Verdict}
use Rattle.ss_report.specs.log.Log.{StopsRun}
use Rattle.ss_report.specs.runs.Run.{Job, Runs, FailsToWrite, Stops, StopsBefore}
use Rattle.ss_report.specs.declared.log.read_options.ReadOptions.{ReadOptions}

-- the run succeeded, or its output couldn't be written
abbrev pub RunsOrFails : Job → ReadOptions → (before after : Source) → (was is : Sink) → Result Verdict RunFault → Type 0
RunsOrFails job options before after was is r =
    MatchResult r (λ verdict. Runs job options before after was is verdict) (λ fault. (fault ≡ run.Write) × FailsToWrite job options before after was is)

pub runs_if_ok : (job : Job) (options : ReadOptions) (before after : Source) (was is : Sink) (r : Result Verdict RunFault)
    → RunsOrFails job options before after was is r → IfOk r (Runs job options before after was is)
runs_if_ok job options before after was is (Ok verdict) told = told
runs_if_ok job options before after was is (Err fault) told = tt

pub stops_if_err : (job : Job) (options : ReadOptions) (before after : Source) (was is : Sink) (r : Result Verdict RunFault)
    → RunsOrFails job options before after was is r → IfErr r (Stops job options before after was is)
stops_if_err job options before after was is (Ok verdict) told = tt
stops_if_err job options before after was is (Err fault) told = subst (λ f. Stops job options before after was is f) (sym told.0) told.1

pub fails_by_write : (job : Job) (options : ReadOptions) (before after : Source) (was is : Sink) (r : Result Verdict RunFault) (P : Type 0)
    → RunsOrFails job options before after was is r → IfErr r (λ fault. fault ≢ run.Write → P)
fails_by_write job options before after was is (Ok verdict) P told = tt
fails_by_write job options before after was is (Err fault) P told = λ other. absurd (other told.0)

-- nothing was made of the messages, and nothing was refused of them
pub stops_before : (job : Job) (options : ReadOptions) (before after : Source) (fault : RunFault) → StopsRun job.reviews options before after fault → StopsBefore job options before after fault
stops_before job options before after (run.Frame fault) stops = stops
stops_before job options before after (run.Review fault) stops = stops
stops_before job options before after run.Memory stops = stops
stops_before job options before after run.Write stops = stops
stops_before job options before after (run.Extract fault) stops = absurd stops

-- such a run never refuses with W2
pub never_of_memory : (job : Job) (options : ReadOptions) (before after : Source) (was is : Sink) (r : Result Verdict RunFault)
    → RunsOrFails job options before after was is r → IfErr r (λ fault. fault ≢ run.Memory)
never_of_memory job options before after was is (Ok verdict) told = tt
never_of_memory job options before after was is (Err fault) told = subst (λ f. f ≢ run.Memory) (sym told.0) (λ e. absurd cc)

-- a run that fails before anything is written
pub stops_of : (job : Job) (options : ReadOptions) (before after : Source) (was is : Sink) (fault : RunFault) → StopsRun job.reviews options before after fault → Stops job options before after was is fault
stops_of job options before after was is (run.Frame fault) stopped = stopped
stops_of job options before after was is (run.Review fault) stopped = stopped
stops_of job options before after was is run.Memory stopped = stopped
stops_of job options before after was is run.Write stopped = absurd stopped
stops_of job options before after was is (run.Extract fault) stopped = absurd stopped

pub runs_or_stops : (job : Job) (options : ReadOptions) (before after : Source) (was is : Sink) (r : Result Verdict RunFault)
    → RunsOrFails job options before after was is r → MatchResult r (Runs job options before after was is) (Stops job options before after was is)
runs_or_stops job options before after was is (Ok verdict) told = told
runs_or_stops job options before after was is (Err fault) told = subst (λ f. Stops job options before after was is f) (sym told.0) told.1
