-- What `ssign review --ask` does: it reads the log, writes its questions to a file, and then reads the answers to them.
use Rattle.std.specs.Prelude.{◌≡◌, ◌⊎◌, ℕ, true, List, Option, Some, None, Result, Ok, Err, codes}
use Rattle.clap.specs.declared.parser.matches.ArgMatches.{ArgMatches}
use Rattle.ss_frame.specs.Watched.{Source, Sink}
use Rattle.ss_report.specs.declared.fault.RunFault.{RunFault}
use Rattle.ss_report.specs.declared.fault.RunFault.TheVariants as run
use Rattle.ss_report.specs.declared.log.read_options.ReadOptions.{ReadOptions}
use Rattle.ss_report.specs.declared.verdict.verdict.Verdict.{Verdict}
use Rattle.ss_report.specs.forms.Forms.{notation_of}
use Rattle.ss_report.specs.log.Log.{StopsRun}
use Rattle.ss_report.specs.declared.runs.open_review.OpenReview.{OpenReview}
use Rattle.ss_report.specs.runs.Opened.{HasRead}
use Rattle.ss_report.specs.runs.Jobs.{asking_first}
use Rattle.ss_report.specs.runs.Run.{FailsToWrite, Job, Runs, Stops}
use Rattle.ss_answers.specs.Answers.{Answer}
use Rattle.ssign.specs.GivenFiles.{Adds, Files, IsMade}
use Rattle.ssign.specs.LogOrder.{EndsAtOnce, IsAsked, IsUnasked, asked_job, path_in}
use Rattle.ssign.specs.declared.orders.prepare.Asked.{Asked}
use Rattle.ssign.specs.declared.questions_fault.QuestionsFault.TheVariants as questions
use Rattle.ssign.specs.declared.refusal.Refusal.{Refusal}
use Rattle.ssign.specs.declared.refusal.Refusal.TheVariants as refusals
use Rattle.ssign.specs.declared.task.Task.{Task}
use Rattle.ssign.specs.declared.task.Task.TheVariants.{Review}

-- ---- the questions

-- where a review writes its questions: the file of `--ask`, if it is given
abbrev pub ask_path : Task → ArgMatches → Option (List ℕ)
ask_path Review m = path_in m (codes "ask")
ask_path _ m = None

-- the questions of a log by what is asked of it: each payload once, and a last line
abbrev pub asking_job : Asked → Job
asking_job a = asking_first (notation_of a.reporting.form) a.known

-- the log was read to its end
abbrev pub IsRead : ReadOptions → (before after : Source) → Type 0
IsRead options before after = (review : OpenReview) × HasRead options before after review

-- why the questions of a log that was read aren't there, by the fault of the review
abbrev pub unasked : RunFault → Refusal
unasked run.Write = refusals.Questions questions.File
unasked fault = refusals.LateRun fault

-- The file of this path was made after the log was read, what was written to it are the questions, whole, and it was
-- closed. No other file was written.
pub record Asks (job : Job) (options : ReadOptions) (before after : Source) (path : List ℕ) (old new : Files) : Type 0
  where
    pub opened : Sink
    pub closed : Sink
    pub verdict : Verdict
    pub made : IsMade opened
    pub run : Runs job options before after opened closed verdict
    pub written : Adds old.written new.written (record { path = path; octets = closed.written })

-- a write or a flush of it failed: a prefix of the questions was written
pub record FailsToAsk (job : Job) (options : ReadOptions) (before after : Source) (path : List ℕ) (old new : Files) :
    Type 0
  where
    pub opened : Sink
    pub closed : Sink
    pub made : IsMade opened
    pub run : FailsToWrite job options before after opened closed
    pub written : Adds old.written new.written (record { path = path; octets = closed.written })

-- no question was written: the file wasn't made, or it was closed as it was made
abbrev pub AsksNothing : (path : List ℕ) → (old new : Files) → Type 0
AsksNothing path old new =
    (new.written ≡ old.written)
    ⊎ ((opened : Sink) × IsMade opened × Adds old.written new.written (record { path = path; octets = opened.written }))

-- the questions of a log that was read are written, or why they aren't: the file can't be made or written, or memory ran
-- out
abbrev pub AsksOr : Job → ReadOptions → (before after : Source) → (path : List ℕ) → (old new : Files)
    → Result (Unit {0}) Refusal → Type 0
AsksOr job options before after path old new (Ok asked) = Asks job options before after path old new
AsksOr job options before after path old new (Err (refusals.Questions questions.File)) =
    IsRead options before after
    × (AsksNothing path old new ⊎ FailsToAsk job options before after path old new)
AsksOr job options before after path old new (Err (refusals.Questions questions.Memory)) =
    IsRead options before after × AsksNothing path old new
AsksOr job options before after path old new (Err (refusals.LateRun fault)) =
    IsRead options before after × StopsRun true options before after fault × AsksNothing path old new
AsksOr job options before after path old new (Err refusal) = ⊥

-- ---- how it ends

-- what is asked of the log, and that its questions were written
pub record HasAsked (m : ArgMatches) (path : List ℕ) (a : Asked) (before after : Source) (old new : Files) : Type 0
  where
    pub asked : IsAsked old.contents m a
    pub asks : Asks (asking_job a) a.reading before after path old new

-- the questions weren't written, for this reason
abbrev pub LacksQuestions : ArgMatches → (path : List ℕ) → (before after : Source) → (old new : Files) → Refusal → Type 0
LacksQuestions m path before after old new refusal =
    (a : Asked) × IsAsked old.contents m a
    × AsksOr (asking_job a) a.reading before after path old new (Err refusal)

-- the report of the log and of the answers that the files give after the questions were written
abbrev pub IsReported : ArgMatches → (path given : List ℕ) → (before after : Source) → (old new : Files)
    → (Job → ReadOptions → Type 0) → Type 0
IsReported m path given before after old new is_run =
    (a : Asked) × (answers : List Answer) × HasAsked m path a before after old new
    × new.contents.answers given (Ok answers) × is_run (asked_job Review a (Some answers)) a.reading

-- A review that writes its questions to the file of one path, and then reads the answers of another. It has a verdict. Or the
-- log can't be read to its end, or the questions can't be written, or the answers can't be read. Or memory ran out after
-- the log was read, or the report can't be written. Or it is the first refusal before the log.
abbrev pub EndsAsking : (path given : List ℕ) → (old new : Files) → ArgMatches → (before after : Source) → (was is : Sink)
    → Result Verdict Refusal → Type 0
EndsAsking path given old new m before after was is (Ok verdict) =
    IsReported m path given before after old new (λ job options. Runs job options before after was is verdict)
EndsAsking path given old new m before after was is (Err (refusals.Run fault)) =
    (a : Asked) × IsAsked old.contents m a × StopsRun true a.reading before after fault
EndsAsking path given old new m before after was is (Err (refusals.LateRun fault)) =
    LacksQuestions m path before after old new (refusals.LateRun fault)
    ⊎ IsReported m path given before after old new (λ job options. Stops job options before after was is fault)
EndsAsking path given old new m before after was is (Err (refusals.Questions fault)) =
    LacksQuestions m path before after old new (refusals.Questions fault)
EndsAsking path given old new m before after was is (Err (refusals.LateAnswers fault)) =
    (a : Asked) × HasAsked m path a before after old new
    × new.contents.answers given (Err fault)
EndsAsking path given old new m before after was is (Err refusal) = IsUnasked old.contents m Review refusal

-- What a command over a log does, by the paths that `--ask` and `--answers` have. `--ask` alone is a mistake.
abbrev pub EndsBy : (ask answers : Option (List ℕ)) → (old new : Files) → ArgMatches → Task → (before after : Source)
    → (was is : Sink) → Result Verdict Refusal → Type 0
EndsBy None answers old new m task before after was is result =
    EndsAtOnce old.contents m task before after was is result
EndsBy (Some path) None old new m task before after was is result = result ≡ Err refusals.UnansweredAsk
EndsBy (Some path) (Some given) old new m task before after was is result =
    EndsAsking path given old new m before after was is result

abbrev pub EndsLog : (old new : Files) → ArgMatches → Task → (before after : Source) → (was is : Sink)
    → Result Verdict Refusal → Type 0
EndsLog old new m task before after was is result =
    EndsBy (ask_path task m) (path_in m (codes "answers")) old new m task before after was is result
