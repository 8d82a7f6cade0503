-- What a command over a log does, by its options and by the files that they name.
use Rattle.std.specs.Prelude.{◌≡◌, ℕ, true, false, ◌||◌, List, Option, Some, None, IfSome, Result, Ok, Err, codes}
use Rattle.std.specs.Option.{is_some}
use Rattle.clap.specs.Words.{first_value, found_of}
use Rattle.clap.specs.declared.parser.matches.ArgMatches.{ArgMatches}
use Rattle.ss_frame.specs.Limits.{Allowance, InRange}
use Rattle.ss_frame.specs.Watched.{Source, Sink}
use Rattle.ss_review.specs.sessions.Verified as verified
use Rattle.ss_report.specs.declared.log.read_options.ReadOptions.{ReadOptions}
use Rattle.ss_report.specs.declared.runs.extraction.Extraction.{Extraction}
use Rattle.ss_report.specs.declared.verdict.verdict.Verdict.{Verdict}
use Rattle.ss_report.specs.runs.Run.{Job, Runs, Stops}
use Rattle.ss_answers.specs.Answers.{Answer, Rise, trusted, valid}
use Rattle.ssign.specs.CommandLine.{HasNumber, detail_in, form_of, is_given, reporting}
use Rattle.ssign.specs.Extraction.{GivesExtraction, IsAt, texts_given}
use Rattle.ssign.specs.GivenFiles.{Contents, Gives}
use Rattle.ssign.specs.Task.{job_of}
use Rattle.ssign.specs.declared.extraction.ExtractionFault.{ExtractionFault}
use Rattle.ssign.specs.declared.orders.prepare.Asked.{Asked}
use Rattle.ssign.specs.declared.refusal.Refusal.{Refusal}
use Rattle.ssign.specs.declared.refusal.Refusal.TheVariants as refusals
use Rattle.ssign.specs.declared.task.Reporting.{Reporting}
use Rattle.ssign.specs.declared.task.Task.{Task}

-- ---- what the options say

-- the path that an option of a file has, if it is given
abbrev pub path_in : ArgMatches → List ℕ → Option (List ℕ)
path_in m option = first_value (found_of m) option

-- the limits: the numbers that two options spell, in their ranges, and the form by `--lines`; or there are none
abbrev pub GivesLimits : ArgMatches → Option Allowance → Type 0
GivesLimits m (Some l) =
    HasNumber m (codes "max-len") l.max_len × HasNumber m (codes "max-messages") l.max_messages
    × InRange l.max_len l.max_messages × (l.form ≡ form_of (is_given m (codes "lines")))
GivesLimits m None = (a b : ℕ) → HasNumber m (codes "max-len") a → HasNumber m (codes "max-messages") b → ¬ InRange a b

-- how a log is read: within these limits, and on after damage exactly with `--salvage`. `--lines` isn't given beside it.
pub record IsReading (m : ArgMatches) (r : ReadOptions) : Type 0 where
  pub limits : GivesLimits m (Some r.limits)
  pub salvaged : r.salvage ≡ is_given m (codes "salvage")
  pub frames : is_given m (codes "salvage") ≡ true → is_given m (codes "lines") ≡ false

-- both `--salvage` and `--lines` are given
abbrev pub AreSalvagedLines : ArgMatches → Type 0
AreSalvagedLines m = (is_given m (codes "salvage") ≡ true) × (is_given m (codes "lines") ≡ true)

-- what is to be extracted but for the places of a file, or why the options don't name it
abbrev pub IsExtraction : ArgMatches → Result Extraction ExtractionFault → Type 0
IsExtraction m result = GivesExtraction (is_given m (codes "unlisted")) (texts_given m (codes "place"))
    (is_some (path_in m (codes "places"))) (is_given m (codes "lines-out")) (is_given m (codes "unwrap")) result

-- messages are shown as JSON objects alone: `--facts` isn't given without `--json`
abbrev pub AreObjects : ArgMatches → Type 0
AreObjects m = is_some (path_in m (codes "facts")) ≡ true → is_given m (codes "json") ≡ true

-- `--facts` is given without `--json`
abbrev pub ArePlainFacts : ArgMatches → Type 0
ArePlainFacts m = (is_some (path_in m (codes "facts")) ≡ true) × (is_given m (codes "json") ≡ false)

-- how a log is reported
abbrev pub IsReporting : ArgMatches → Reporting → Type 0
IsReporting m r = r ≡ reporting (is_given m (codes "findings")) (is_given m (codes "json"))
    (is_given m (codes "whole") || is_some (path_in m (codes "counters")) || is_some (path_in m (codes "from")))
    (detail_in m) (is_given m (codes "once")) (is_given m (codes "unwrap"))

-- ---- what is asked

-- what the options name is extracted, or the messages at the places of the file of `--places`
pub record IsExtracted (files : Contents) (m : ArgMatches) (e : Extraction) : Type 0 where
  pub named : Extraction
  pub places : Option (List ℕ)
  pub is_named : IsExtraction m (Ok named)
  pub given : Gives files.places (path_in m (codes "places")) (Ok places)
  pub is_at : IsAt places named e

-- The options say what is asked of a log beside the task, and the files that they name give it. The payloads that are
-- known beforehand rise by their octets.
pub record IsAsked (files : Contents) (m : ArgMatches) (a : Asked) : Type 0 where
  pub reading : IsReading m a.reading
  pub extraction : IsExtracted files m a.extraction
  pub objects : AreObjects m
  pub reporting : IsReporting m a.reporting
  pub first : Gives files.counters (path_in m (codes "from")) (Ok a.first)
  pub counters : Gives files.counters (path_in m (codes "counters")) (Ok a.counters)
  pub known : Gives files.payloads (path_in m (codes "pinned")) (Ok a.known)
  pub known_rise : IfSome a.known Rise
  pub facts : Gives files.places (path_in m (codes "facts")) (Ok a.facts)

-- the answers are those of the file of `--answers`, if it is given
abbrev pub AreAnswers : Contents → ArgMatches → Option (List Answer) → Type 0
AreAnswers files m answers = Gives files.answers (path_in m (codes "answers")) (Ok answers)

-- who answers for signatures: an answers file, or nobody
abbrev pub said_by : Option (List Answer) → verified.Answers
said_by (Some given) = record { trusted = trusted given; valid = valid given }
said_by None = record { trusted = λ payload. false; valid = λ payload octets signature. false }

abbrev pub asked_job : Task → Asked → Option (List Answer) → Job
asked_job task a answers = job_of (said_by answers) a.reporting a.known a.first a.counters a.facts a.extraction task

-- ---- how it ends

abbrev pub HasLimits : ArgMatches → Type 0
HasLimits m = (l : Allowance) × GivesLimits m (Some l)

abbrev pub HasReading : ArgMatches → Type 0
HasReading m = (r : ReadOptions) × IsReading m r

abbrev pub HasExtraction : ArgMatches → Type 0
HasExtraction m = (e : Extraction) × IsExtraction m (Ok e)

-- the option isn't given, or its file gives something
abbrev pub IsTaken : {T E : Type 0} → (List ℕ → Result T E → Type 0) → Option (List ℕ) → Type 0
IsTaken {T} contents path = (value : Option T) × Gives contents path (Ok value)

-- the options by themselves say what is asked
pub record HaveSaid (m : ArgMatches) : Type 0 where
  pub reading : HasReading m
  pub extraction : HasExtraction m
  pub objects : AreObjects m

-- the files of counters and of known payloads, of those that are named, give some
pub record HaveKnown (files : Contents) (m : ArgMatches) : Type 0 where
  pub first : IsTaken files.counters (path_in m (codes "from"))
  pub counters : IsTaken files.counters (path_in m (codes "counters"))
  pub known : IsTaken files.payloads (path_in m (codes "pinned"))

-- Why there is no run. Options are read first, and then the files of `--from`, `--counters`, `--pinned`, `--facts`,
-- `--places` and `--answers`, in this order: the first that gives nothing is the refusal.
abbrev pub IsFirstRefusal : Contents → ArgMatches → Refusal → Type 0
IsFirstRefusal files m refusals.NoOption = GivesLimits m None
IsFirstRefusal files m (refusals.Extraction fault) = HasReading m × IsExtraction m (Err fault)
IsFirstRefusal files m refusals.PlainFacts = HasReading m × HasExtraction m × ArePlainFacts m
IsFirstRefusal files m (refusals.From fault) =
    HaveSaid m × Gives files.counters (path_in m (codes "from")) (Err fault)
IsFirstRefusal files m (refusals.Counters fault) =
    HaveSaid m × IsTaken files.counters (path_in m (codes "from"))
    × Gives files.counters (path_in m (codes "counters")) (Err fault)
IsFirstRefusal files m (refusals.Pinned fault) =
    HaveSaid m × IsTaken files.counters (path_in m (codes "from"))
    × IsTaken files.counters (path_in m (codes "counters")) × Gives files.payloads (path_in m (codes "pinned")) (Err fault)
IsFirstRefusal files m (refusals.Facts fault) =
    HaveSaid m × HaveKnown files m × Gives files.places (path_in m (codes "facts")) (Err fault)
IsFirstRefusal files m (refusals.Places fault) =
    HaveSaid m × HaveKnown files m × IsTaken files.places (path_in m (codes "facts"))
    × Gives files.places (path_in m (codes "places")) (Err fault)
IsFirstRefusal files m (refusals.Answers fault) =
    HaveSaid m × HaveKnown files m × IsTaken files.places (path_in m (codes "facts"))
    × IsTaken files.places (path_in m (codes "places")) × Gives files.answers (path_in m (codes "answers")) (Err fault)
IsFirstRefusal files m _ = ⊥

-- how a log is read and what is extracted, by the options alone
pub record HaveNamed (m : ArgMatches) (r : ReadOptions) (e : Extraction) : Type 0 where
  pub reading : IsReading m r
  pub extraction : IsExtraction m (Ok e)
  pub objects : AreObjects m

-- why the options by themselves ask nothing of a log
abbrev pub HaveFailed : ArgMatches → Task → Refusal → Type 0
HaveFailed m task refusals.NoOption = GivesLimits m None
HaveFailed m task (refusals.SalvagedLines asked) = (asked ≡ task) × HasLimits m × AreSalvagedLines m
HaveFailed m task (refusals.Extraction fault) = HasReading m × IsExtraction m (Err fault)
HaveFailed m task refusals.PlainFacts = HasReading m × HasExtraction m × ArePlainFacts m
HaveFailed m task _ = ⊥

-- why nothing is asked of a log: the same, or `--salvage` beside `--lines`, which is refused right after the limits
abbrev pub IsUnasked : Contents → ArgMatches → Task → Refusal → Type 0
IsUnasked files m task (refusals.SalvagedLines asked) = (asked ≡ task) × HasLimits m × AreSalvagedLines m
IsUnasked files m task (refusals.Answers fault) = ⊥
IsUnasked files m task refusal = IsFirstRefusal files m refusal

-- A run over a log whose answers are read before it, with its verdict or the fault that stopped it, or the first refusal
-- before it. `--salvage` beside `--lines` is refused right after the limits.
abbrev pub EndsAtOnce : Contents → ArgMatches → Task → (before after : Source) → (was is : Sink)
    → Result Verdict Refusal → Type 0
EndsAtOnce files m task before after was is (Ok verdict) =
    (a : Asked) × (answers : Option (List Answer)) × IsAsked files m a × AreAnswers files m answers
    × Runs (asked_job task a answers) a.reading before after was is verdict
EndsAtOnce files m task before after was is (Err (refusals.Run fault)) =
    (a : Asked) × (answers : Option (List Answer)) × IsAsked files m a × AreAnswers files m answers
    × Stops (asked_job task a answers) a.reading before after was is fault
EndsAtOnce files m task before after was is (Err (refusals.SalvagedLines asked)) =
    (asked ≡ task) × HasLimits m × AreSalvagedLines m
EndsAtOnce files m task before after was is (Err refusal) = IsFirstRefusal files m refusal
