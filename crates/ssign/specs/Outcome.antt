-- What a run of the program comes to: its exit status, and what is printed beside its output.
use Rattle.std.specs.Prelude.{◌≡◌, ◌⊎◌, ℕ, true, false, List, [], ◌∷◌, ◌++◌, Option, Some, None, Result}
use Rattle.std.specs.Prelude.{Ok, Err, IfErr, codes, unwrap_or}
use Rattle.clap.specs.Words.{IsAmong, Kinds, Row, Text, fault_of, found_of, kind_of, rows_of, subcommand_of}
use Rattle.clap.specs.Words.{subcommand_rows_of}
use Rattle.clap.specs.declared.error.Error.{Error}
use Rattle.clap.specs.declared.error.kind.ErrorKind.{ErrorKind}
use Rattle.clap.specs.declared.error.kind.ErrorKind.TheVariants as kinds
use Rattle.clap.specs.declared.parser.matches.ArgMatches.{ArgMatches}
use Rattle.ss_frame.specs.Watched.{Sink, Source}
use Rattle.ss_frame.specs.declared.limits.Form.{Form}
use Rattle.ss_octets.specs.Code.{IsCode, code_text}
use Rattle.ss_report.specs.FaultCode.{run_fault_code}
use Rattle.ss_report.specs.declared.fault.RunFault.TheVariants as run
use Rattle.ss_report.specs.declared.verdict.verdict.Verdict.{Verdict}
use Rattle.ssign.specs.CommandLine.{form_of, is_given, order_in, ssign_app, status_of}
use Rattle.ssign.specs.GivenFiles.{Files}
use Rattle.ssign.specs.Options.{AreVersions, Kept}
use Rattle.ssign.specs.Orders.{Ends, code_in, questions_path}
use Rattle.ssign.specs.Refusal.{is_before_questions, is_before_run, may_have_written, refusal_code}
use Rattle.ssign.specs.Remark.{IsRemark}
use Rattle.ssign.specs.declared.command_line.Order.{Order}
use Rattle.ssign.specs.declared.explanations.Tables.{Tables}
use Rattle.ssign.specs.declared.extraction.ExtractionFault.TheVariants as extraction
use Rattle.ssign.specs.declared.outcome.Notice.{Notice}
use Rattle.ssign.specs.declared.outcome.Notice.TheVariants.{Nothing, Refused, Unexplained, Parsed}
use Rattle.ssign.specs.declared.outcome.Outcome.{Outcome}
use Rattle.ssign.specs.declared.refusal.Refusal.{Refusal}
use Rattle.ssign.specs.declared.refusal.Refusal.TheVariants as refusals
use Rattle.ssign.specs.declared.refusing.Remark.TheVariants as remarks

-- ---- what is printed

-- W2, and nothing more
abbrev pub IsMemoryNotice : Notice → Type 0
IsMemoryNotice (Refused code remark) = IsCode code (run_fault_code run.Memory) × (remark ≡ remarks.Nothing)
IsMemoryNotice _ = ⊥

-- what clap says of a mistake of this kind, or memory ran out for what is printed of that
abbrev pub IsUsage : ErrorKind → Notice → Type 0
IsUsage kind (Parsed fault) = kind_of fault ≡ kind
IsUsage kind notice = IsMemoryNotice notice

-- no entry has the code that is asked about
abbrev pub IsUnexplained : ArgMatches → Notice → Type 0
IsUnexplained m (Unexplained code) = code.now ≡ unwrap_or (code_in m) []
IsUnexplained m _ = ⊥

-- A refusal without a code: two options exclude each other, one or a code is missing, or no entry has it. What a parse by the
-- program's commands doesn't let through prints nothing.
abbrev pub IsMistake : ArgMatches → Refusal → Notice → Type 0
IsMistake m (refusals.SalvagedLines task) notice = IsUsage kinds.ArgumentConflict notice
IsMistake m (refusals.Extraction extraction.Both) notice = IsUsage kinds.ArgumentConflict notice
IsMistake m (refusals.Extraction extraction.FileAndUnlisted) notice = IsUsage kinds.ArgumentConflict notice
IsMistake m (refusals.Extraction extraction.FileAndPlace) notice = IsUsage kinds.ArgumentConflict notice
IsMistake m refusals.UnansweredAsk notice = IsUsage kinds.MissingRequiredArgument notice
IsMistake m refusals.PlainFacts notice = IsUsage kinds.MissingRequiredArgument notice
IsMistake m refusals.NoCode notice = IsUsage kinds.MissingRequiredArgument notice
IsMistake m refusals.NoEntry notice = IsUnexplained m notice
IsMistake m _ notice = notice ≡ Nothing

-- a refusal with this code: the code is printed, and the remark on the refusal
abbrev pub IsCoded : ArgMatches → Form → (octets : List ℕ) → Refusal → List ℕ × Option ℕ → Notice → Type 0
IsCoded m form octets refusal told (Refused code remark) = IsCode code told × IsRemark refusal m form octets remark
IsCoded m form octets refusal told _ = ⊥

abbrev pub IsRefusalNotice :
    ArgMatches → Form → (octets : List ℕ) → Refusal → Option (List ℕ × Option ℕ) → Notice → Type 0
IsRefusalNotice m form octets refusal (Some told) notice = IsCoded m form octets refusal told notice
IsRefusalNotice m form octets refusal None notice = IsMistake m refusal notice

-- what is printed of a run that ended so, over a log of this form of which these octets were kept
abbrev pub IsNotice : ArgMatches → Form → (octets : List ℕ) → Result Verdict Refusal → Notice → Type 0
IsNotice m form octets (Ok verdict) notice = notice ≡ Nothing
IsNotice m form octets (Err refusal) notice = IsRefusalNotice m form octets refusal (refusal_code refusal) notice

-- the status and what is printed are those of a run that ended so
pub record EndsWith (m : ArgMatches) (form : Form) (octets : List ℕ) (ended : Result Verdict Refusal) (o : Outcome) : Type 0
  where
    pub status : o.status ≡ status_of ended
    pub notice : IsNotice m form octets ended o.notice

-- it is refused, and W2 alone is printed
pub record IsOutOfMemory (o : Outcome) : Type 0 where
  pub status : o.status ≡ 2
  pub notice : IsMemoryNotice o.notice

-- help and the version end with 0, and all else with 2
abbrev pub status_of_kind : ErrorKind → ℕ
status_of_kind kinds.DisplayHelp = 0
status_of_kind kinds.DisplayVersion = 0
status_of_kind _ = 2

-- what clap prints of this fault
abbrev pub outcome_of_fault : Error → Outcome
outcome_of_fault fault = record { status = status_of_kind (kind_of fault); notice = Parsed fault }

-- no order has that name, which a parse by the program's commands doesn't let through
abbrev pub silent : Outcome
silent = record { status = 2; notice = Nothing }

-- one of these kinds, or of a word that is no option, that a number below 0 is out of the range of its option
abbrev pub IsKindOf : Kinds → ErrorKind → Type 0
IsKindOf allowed kind = IsAmong kind allowed ⊎ (IsAmong kinds.UnknownArgument allowed × (kind ≡ kinds.ValueValidation))

-- clap says of words, for which these kinds of faults may come, that they have one of them, or what was asked for
pub record IsToldBy (allowed : Kinds) (o : Outcome) : Type 0 where
  pub fault : Error
  pub kind : IsKindOf allowed (kind_of fault)
  pub outcome : o ≡ outcome_of_fault fault

-- or memory ran out
abbrev pub MeetsFault : Kinds → Outcome → Type 0
MeetsFault allowed o = IsOutOfMemory o ⊎ IsToldBy allowed o

-- the line of a refusal with this code
abbrev pub refusal_line : List ℕ × Option ℕ → List ℕ
refusal_line told = codes "ssign: " ++ (code_text told ++ 10 ∷ [])

-- ---- what a run comes to

-- a reader of which no read has failed, and of which this is known
abbrev pub fresh : Option (List ℕ) → Source
fresh known = record { left = known; failed = false }

-- an order ends so, over a reader with these octets, where they are known, and from one state of the writer to another
pub record EndsOver (old new : Files) (tables : Tables) (m : ArgMatches) (order : Order)
    (known : Option (List ℕ)) (was is : Sink) (ended : Result Verdict Refusal) : Type 0
  where
    pub after : Source
    pub ends : Ends old new tables m order (fresh known) after was is ended
    pub unread : IfErr ended (λ refusal. is_before_run refusal ≡ true → after ≡ fresh known)
    pub untouched : IfErr ended (λ refusal. may_have_written refusal ≡ false → is ≡ was)
    pub unasked : questions_path order m ≡ None → new.written ≡ old.written
    pub unopened : IfErr ended (λ refusal. is_before_questions refusal ≡ true → new.written ≡ old.written)

-- memory for the buffer of the reader ran out, before anything was read
pub record LacksBuffer (old new : Files) (was is : Sink) (ended : Result Verdict Refusal) : Type 0 where
  pub refused : ended ≡ Err (refusals.Run run.Memory)
  pub untouched : is ≡ was
  pub unopened : new.written ≡ old.written

abbrev pub EndsFrom : (old new : Files) → Tables → ArgMatches → Order → (known : Option (List ℕ)) → (was is : Sink)
    → Result Verdict Refusal → Type 0
EndsFrom old new tables m order known was is ended =
    LacksBuffer old new was is ended ⊎ EndsOver old new tables m order known was is ended

-- What a run of an order comes to, over a reader with these octets that has kept these in the end: it ends as `Ends`
-- defines it, and the outcome is that of this end.
pub record RunsTo (old new : Files) (tables : Tables) (m : ArgMatches) (order : Order)
    (known : Option (List ℕ)) (kept : List ℕ) (was is : Sink) (o : Outcome) : Type 0
  where
    pub ended : Result Verdict Refusal
    pub ends : EndsFrom old new tables m order known was is ended
    pub outcome : EndsWith m (form_of (is_given m (codes "lines"))) kept ended o

-- what a run of the order comes to, if there is one
abbrev pub RunsOrder : (old new : Files) → Tables → ArgMatches → Option Order → (known : Option (List ℕ))
    → (kept : List ℕ) → (was is : Sink) → Outcome → Type 0
RunsOrder old new tables m (Some order) known kept was is o = RunsTo old new tables m order known kept was is o
RunsOrder old new tables m None known kept was is o = (o ≡ silent) × (is ≡ was) × (new.written ≡ old.written)

-- What a run of the named command with these options comes to: the rows of the matches are the options.
pub record RunsCommand (old new : Files) (tables : Tables) (name : Text) (rows : List Row)
    (known : Option (List ℕ)) (kept : List ℕ) (was is : Sink) (o : Outcome) : Type 0
  where
    pub options : ArgMatches
    pub given : rows_of (found_of options) ≡ rows
    pub runs : RunsOrder old new tables options (order_in name) known kept was is o

abbrev pub RunsNamed : (old new : Files) → Tables → Option (Text × List Row) → (known : Option (List ℕ))
    → (kept : List ℕ) → (was is : Sink) → Outcome → Type 0
RunsNamed old new tables (Some (name, rows)) known kept was is o = RunsCommand old new tables name rows known kept was is o
RunsNamed old new tables None known kept was is o = (o ≡ silent) × (is ≡ was) × (new.written ≡ old.written)

-- clap's definition finds no fault in words for the program's commands, and this is the command that they name, with the
-- options that they give
pub record IsTaken (words : List (List ℕ)) (named : Option (Text × List Row)) : Type 0 where
  pub versions : Kept
  pub are_versions : AreVersions versions
  pub no_fault : fault_of (ssign_app versions) words ≡ []
  pub names : named ≡ subcommand_of (ssign_app versions) words

-- one of the faults that clap's definition allows is told
pub record IsMistaken (words : List (List ℕ)) (o : Outcome) : Type 0 where
  pub versions : Kept
  pub are_versions : AreVersions versions
  pub told : IsToldBy (fault_of (ssign_app versions) words) o

abbrev pub IsRefused : List (List ℕ) → Outcome → Type 0
IsRefused words o = IsOutOfMemory o ⊎ IsMistaken words o

-- what becomes of words: the matches of the command that they name, or what is told of them
abbrev pub IsParsed : List (List ℕ) → Result ArgMatches Outcome → Type 0
IsParsed words (Ok m) = IsTaken words (subcommand_rows_of m)
IsParsed words (Err o) = IsRefused words o

-- What a run of words comes to. The command runs that they name; or they are refused, and nothing is written or opened.
abbrev pub RunsWords : (old new : Files) → Tables → List (List ℕ) → (known : Option (List ℕ)) → (kept : List ℕ)
    → (was is : Sink) → Outcome → Type 0
RunsWords old new tables words known kept was is o =
    ((named : Option (Text × List Row)) × IsTaken words named × RunsNamed old new tables named known kept was is o)
    ⊎ (IsRefused words o × (is ≡ was) × (new.written ≡ old.written))

-- ---- the exit status

-- The outcome's. What clap says may be refused, if it can't be printed.
abbrev pub EndsShown : Notice → (given status : ℕ) → Type 0
EndsShown (Parsed fault) given status = (status ≡ given) ⊎ (status ≡ 2)
EndsShown _ given status = status ≡ given

abbrev pub IsShown : Outcome → ℕ → Type 0
IsShown o status = EndsShown o.notice o.status status
