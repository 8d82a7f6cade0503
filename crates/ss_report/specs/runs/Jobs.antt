-- The runs over a log: what each writes of its messages and its ending, and its verdict. Those that review go by the
-- payloads that are known beforehand, where some are given (`Pinned.antt` of `ss_review`).
use Rattle.std.specs.Prelude.{true, false, ℕ, Bool, Option, List, ◌++◌, flat_map}
use Rattle.ss_frame.specs.Frame.{units_in}
use Rattle.ss_frame.specs.Watched.{Source, Sink}
use Rattle.ss_review.specs.keep.Notes.{notes}
use Rattle.ss_review.specs.keep.Contents.{blocks, contents}
use Rattle.ss_review.specs.sessions.Verified.{Answers}
use Rattle.ss_review.specs.report.Report.{report}
use Rattle.ss_review.specs.Laws.{ListsWhatIsAnnounced}
use Rattle.ss_review.specs.announced.Announced.{Key}
use Rattle.ss_review.specs.counted.KeptLaws.{NumberIsTold, BlockIsTold}
use Rattle.ss_review.specs.pinned.Pinned.{blocks_by, report_by}
use Rattle.ss_review.specs.pinned.Stands.{StandsFor}
use Rattle.ss_report.specs.texts.Facts.{names_of}
use Rattle.ss_report.specs.texts.Inspection.{inspection}
use Rattle.ss_report.specs.forms.Forms.{line_as, report_lines}
use Rattle.ss_block.specs.declared.session.Session.{Session}
use Rattle.ss_report.specs.lines.Lines.{ReportLine, itemizing, lines}
use Rattle.ss_report.specs.lines.Whole.{TellsMissing}
use Rattle.ss_report.specs.lines.Between.{between_lines_by, front_by, lines_by, whole_lines_by}
use Rattle.ss_review.specs.declared.counted.counter.Counter.{Counter}
use Rattle.ss_report.specs.texts.QuestionForms.{questions_as, questions_end}
use Rattle.ss_report.specs.runs.Counters.{counter_lines}
use Rattle.ss_report.specs.Verdict.{end_verdict, verdict_where, report_verdict}
use Rattle.ss_report.specs.runs.Extraction.{is_reviewed, messages_at, refusal, selected, selected_verdict, shown}
use Rattle.ss_report.specs.runs.Run.{Job, Runs, nothing}
use Rattle.ss_report.specs.declared.log.ending.Ending.{Ending}
use Rattle.ss_report.specs.declared.log.read_options.ReadOptions.{ReadOptions}
use Rattle.ss_report.specs.declared.runs.beside.Beside.{Beside}
use Rattle.ss_report.specs.declared.runs.extraction.Extraction.{Extraction}
use Rattle.ss_report.specs.declared.forms.inspection_form.InspectionForm.{InspectionForm}
use Rattle.ss_report.specs.declared.forms.report_form.ReportForm.{ReportForm}
use Rattle.ss_report.specs.declared.lines.detail.Detail.{Detail}
use Rattle.ss_report.specs.declared.notation.Notation.{Notation}
use Rattle.ss_report.specs.declared.payloads.Payloads.{Payloads}
use Rattle.ss_report.specs.declared.payloads.Payloads.TheVariants as payloads
use Rattle.ss_report.specs.declared.verdict.verdict.Verdict.{Verdict}

-- a line a message, in a form, by whether its place is named, where facts are asked for
abbrev pub inspecting_by : InspectionForm → Option (ℕ → Bool) → Job
inspecting_by form names = record {
  output = inspection form names;
  verdict = λ messages ending. end_verdict ending;
  reviews = false;
  refusal = nothing;
}

-- the same, with more facts at these places, where facts are asked for
abbrev pub inspecting : InspectionForm → (facts : Option (List ℕ)) → Job
inspecting form facts = inspecting_by form (names_of facts)

-- the text of the report
abbrev pub reviewing : Answers → Job
reviewing says = record {
  output = λ messages ending. report_lines (report says messages) ending;
  verdict = λ messages ending. report_verdict (report says messages) ending;
  reviews = true;
  refusal = nothing;
}

-- These lines of a log in a form, after those in front of them, with the verdict of all of them, each item with a line of
-- its own. The lines go by the payloads that are known beforehand, and so do those in front.
abbrev pub reporting :
    ReportForm → Detail → (known : Option (List (List ℕ))) → Answers
    → (Detail → List (List ℕ) → Ending → List ReportLine) → Job
reporting form detail known says lines = record {
  output = λ messages ending.
      flat_map (line_as form) (front_by known detail says messages ++ lines detail messages ending);
  verdict = λ messages ending.
      verdict_where detail.ignore_strangers
      (front_by known detail says messages ++ lines (itemizing detail) messages ending);
  reviews = true;
  refusal = nothing;
}

-- the report in a form
abbrev pub reviewing_as : ReportForm → Detail → (known : Option (List (List ℕ))) → Answers → Job
reviewing_as form detail known says =
    reporting form detail known says
    (λ d messages ending. lines d (report_by known says (contents (notes messages))) ending)

-- the report in a form, with what is missing of each session's signature blocks, and of all up to these counters
abbrev pub reviewing_whole :
    ReportForm → Detail → List Counter → (known : Option (List (List ℕ))) → Answers → Job
reviewing_whole form detail counters known says =
    reporting form detail known says (λ d messages ending. whole_lines_by known d says counters messages ending)

-- the report of one night in a form: between these counters of each session, with what is missing of it up to the
-- second ones, if they are given, and with what is announced outside of the night
abbrev pub reviewing_between :
    ReportForm → Detail → (first : List Counter) → (second : Option (List Counter))
    → (known : Option (List (List ℕ))) → Answers → Job
reviewing_between form detail first second known says =
    reporting form detail known says
    (λ d messages ending. between_lines_by known d says first second messages ending)

-- one of these, by what is to be reported beside the report
abbrev pub reviewing_beside : ReportForm → Detail → Beside → (known : Option (List (List ℕ))) → Answers → Job
reviewing_beside form detail beside known says =
    reporting form detail known says (λ d messages ending. lines_by known d says beside messages ending)

-- what a review asks of a signature scheme, with each payload in each question about it, or once
abbrev pub asking : Notation → Payloads → (known : Option (List (List ℕ))) → Job
asking notation payloads known = record {
  output = λ messages ending. questions_as notation payloads known (blocks (notes messages));
  verdict = λ messages ending. end_verdict ending;
  reviews = true;
  refusal = nothing;
}

-- what a review asks before it waits for answers: each payload once, and a last line
abbrev pub asking_first : Notation → (known : Option (List (List ℕ))) → Job
asking_first notation known = record {
  output = λ messages ending.
      questions_as notation payloads.Once known (blocks (notes messages)) ++ questions_end notation;
  verdict = λ messages ending. end_verdict ending;
  reviews = true;
  refusal = nothing;
}

-- the counters of the joined sessions
abbrev pub counting : Notation → (known : Option (List (List ℕ))) → Answers → Job
counting notation known says = record {
  output = λ messages ending.
      counter_lines notation says (blocks_by known says (blocks (notes messages)))
      (report_by known says (contents (notes messages)));
  verdict = λ messages ending. end_verdict ending;
  reviews = true;
  refusal = nothing;
}

-- the messages that are selected, as they stand or out of their wraps, in a form, whatever the form of the log; a place
-- that the log hasn't is refused, and a message that is no line of the form
abbrev pub extracting : Extraction → (known : Option (List (List ℕ))) → Answers → Job
extracting e known says = record {
  output = λ messages ending.
      units_in e.form (messages_at (shown e.unwrap messages) (selected e.selection known says messages));
  verdict = λ messages ending. selected_verdict e.selection known says messages ending;
  reviews = is_reviewed e.selection;
  refusal = refusal e known says;
}

-- a review that succeeds, and its report lists what is announced
pub record Reviews (says : Answers) (options : ReadOptions) (before after : Source) (was is : Sink) (verdict : Verdict) :
    Type 0 where
  pub run : Runs (reviewing says) options before after was is verdict
  pub listed : ListsWhatIsAnnounced says run.messages (report says run.messages)

-- The same of a review in a form, by payloads that are known beforehand: what is announced is that of another log, of
-- which the same is reported. Without such payloads it is the log itself. Up to any counters, what is missing are just
-- the GBC that no verified block has, and each number is exactly one of listed, a gap, in a hole and in a tail.
pub record ReviewsAs (form : ReportForm) (detail : Detail) (beside : Beside) (known : Option (List (List ℕ)))
    (says : Answers) (options : ReadOptions) (before after : Source) (was is : Sink) (verdict : Verdict) : Type 0 where
  pub run : Runs (reviewing_beside form detail beside known says) options before after was is verdict
  pub other : List (List ℕ)
  pub stands : StandsFor known says run.messages other
  pub listed : ListsWhatIsAnnounced says other (report says other)
  pub missing : (counters : List Counter) (s : Session) → TellsMissing says counters (blocks (notes other)) s
  pub numbers_told : (counters : List Counter) (k : Key) → NumberIsTold says other counters k
  pub blocks_told : (counters : List Counter) (s : Session) (gbc : ℕ) → BlockIsTold says other counters s gbc
