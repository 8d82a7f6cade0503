use Rattle.std.proofs.Common.{ℕ, List, Option, Result, Ok, Err}
use Rattle.std.specs.Prelude.{IfOk}
use Rattle.ss_frame.specs.Watched.{Source, Sink, sink_of}
use Rattle.ss_review.specs.sessions.Verified.{Answers, answers}
use Rattle.ss_review.specs.Laws.{ReportsListWhatIsAnnounced}
use Rattle.ss_review.specs.keep.Notes.{notes}
use Rattle.ss_review.specs.keep.Contents.{blocks}
use Rattle.ss_review.specs.counted.Counted.{gbcs}
use Rattle.ss_review.specs.counted.Kept.{counters_of, end_of_blocks}
use Rattle.ss_review.specs.counted.CountedLaws.{CountedOrMissing}
use Rattle.ss_review.specs.counted.KeptLaws.{EveryNumberIsTold, EveryBlockIsTold}
use Rattle.ss_review.specs.pinned.Stands.{PinnedReportsAreOfLogs}
use Rattle.ss_report.specs.declared.fault.RunFault.{RunFault}
use Rattle.ss_report.specs.declared.forms.report_form.ReportForm.{ReportForm}
use Rattle.ss_report.specs.declared.lines.detail.Detail.{Detail}
use Rattle.ss_report.specs.declared.log.read_options.ReadOptions.{ReadOptions}
use Rattle.ss_report.specs.declared.runs.beside.Beside.{Beside}
use Rattle.ss_report.specs.declared.verdict.verdict.Verdict.{Verdict}
use Rattle.ss_report.specs.runs.Run.{Runs, given}
use Rattle.ss_report.specs.runs.Jobs.{ReviewsAs, reviewing_beside}
use Rattle.ss_report.proofs.of_reports.PinnedLogs.{stands_for}
use Rattle.ss_report.proofs.of_reading.Answered.{runs_if_ok, stops_if_err, stops_of, fails_by_write, never_of_memory}
use Rattle.ss_report.proofs.runs.open_review.OpenReview.report.Goals as goal

-- a review that succeeds lists what is announced, as each report does
reviews_if_ok : (form : ReportForm) (detail : Detail) (beside : Beside) (known : Option (List (List ℕ))) (says : Answers) (options : ReadOptions) (before after : Source) (was is : Sink) (r : Result Verdict RunFault)
    → ReportsListWhatIsAnnounced → PinnedReportsAreOfLogs → CountedOrMissing → EveryNumberIsTold → EveryBlockIsTold
    → IfOk r (Runs (reviewing_beside form detail beside known says) options before after was is) → IfOk r (ReviewsAs form detail beside known says options before after was is)
reviews_if_ok form detail beside known says options before after was is (Ok verdict) law pinned missing number block ran =
    let stands = stands_for pinned known says ran.messages in
    let log = stands.0 in
    record {
      run = ran;
      other = log;
      stands = stands.1;
      listed = law says log;
      missing = λ counters s. missing says log s (end_of_blocks (counters_of counters s) (gbcs says (blocks (notes log)) s));
      numbers_told = number says log;
      blocks_told = block says log;
    }
reviews_if_ok form detail beside known says options before after was is (Err fault) law pinned missing number block ran = tt

pub returns-in-Ok-clause-reviewed : goal.returns-in-Ok-clause-reviewed
returns-in-Ok-clause-reviewed g c = λ options before after fed.
    let told = c.write_reviewed.ensures _ _ _ _ (c.in-Ok.ensures.ready options before after fed) (c.in-Ok.ensures.made options before after fed c.args.form) in
    reviews_if_ok c.args.form c.args.detail c.args.beside _ _ _ _ _ _ _ _ c.reports_list_what_is_announced.ensures c.pinned_reports_are_of_logs.ensures c.counted_or_missing.ensures c.every_number_is_told.ensures c.every_block_is_told.ensures (runs_if_ok _ _ _ _ _ _ _ told)

pub returns-in-Ok-clause-stopped : goal.returns-in-Ok-clause-stopped
returns-in-Ok-clause-stopped g c = λ options before after fed.
    stops_if_err _ _ _ _ _ _ _ (c.write_reviewed.ensures _ _ _ _ (c.in-Ok.ensures.ready options before after fed) (c.in-Ok.ensures.made options before after fed c.args.form))

pub returns-in-Ok-clause-untouched : goal.returns-in-Ok-clause-untouched
returns-in-Ok-clause-untouched g c = λ options before after fed.
    fails_by_write _ _ _ _ _ _ _ _ (c.write_reviewed.ensures _ _ _ _ (c.in-Ok.ensures.ready options before after fed) (c.in-Ok.ensures.made options before after fed c.args.form))

pub returns-in-Ok-clause-code : goal.returns-in-Ok-clause-code
returns-in-Ok-clause-code g c = λ options before after fed alone.
    never_of_memory _ _ _ _ _ _ _ (c.write_reviewed.ensures _ _ _ _ (c.in-Ok.ensures.ready options before after fed) (c.in-Ok.ensures.made options before after fed c.args.form))

pub returns-in-Err-clause-stopped : goal.returns-in-Err-clause-stopped
returns-in-Err-clause-stopped g c = λ options before after fed.
    let job = reviewing_beside c.args.form c.args.detail c.args.beside (given c.args.known) (answers g.J.Judge.trusted g.J.Judge.valid c.args.judge) in
    let was = sink_of g.W.Write.contents c.args.writer.now in
    stops_of job options before after was was c.in-Err.fault (c.in-Err.ensures.made options before after fed)
