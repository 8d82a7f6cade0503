-- The lines and the verdict that are made of a report, and of what was found to be missing beside it.
use Rattle.std.proofs.Common.{◌≡◌, false, Option, List, ℕ, ◌++◌, flat_map, refl, sym, ap, ◌∙◌, subst}
use Rattle.ss_frame.specs.Watched.{Source}
use Rattle.ss_review.specs.declared.counted.counted_session.CountedSession.{CountedSession}
use Rattle.ss_review.specs.declared.counted.counter.Counter.{Counter}
use Rattle.ss_review.specs.declared.report.report.Report.{Report}
use Rattle.ss_review.specs.declared.keep.log_blocks.LogBlock.{LogBlock}
use Rattle.ss_review.specs.keep.LogBlocks.{log_blocks}
use Rattle.ss_review.specs.keep.Notes.{notes}
use Rattle.ss_review.specs.keep.Contents.{blocks, contents}
use Rattle.ss_review.specs.sessions.Verified.{Answers}
use Rattle.ss_review.specs.pinned.Pinned.{counted_by, report_by}
use Rattle.ss_review.specs.counted.Kept.{AreReviewed, log_shortfalls}
use Rattle.ss_review.specs.counted.KeptLaws.{LogsAreReviewed}
use Rattle.ss_review.specs.pinned.Stands.{PinnedReportsAreOfLogs, shortfalls_by}
use Rattle.ss_report.specs.log.Log.{ReadsLog}
use Rattle.ss_report.specs.declared.lines.detail.Detail.{Detail}
use Rattle.ss_report.specs.declared.lines.missing.Missing.{Missing}
use Rattle.ss_report.specs.forms.Forms.{line_as}
use Rattle.ss_report.specs.declared.forms.report_form.ReportForm.{ReportForm}
use Rattle.ss_report.specs.declared.verdict.verdict.Verdict.{Verdict}
use Rattle.ss_report.specs.Verdict.{verdict_where}
use Rattle.ss_report.specs.lines.Lines.{ReportLine, itemizing}
use Rattle.ss_report.specs.lines.Between.{front_by, lines_beside, lines_between, lines_by, told_beside}
use Rattle.ss_report.specs.lines.Front.{front_lines}
use Rattle.ss_report.specs.declared.runs.beside.Beside.{Beside}
use Rattle.ss_report.specs.runs.Run.{Makes}
use Rattle.ss_report.specs.runs.Jobs.{reviewing_beside}
use Rattle.ss_report.proofs.of_reports.PinnedLogs.{of_sessions_by}
use Rattle.ss_report.specs.declared.log.read_options.ReadOptions.{ReadOptions}
use Rattle.ss_report.specs.declared.log.ending.Ending.{Ending}

-- the sessions of a review, and the GBC of their blocks, are as what computes it needs them
reviewed_by : LogsAreReviewed → PinnedReportsAreOfLogs
    → (known : Option (List (List ℕ))) (says : Answers) (messages : List (List ℕ)) (r : Report) (cs : List CountedSession)
    → r ≡ report_by known says (contents (notes messages)) → cs ≡ counted_by known says (blocks (notes messages)) → AreReviewed r.sessions cs
reviewed_by reviewed law known says messages r cs told counted =
    subst (λ (p : Report × List CountedSession). AreReviewed p.0.sessions p.1) (λ i. (sym told i, sym counted i))
    (of_sessions_by law AreReviewed says (reviewed says) known messages)

-- what is found to be missing, and to be left of it, is what is missing of the log
pub counted_lines : LogsAreReviewed → PinnedReportsAreOfLogs
    → (known : Option (List (List ℕ))) (says : Answers) (messages : List (List ℕ)) (first second : Option (List Counter)) (up_to : List Counter) (r : Report) (cs : List CountedSession) (of : Detail → Ending → List ReportLine)
    → r ≡ report_by known says (contents (notes messages)) → cs ≡ counted_by known says (blocks (notes messages))
    → (AreReviewed r.sessions cs → (d : Detail) (e : Ending) → of d e ≡ lines_between d first second r (log_shortfalls up_to r.sessions cs) e)
    → (d : Detail) (e : Ending) → of d e ≡ lines_between d first second (report_by known says (contents (notes messages))) (shortfalls_by known says messages up_to) e
counted_lines reviewed law known says messages first second up_to r cs of told counted found = λ d e.
    found (reviewed_by reviewed law known says messages r cs told counted) d e
    ∙ (λ i. lines_between d first second (told i) (log_shortfalls up_to (told i).sessions (counted i)) e)

pub makes_beside : (form : ReportForm) (detail : Detail) (beside : Beside) (known : Option (List (List ℕ))) (says : Answers) (options : ReadOptions) (before after : Source) (messages : List (List ℕ)) (ending : Ending)
    → ReadsLog options before after messages ending → after.failed ≡ false
    → (bs : List LogBlock) (r : Report) (m : Option Missing) (verdict : Verdict)
    → ((report : Report) → front_lines detail bs report ≡ front_lines detail (log_blocks (blocks (notes messages))) report)
    → r ≡ report_by known says (contents (notes messages))
    → ((d : Detail) (e : Ending) → lines_beside d r m e ≡ lines_by known d says beside messages e) → verdict ≡ verdict_where detail.ignore_strangers (told_beside (itemizing detail) bs r m ending)
    → Makes (reviewing_beside form detail beside known says) options before after (flat_map (line_as form) (told_beside detail bs r m ending)) verdict
makes_beside form detail beside known says options before after messages ending reading no_read_failed bs r m verdict needed told same judged =
    let front : front_lines detail bs r ≡ front_by known detail says messages
    = needed r ∙ ap (front_lines detail (log_blocks (blocks (notes messages)))) told in
    record {
      messages = messages;
      ending = ending;
      reading = reading;
      no_read_failed = no_read_failed;
      unrefused = refl;
      output_is = ap (flat_map (line_as form)) (λ i. front i ++ same detail ending i);
      verdict_is = judged ∙ ap (verdict_where detail.ignore_strangers) (λ i. front i ++ same (itemizing detail) ending i);
    }
