use Rattle.std.proofs.Common.{◌≡◌, ◌∙◌, ap, refl}
use Rattle.std.specs.Prelude.{sum_by}
use Rattle.ss_review.specs.keep.Notes.{notes}
use Rattle.ss_review.specs.keep.Contents.{blocks, contents}
use Rattle.ss_review.specs.sessions.Verified.{answers}
use Rattle.ss_review.specs.pinned.Pinned.{counted_by, report_by}
use Rattle.ss_report.specs.runs.Run.{given}
use Rattle.ss_report.specs.runs.Counters.{counter_lines_with, how_many}
use Rattle.ss_report.proofs.of_reports.CountersWritten.{counters_are, report_in_range}
use Rattle.ss_report.proofs.runs.counters.count_log.Goals as goal

pub returns-clause-made : goal.returns-clause-made
returns-clause-made g c =
    let says = answers g.J.Judge.trusted g.J.Judge.valid c.args.judge in
    let fed = c.in_ok-reviewer.ensures.fed in
    let counted = c.in_ok-report.report in
    let known = given c.args.known in
    let told : counted.report ≡ report_by known says (contents (notes fed.messages)) = c.in_ok-report.ensures.report (notes fed.messages) fed.keeps in
    let found : counted.counted ≡ counted_by known says (blocks (notes fed.messages)) = c.in_ok-report.ensures.counted (notes fed.messages) fed.keeps in (
      λ notation. record {
        messages = fed.messages;
        ending = c.in_ok-reviewer.field-0.ending;
        reading = fed.reading;
        no_read_failed = fed.no_read_failed;
        unrefused = refl;
        output_is = (λ i. counter_lines_with notation (told i) (found i)) ∙ counters_are notation known says fed.messages;
        verdict_is = c.end_verdict-verdict.ensures;
      },
      report_in_range c.counted_are_in_range.ensures c.next_numbers_are_in_range.ensures c.pinned_reports_are_of_logs.ensures known says fed.messages counted.report counted.counted told found,
      c.in-Some.ensures ∙ ap (sum_by how_many) c.as_slice.ensures,
    )
