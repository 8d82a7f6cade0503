use Rattle.std.proofs.Common.{◌≡◌, ℕ, List, Option, Some, None, sym, ◌∙◌, subst}
use Rattle.ss_review.specs.Laws.{ReportsAreInOrder}
use Rattle.ss_review.specs.declared.report.report.Report.{Report}
use Rattle.ss_review.specs.keep.Contents.{contents}
use Rattle.ss_review.specs.pinned.Pinned.{report_by}
use Rattle.ss_review.specs.report.Meaning.{IsInOrder}
use Rattle.ss_review.specs.pinned.Stands.{PinnedReportsAreInOrder}
use Rattle.ss_review.specs.keep.Notes.{notes}
use Rattle.ss_review.specs.sessions.Verified.{Answers, answers}
use Rattle.ss_report.specs.runs.Run.{given}
use Rattle.ss_report.specs.lines.Between.{end_counters}
use Rattle.ss_report.proofs.of_reports.WholeLines.{counted_lines}
use Rattle.ss_report.proofs.runs.concluding.conclude.Goals as goal

pub returns-in_ok-beside_counted-in-Missing-clause-made : goal.returns-in_ok-beside_counted-in-Missing-clause-made
returns-in_ok-beside_counted-in-Missing-clause-made g c = λ messages keeps.
    let says = answers g.J.Judge.trusted g.J.Judge.valid c.args.judge in
    let found = c.in_ok-counted-in-Missing in
    let told = found.ensures.report (notes messages) keeps in
    let counted = found.ensures.counted (notes messages) keeps in
    let lines = rw c.end_counters-ends.ensures at c.in_ok-beside_counted-in-Missing.ensures.made in
    rw c.in-Missing.is
    (counted_lines c.logs_are_reviewed.ensures c.pinned_reports_are_of_logs.ensures (given c.args.known) says messages None None (end_counters (given c.in-Missing.up_to)) found.counted.report found.counted.counted _ told counted lines)

pub returns-in_ok-beside_counted-in-Night-clause-made : goal.returns-in_ok-beside_counted-in-Night-clause-made
returns-in_ok-beside_counted-in-Night-clause-made g c = λ messages keeps.
    let says = answers g.J.Judge.trusted g.J.Judge.valid c.args.judge in
    let found = c.in_ok-counted-in-Night in
    let told = found.ensures.report (notes messages) keeps in
    let counted = found.ensures.counted (notes messages) keeps in
    let second = given c.in-Night.second in
    let lines = rw c.end_counters-ends-in-Night.ensures at c.in_ok-beside_counted-in-Night.ensures.made in
    rw c.in-Night.is
    (counted_lines c.logs_are_reviewed.ensures c.pinned_reports_are_of_logs.ensures (given c.args.known) says messages (Some c.in-Night.first.now) second (end_counters second) found.counted.report found.counted.counted _ told counted lines)

-- such a report is in order
in_order : ReportsAreInOrder → PinnedReportsAreInOrder → (known : Option (List (List ℕ))) (says : Answers) (messages : List (List ℕ)) (r : Report)
    → r ≡ report_by known says (contents (notes messages)) → IsInOrder r
in_order reports pinned None says messages r told = subst IsInOrder (sym told) (reports says messages)
in_order reports pinned (Some ps) says messages r told = subst IsInOrder (sym told) (pinned says ps messages)

pub returns-in_ok-report-in-Nothing-clause-rising : goal.returns-in_ok-report-in-Nothing-clause-rising
returns-in_ok-report-in-Nothing-clause-rising g c = λ messages keeps.
    in_order c.reports_are_in_order.ensures c.pinned_reports_are_in_order.ensures (given c.args.known) (answers g.J.Judge.trusted g.J.Judge.valid c.args.judge) messages _ (c.in_ok-report-in-Nothing.ensures.report (notes messages) keeps)

pub returns-in_ok-beside_counted-in-Missing-clause-told : goal.returns-in_ok-beside_counted-in-Missing-clause-told
returns-in_ok-beside_counted-in-Missing-clause-told g c = λ messages keeps.
    c.in_ok-beside_counted-in-Missing.ensures.told ∙ c.in_ok-counted-in-Missing.ensures.report (notes messages) keeps

pub returns-in_ok-beside_counted-in-Missing-clause-rising : goal.returns-in_ok-beside_counted-in-Missing-clause-rising
returns-in_ok-beside_counted-in-Missing-clause-rising g c = λ messages keeps.
    in_order c.reports_are_in_order.ensures c.pinned_reports_are_in_order.ensures (given c.args.known) (answers g.J.Judge.trusted g.J.Judge.valid c.args.judge) messages _
    (c.in_ok-beside_counted-in-Missing.ensures.told ∙ c.in_ok-counted-in-Missing.ensures.report (notes messages) keeps)

pub returns-in_ok-beside_counted-in-Night-clause-told : goal.returns-in_ok-beside_counted-in-Night-clause-told
returns-in_ok-beside_counted-in-Night-clause-told g c = λ messages keeps.
    c.in_ok-beside_counted-in-Night.ensures.told ∙ c.in_ok-counted-in-Night.ensures.report (notes messages) keeps

pub returns-in_ok-beside_counted-in-Night-clause-rising : goal.returns-in_ok-beside_counted-in-Night-clause-rising
returns-in_ok-beside_counted-in-Night-clause-rising g c = λ messages keeps.
    in_order c.reports_are_in_order.ensures c.pinned_reports_are_in_order.ensures (given c.args.known) (answers g.J.Judge.trusted g.J.Judge.valid c.args.judge) messages _
    (c.in_ok-beside_counted-in-Night.ensures.told ∙ c.in_ok-counted-in-Night.ensures.report (notes messages) keeps)
