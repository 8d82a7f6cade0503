use Rattle.ss_review.specs.keep.Notes.{notes}
use Rattle.ss_review.specs.keep.Contents.{contents}
use Rattle.ss_review.specs.report.Report.{report}
use Rattle.ss_review.proofs.of_reports.OneReport.{is_report}
use Rattle.ss_review.proofs.of_reports.SameReports.{same_report}
use Rattle.ss_review.proofs.laws.reports.one_report.Goals as goal

pub returns : goal.returns
returns c = (
  λ says log. is_report says (notes log),
  λ says log r is. same_report says (contents (notes log)) r (report says log) is (is_report says (notes log)),
)
