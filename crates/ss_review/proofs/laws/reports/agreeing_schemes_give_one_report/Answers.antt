use Rattle.ss_review.specs.keep.Notes.{notes}
use Rattle.ss_review.specs.keep.Contents.{contents}
use Rattle.ss_review.proofs.of_questions.AgreeingSchemes.{one_report_of}
use Rattle.ss_review.proofs.laws.reports.agreeing_schemes_give_one_report.Goals as goal

pub returns : goal.returns
returns c = λ says other log alike. one_report_of says other (contents (notes log)) alike
