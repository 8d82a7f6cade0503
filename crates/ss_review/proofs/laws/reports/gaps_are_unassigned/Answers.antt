use Rattle.ss_review.specs.keep.Notes.{notes}
use Rattle.ss_review.specs.keep.Contents.{contents}
use Rattle.ss_review.proofs.of_reports.Listings.{gaps_are}
use Rattle.ss_review.proofs.laws.reports.gaps_are_unassigned.Goals as goal

pub returns : goal.returns
returns c = λ says log. gaps_are says (contents (notes log))
