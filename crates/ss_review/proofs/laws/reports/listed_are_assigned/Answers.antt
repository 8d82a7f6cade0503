use Rattle.ss_review.specs.keep.Notes.{notes}
use Rattle.ss_review.specs.keep.Contents.{contents}
use Rattle.ss_review.proofs.of_reports.Listings.{listed_assigned, assigned_listed}
use Rattle.ss_review.proofs.laws.reports.listed_are_assigned.Goals as goal

pub returns : goal.returns
returns c = λ says log k place. (listed_assigned says (contents (notes log)) k place, assigned_listed says (contents (notes log)) k place)
