use Rattle.ss_review.specs.keep.Notes.{notes}
use Rattle.ss_review.specs.keep.Contents.{contents}
use Rattle.ss_review.proofs.of_reports.Listings.{listed_assigned}
use Rattle.ss_review.proofs.of_reports.Witnesses.{witnessed}
use Rattle.ss_review.proofs.laws.reports.listed_are_witnessed.Goals as goal

pub returns : goal.returns
returns c = λ says log k place listed. witnessed c.blocks_are_in_range.ensures says log k place (listed_assigned says (contents (notes log)) k place listed)
