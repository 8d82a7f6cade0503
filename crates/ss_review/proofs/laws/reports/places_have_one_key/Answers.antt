use Rattle.ss_review.specs.keep.Notes.{notes}
use Rattle.ss_review.specs.keep.Contents.{normals, blocks}
use Rattle.ss_review.specs.announced.Announced.{rows}
use Rattle.ss_review.proofs.of_assignment.OnePlaceOneKey.{one_key}
use Rattle.ss_review.proofs.of_kept_messages.PlacesRise.{normals_rise}
use Rattle.ss_review.proofs.laws.reports.places_have_one_key.Goals as goal

pub returns : goal.returns
returns c = λ says log. one_key (normals (notes log)) (rows says (blocks (notes log))) (normals_rise (notes log))
