use Rattle.ss_review.proofs.of_reports.PlacesTold.{every_place}
use Rattle.ss_review.proofs.laws.reports.every_place_is_told.Goals as goal

pub returns : goal.returns
returns c = every_place c.blocks_are_signed.ensures
