use Rattle.ss_review.proofs.of_reports.Listings.{listed_assigned, assigned_listed}
use Rattle.ss_laws.specs.carry.Nights.{night_log}
use Rattle.ss_laws.proofs.carry.settled_are_listed.Goals as goal

pub returns : goal.returns
returns c = λ says x night k place. (assigned_listed says (night_log x night) k place, listed_assigned says (night_log x night) k place)
