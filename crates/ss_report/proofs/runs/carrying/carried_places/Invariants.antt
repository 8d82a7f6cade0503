use Rattle.std.proofs.Common.{◌≡◌, ◌≤◌, ◌++◌, ◌-◌, [], length, take}
use Rattle.ss_review.specs.keep.Contents.{blocks}
use Rattle.ss_review.specs.keep.Notes.{notes}
use Rattle.ss_report.specs.runs.CarriedSoFar.{KnowsExtents, carried_along}
use Rattle.ss_report.proofs.runs.carrying.carried_places.Given as goal

abbrev pub invariant-loop-text : goal.invariant-loop-text
invariant-loop-text l = record {
  within : l.place ≤ length l.messages;
  places : l.carried.places.items ≡ l.report.unlisted ++ carried_along l.report [] (blocks (notes (take l.place l.messages)));
  known : KnowsExtents l.report (blocks (notes (take l.place l.messages))) l.carried.known;
}

abbrev pub decreases-loop-text : goal.decreases-loop-text
decreases-loop-text l = length l.messages - l.place
