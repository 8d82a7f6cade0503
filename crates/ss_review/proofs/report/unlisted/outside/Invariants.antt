-- Those of the places so far that aren't among the others.
use Rattle.std.proofs.Common.{◌≡◌, ◌==◌, not, take, filter}
use Rattle.std.specs.List.{list_any}
use Rattle.ss_review.proofs.report.unlisted.outside.Given as goal

abbrev pub invariant-loop-place : goal.invariant-loop-place
invariant-loop-place l = l.outside.items ≡ filter (λ place. not (list_any (λ p. p == place) l.others)) (take l.place-index l.places)
