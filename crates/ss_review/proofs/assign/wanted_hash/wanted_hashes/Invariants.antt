-- Those so far are hashes of the list with their numbers, each hash so far is among them, and they begin as these.
use Rattle.ss_review.proofs.of_assignment.WantedHashes.{WantedThere}
use Rattle.ss_review.proofs.assign.wanted_hash.wanted_hashes.Given as goal

abbrev pub invariant-loop-key : goal.invariant-loop-key
invariant-loop-key l = WantedThere l.hashes l.wanted.items l.key
