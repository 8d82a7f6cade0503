-- The bearers of the first wanted hashes are found, and none of the others is below the hash that was asked for last.
use Rattle.std.proofs.Common.{◌≡◌, length, map}
use Rattle.ss_review.specs.assign.StoredHashes.{listed, IsInOrder, FoundLast, keyed}
use Rattle.ss_review.proofs.of_assignment.Searches.{BearingsSoFar, NoneIsBelow}
use Rattle.ss_review.proofs.assign.bearers.find_bearers.Given as goal

abbrev pub invariant-loop-one : goal.invariant-loop-one
invariant-loop-one l =
    (length l.found.items ≡ length l.hashes)
    × (l.search.list ≡ l.list)
    × NoneIsBelow (map keyed l.one-items) l.one-index l.search.last
    × (IsInOrder l.list → FoundLast (listed l.list.pairs.now l.list.entries.now) l.search.start l.search.found l.search.last × BearingsSoFar (listed l.list.pairs.now l.list.entries.now) l.hashes (map keyed l.one-items) l.one-index l.found.items)
