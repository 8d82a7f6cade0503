-- The places so far, and those of the rest, are all; and each bearer was counted as often as it was wanted so far.
use Rattle.std.proofs.Common.{◌≡◌, ◌<◌, ◌++◌, List, [], take, drop, map, length}
use Rattle.std.specs.Prelude.{Contains}
use Rattle.std.specs.Ordering.{nat_cmp}
use Rattle.std.specs.List.Sorted.{IsStrictlySortedBy}
use Rattle.ss_review.specs.declared.keep.message.NormalMessage.{NormalMessage}
use Rattle.ss_review.specs.keep.Stored.{Tells}
use Rattle.ss_review.specs.assign.Assigning.{pairs_wanted, bearers_wanted, assigned_after}
use Rattle.ss_review.specs.assign.StoredHashes.{Tallies}
use Rattle.ss_review.proofs.assign.places.assigned_places.Given as goal

abbrev pub invariant-loop-at : goal.invariant-loop-at
invariant-loop-at l = (ms : List NormalMessage)
    → Tells l.pairs l.messages ms
    → IsStrictlySortedBy nat_cmp (map (λ (m : NormalMessage). m.place) ms)
    → (l.places.items ++ assigned_after ms (pairs_wanted ms (take l.at-index l.hashes)) (pairs_wanted ms (drop l.at-index l.hashes)) ≡ assigned_after ms [] (pairs_wanted ms l.hashes))
    × Tallies l.counters (bearers_wanted ms (take l.at-index l.hashes))
    × ((m : NormalMessage) → Contains ms m → m.place < length l.counters.counts.items)
