-- The entries so far, and those of the messages that are left, are all.
use Rattle.std.proofs.Common.{◌≡◌, ◌++◌, drop, map}
use Rattle.ss_review.specs.assign.StoredHashes.{entry_of}
use Rattle.ss_review.proofs.assign.stored_hashes.add_entries.Given as goal

abbrev pub invariant-loop-message : goal.invariant-loop-message
invariant-loop-message l =
    l.list.items ++ map (entry_of l.pairs l.alg) (drop l.message-index l.messages) ≡ l.initial.list.items ++ map (entry_of l.pairs l.alg) l.messages
