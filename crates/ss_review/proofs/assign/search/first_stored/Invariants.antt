-- Of those up to the index, the first that was stored is found.
use Rattle.std.proofs.Common.{◌≡◌, ◌≤◌, ◌-◌, length, take}
use Rattle.std.specs.Prelude.{Contains}
use Rattle.std.specs.declared.cmp.Ordering.TheVariants.{Less}
use Rattle.ss_block.specs.Order.{hash_cmp}
use Rattle.ss_review.specs.declared.assign.stored_hash.StoredHash.{StoredHash}
use Rattle.ss_review.specs.assign.StoredHashes.{listed, AllBegin, IsBearerAt}
use Rattle.ss_review.proofs.assign.search.first_stored.Given as goal

abbrev pub invariant-loop-first : goal.invariant-loop-first
invariant-loop-first l = (l.start ≤ l.index) × (AllBegin l.list → ((e : StoredHash) → Contains (take l.start (listed l.list.pairs.now l.list.entries.now)) e → hash_cmp e.hash l.hash ≡ Less) → IsBearerAt (take l.index (listed l.list.pairs.now l.list.entries.now)) l.hash l.first)

abbrev pub decreases-loop-first : goal.decreases-loop-first
decreases-loop-first l = length l.list.entries.now - l.index
