-- A message is among those with its hashes.
use Rattle.std.proofs.Common.{List, filter}
use Rattle.ss_review.specs.declared.keep.message.NormalMessage.{NormalMessage}
use Rattle.ss_review.specs.assign.Assigned.{same_pair, places_with}
use Rattle.ss_review.proofs.of_lists.Counting.{same_itself}
use Rattle.ss_octets.proofs.Members.{Has, has-map, has-filter}

pub with_itself : (ms : List NormalMessage) (m : NormalMessage) → Has ms m → Has (places_with ms m.pair) m.place
unfolding places_with
with_itself ms m h = has-map (λ (n : NormalMessage). n.place) (filter (λ (n : NormalMessage). same_pair n.pair m.pair) ms) m (has-filter (λ (n : NormalMessage). same_pair n.pair m.pair) ms m h (same_itself m.pair))
