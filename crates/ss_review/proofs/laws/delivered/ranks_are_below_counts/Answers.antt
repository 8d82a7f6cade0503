use Rattle.std.proofs.Common.{ap, ◌∙◌}
use Rattle.ss_block.specs.Hashes.{pair}
use Rattle.ss_review.specs.announced.Announced.{keys}
use Rattle.ss_review.specs.assign.Assigned.{is_pair}
use Rattle.ss_review.specs.deliveries.DeliveryLaws.{rows_in, pair_of}
use Rattle.ss_review.proofs.of_lists.Counting.{same_itself}
use Rattle.ss_octets.proofs.Members.{has_from_contains}
use Rattle.ss_review.proofs.of_deliveries.OwnNumbers.{rank_below_count}
use Rattle.ss_review.proofs.laws.delivered.ranks_are_below_counts.Goals as goal

pub returns : goal.returns
returns c = λ x is k m own announced given.
    rank_below_count x (pair m) c.spris_are_small.ensures c.messages_are_in_groups.ensures c.keys_have_blocks.ensures is k own
    (has_from_contains (keys (rows_in x)) k announced)
    (ap (λ o. is_pair (pair m) (pair_of o)) given ∙ same_itself (pair m))
