use Rattle.std.proofs.Common.{◌≡◌, arith}
use Rattle.ss_block.specs.Hashes.{pair}
use Rattle.ss_review.specs.deliveries.Delivery.{submitted_to}
use Rattle.ss_review.specs.deliveries.DeliveryLaws.{rank_in}
use Rattle.ss_review.proofs.of_assignment.DifferentPairs.{at_most_one}
use Rattle.ss_review.proofs.of_assignment.StoredPairs.{places_stored}
use Rattle.ss_review.proofs.of_reports.ToldNumbers.{told_key}
use Rattle.ss_review.proofs.laws.deliveries.listed_where_stored.Goals as goal

pub returns : goal.returns
returns c = λ x is tell others differ k m own told given.
    (let p = pair m in
    let key = told_key c.announced_are_told.ensures c.keys_are_announced.ensures x k told in
    let first : rank_in x k p ≡ 0 = omega (arith, c.ranks_are_below_counts.ensures x is k m own key given, at_most_one p (submitted_to x.chain) differ) in
    let by_rank = c.listed_by_rank.ensures x is tell others k m own told given in (
      λ l. (places_stored x m).0 (omega (arith, first, by_rank.0 l)),
      λ s. by_rank.1 (omega (arith, first, (places_stored x m).1 s)),
    ))
