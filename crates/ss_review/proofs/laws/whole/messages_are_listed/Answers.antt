use Rattle.ss_review.proofs.of_deliveries.WholeListings.{messages_are_listed}
use Rattle.ss_review.proofs.laws.whole.messages_are_listed.Goals as goal

pub returns : goal.returns
returns c = messages_are_listed c.messages_are_stored.ensures c.numbers_are_announced.ensures c.numbers_are_listed.ensures c.messages_are_in_groups.ensures c.spris_are_small.ensures
