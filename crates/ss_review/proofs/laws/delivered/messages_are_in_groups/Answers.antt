use Rattle.ss_review.proofs.of_deliveries.GroupCounts.{in_groups_all}
use Rattle.ss_review.proofs.laws.delivered.messages_are_in_groups.Goals as goal

pub returns : goal.returns
returns c = λ config chain test groups small. in_groups_all config test groups small chain
