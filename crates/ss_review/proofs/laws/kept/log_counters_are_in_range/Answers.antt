use Rattle.ss_review.proofs.of_counters.CountersInRange.{log_counters_are_in_range}
use Rattle.ss_review.proofs.laws.kept.log_counters_are_in_range.Goals as goal

pub returns : goal.returns
returns c =
    log_counters_are_in_range c.faults_are_of_no_message.ensures c.blocks_are_in_range.ensures c.keys_are_announced.ensures c.counted_are_in_range.ensures c.next_numbers_are_in_range.ensures c.next_numbers_follow.ensures
