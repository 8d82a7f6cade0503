use Rattle.ss_laws.proofs.of_ahead.LastCounters.{last_counters}
use Rattle.ss_laws.proofs.ahead.whole_logs_give_the_last_counters.Goals as goal

pub returns : goal.returns
returns c =
    last_counters (record {
      verified = c.blocks_are_verified.ensures;
      joined = c.joined_by_fragments.ensures;
      announced = c.announced_by_blocks.ensures;
      told = c.announced_are_told.ensures;
      by_key = c.keys_are_announced.ensures;
      follows = c.next_numbers_follow.ensures;
      others = c.others_are_sent.ensures;
      spris = c.spris_are_small.ensures;
    }) c.numbers_go_on.ensures c.sent_blocks_are_counted.ensures c.next_gbc_follows.ensures c.reports_are_in_order.ensures
