use Rattle.ss_laws.proofs.of_nights.OwnCounters.{announced_below}
use Rattle.ss_laws.proofs.nights.announced_are_below_own_counters.Goals as goal

pub returns : goal.returns
returns c =
    announced_below c.announced_are_told.ensures c.next_numbers_follow.ensures c.blocks_are_in_range.ensures c.pinned_reports_are_of_logs.ensures
