use Rattle.ss_laws.proofs.of_strangers.PinnedListings.{lists_what_is_announced}
use Rattle.ss_laws.proofs.strangers.reports.pinned_reports_list_what_is_announced.Goals as goal

pub returns : goal.returns
returns c =
    lists_what_is_announced c.reports_list_what_is_announced.ensures c.pinned_reports_are_of_logs.ensures c.pinned_reports_are_in_order.ensures c.blocks_are_in_range.ensures
