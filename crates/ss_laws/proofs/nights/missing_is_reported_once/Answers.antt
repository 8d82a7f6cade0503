use Rattle.ss_laws.proofs.of_nights.Missing.{missing_once}
use Rattle.ss_laws.proofs.nights.missing_is_reported_once.Goals as goal

pub returns : goal.returns
returns c =
    missing_once c.announced_are_told.ensures c.reports_are_in_order.ensures c.next_numbers_follow.ensures c.counted_are_verified.ensures c.counted_or_missing.ensures c.next_gbc_follows.ensures c.pinned_reports_are_of_logs.ensures
