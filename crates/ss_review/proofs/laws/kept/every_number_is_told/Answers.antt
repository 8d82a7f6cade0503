use Rattle.ss_review.proofs.of_counters.Fates.{every_number}
use Rattle.ss_review.proofs.laws.kept.every_number_is_told.Goals as goal

pub returns : goal.returns
returns c =
    every_number c.announced_are_told.ensures c.reports_are_in_order.ensures c.next_numbers_follow.ensures c.counted_are_verified.ensures c.one_report.ensures c.listed_are_assigned.ensures c.gaps_are_unassigned.ensures c.keys_are_announced.ensures
