use Rattle.ss_review.proofs.of_deliveries.SmallReports.{whole_is_reported}
use Rattle.ss_review.proofs.laws.cases.whole_is_reported.Goals as goal

pub returns : goal.returns
returns c =
    whole_is_reported (record {
      values = c.readings_are_of_values.ensures;
      signatures = c.signatures_are_read.ensures;
      certificates = c.certificates_are_read.ensures;
    }) c.premises_are_met.ensures c.joined_by_fragments.ensures c.announced_by_blocks.ensures c.listed_where_stored.ensures
    c.whole_deliveries_are_clean.ensures c.counted_or_missing.ensures c.next_gbc_follows.ensures c.counters_given_back.ensures c.cases_go_on_ahead.ensures
