use Rattle.ss_laws.proofs.of_strangers.cases.SmallListing.{small_listing}
use Rattle.ss_laws.proofs.strangers.cases.small_listing_is_this.Goals as goal

pub returns : goal.returns
returns c =
    small_listing (record {
      signatures = c.signatures_are_read.ensures;
      certificates_read = c.certificates_are_read.ensures;
      met = c.premises_are_met.ensures;
      reported = c.whole_is_reported.ensures;
      within = c.logs_are_within.ensures;
      go_on = c.cases_go_on_ahead.ensures;
      claim = c.arrived_payloads_claim.ensures;
      agree = c.reports_agree.ensures;
      anywhere = c.added_anywhere.ensures;
      take_nothing = c.strangers_take_nothing.ensures;
      lists = c.pinned_reports_list_what_is_announced.ensures;
    })
