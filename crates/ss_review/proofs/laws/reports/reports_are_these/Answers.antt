-- Each report is computed.
use Rattle.std.proofs.Common.{refl}
use Rattle.ss_review.specs.announced.Announced.{rows, keys}
use Rattle.ss_review.specs.assign.Assigned.{pair_of_bearer, places_with, wanted, rank, assigned, is_taken}
use Rattle.ss_review.specs.report.Entries.{group_keys, entries}
use Rattle.ss_review.specs.Ordered.{in_order}
use Rattle.ss_review.specs.sessions.Payloads.{is_disputed, cover, joined_text, stated_payload}
use Rattle.ss_review.specs.report.Report.{report_of}
use Rattle.ss_review.specs.report.Verdict.{is_clean}
use Rattle.ss_review.specs.sessions.Verified.{joined, is_verified}
use Rattle.ss_block.specs.PayloadReading.{stamp_in, stamp_and_rest_in, blob_in, payload_in}
use Rattle.ss_octets.specs.Cut.{parts_at}
use Rattle.ss_review.proofs.laws.reports.reports_are_these.Goals as goal

pub returns : goal.returns
unfolding rows keys pair_of_bearer places_with wanted rank assigned is_taken group_keys entries in_order is_disputed cover joined_text stated_payload report_of is_clean joined is_verified parts_at stamp_in stamp_and_rest_in blob_in payload_in
returns c = record {
  whole = refl;
  blocks_first = refl;
  one_lost = refl;
  repeated_block = refl;
  one_for_two = refl;
  three_for_one = refl;
  two_for_two = refl;
  disputed = refl;
  disputed_algorithms = refl;
  disputed_twin = refl;
  two_of_one_hash = refl;
  fragments_in_reverse = refl;
  fragment_missing = refl;
  two_payloads = refl;
  two_totals = refl;
  great_number = refl;
  holes = refl;
  spoilt_block = refl;
  two_sessions = refl;
  malformed = refl;
  untrusted = refl;
  unaccepted = refl;
  certificate_alone = refl;
  certificate_missing = refl;
  two_hosts = refl;
  two_hosts_payloads = refl;
  order_of_sessions = refl;
  nothing = refl;
  whole_is_clean = refl;
  one_lost_is_not = refl;
}
