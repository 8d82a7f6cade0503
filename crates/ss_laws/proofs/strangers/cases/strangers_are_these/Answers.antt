-- Each report is computed.
use Rattle.std.proofs.Common.{refl}
use Rattle.ss_review.specs.announced.Announced.{rows, keys}
use Rattle.ss_review.specs.assign.Assigned.{pair_of_bearer, places_with, wanted, rank, assigned, is_taken}
use Rattle.ss_review.specs.report.Entries.{group_keys, entries}
use Rattle.ss_review.specs.Ordered.{in_order}
use Rattle.ss_review.specs.sessions.Payloads.{is_disputed, cover, joined_text, stated_payload}
use Rattle.ss_review.specs.report.Report.{report_of}
use Rattle.ss_review.specs.sessions.Verified.{joined, is_verified}
use Rattle.ss_block.specs.PayloadReading.{stamp_in, stamp_and_rest_in, blob_in, payload_in}
use Rattle.ss_octets.specs.Cut.{parts_at}
use Rattle.ss_review.specs.pinned.Pinned.{claims, keeps}
use Rattle.ss_laws.proofs.of_strangers.cases.StrangerRows.{premises_met, given_back}
use Rattle.ss_laws.proofs.strangers.cases.strangers_are_these.Goals as goal

pub returns : goal.returns
unfolding rows keys pair_of_bearer places_with wanted rank assigned is_taken group_keys entries in_order is_disputed cover joined_text stated_payload report_of joined is_verified parts_at stamp_in stamp_and_rest_in blob_in payload_in claims keeps
returns c = record {
  premises = premises_met refl refl;
  disputed = refl;
  ended = refl;
  joined_under = refl;
  robbed = refl;
  given_back = given_back;
  same = refl;
  two_dispute = refl;
  one_joins = refl;
  from_zero_claims = refl;
  from_zero = refl;
  twin = refl;
  unclaimed = refl;
  unclaimed_disputed = refl;
}
