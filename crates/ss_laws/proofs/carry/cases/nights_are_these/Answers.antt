-- Each report is computed.
use Rattle.std.proofs.Common.{refl}
use Rattle.ss_review.specs.announced.Announced.{rows, keys}
use Rattle.ss_review.specs.assign.Assigned.{pair_of_bearer, places_with, wanted, rank, assigned, is_taken}
use Rattle.ss_review.specs.report.Entries.{group_keys, entries}
use Rattle.ss_review.specs.Ordered.{in_order}
use Rattle.ss_review.specs.sessions.Payloads.{is_disputed, cover, joined_text, stated_payload}
use Rattle.ss_review.specs.report.Report.{report_of}
use Rattle.ss_review.specs.sessions.Verified.{joined, is_verified}
use Rattle.ss_block.specs.PayloadReading.{stamp_in, stamp_and_rest_in, blob_in, payload_in}
use Rattle.ss_octets.specs.Cut.{parts_at}
use Rattle.ss_laws.proofs.of_carry.cases.EachItsOwn.{its_own_leave, its_own_follow, its_own_agree, its_own_settled}
use Rattle.ss_laws.proofs.of_carry.cases.SettledRows.{disputed_unkept, hash_unkept, again_unkept, lost_unkept, twins_unkept, wanted_unkept}
use Rattle.ss_laws.proofs.carry.cases.nights_are_these.Goals as goal

pub returns : goal.returns
unfolding rows keys pair_of_bearer places_with wanted rank assigned is_taken group_keys entries in_order is_disputed cover joined_text stated_payload report_of joined is_verified parts_at stamp_in stamp_and_rest_in blob_in payload_in
returns c = record {
  its_own_leave = its_own_leave;
  its_own_follow = its_own_follow;
  its_own_agree = its_own_agree;
  its_own_settled = its_own_settled;
  its_own_first = refl;
  its_own_last = refl;
  its_own_whole = refl;
  disputed_settled = record { listed = refl; unkept = disputed_unkept };
  disputed_last = refl;
  disputed_whole = refl;
  hash_settled = record { listed = refl; unkept = hash_unkept };
  hash_last = refl;
  hash_whole = refl;
  again_settled = record { listed = refl; unkept = again_unkept };
  again_last = refl;
  again_whole = refl;
  lost_settled = record { listed = refl; unkept = lost_unkept };
  lost_last = refl;
  lost_whole = refl;
  twins_settled = record { listed = refl; unkept = twins_unkept };
  twins_last = refl;
  twins_whole = refl;
  wanted_settled = record { listed = refl; unkept = wanted_unkept };
  wanted_last = refl;
  wanted_whole = refl;
}
