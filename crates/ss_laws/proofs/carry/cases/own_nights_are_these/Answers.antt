-- Each report is computed.
use Rattle.std.proofs.Common.{refl}
use Rattle.ss_block.specs.PayloadReading.{stamp_in, stamp_and_rest_in, blob_in, payload_in}
use Rattle.ss_octets.specs.Cut.{parts_at}
use Rattle.ss_report.specs.runs.Carrying.{carried_by}
use Rattle.ss_review.specs.announced.Announced.{rows, keys}
use Rattle.ss_review.specs.assign.Assigned.{pair_of_bearer, places_with, wanted, rank, assigned, is_taken}
use Rattle.ss_review.specs.report.Entries.{group_keys, entries}
use Rattle.ss_review.specs.report.Report.{report_of}
use Rattle.ss_review.specs.sessions.Payloads.{is_disputed, cover, joined_text, stated_payload}
use Rattle.ss_review.specs.sessions.Verified.{joined, is_verified}
use Rattle.ss_review.specs.Ordered.{in_order}
use Rattle.ss_laws.proofs.of_carry.cases.EachItsOwn.{its_own_follow, its_own_agree}
use Rattle.ss_laws.proofs.of_carry.cases.SmallAnswers.{answered_agree, answered_leave, unanswered_leave, unanswered_differ}
use Rattle.ss_laws.proofs.carry.cases.own_nights_are_these.Goals as goal

pub returns : goal.returns
unfolding rows keys pair_of_bearer places_with wanted rank assigned is_taken group_keys entries in_order is_disputed cover joined_text stated_payload report_of joined is_verified parts_at stamp_in stamp_and_rest_in blob_in payload_in carried_by
returns c = record {
  answered_agree = answered_agree;
  answered_leave = answered_leave;
  answered_follow = its_own_follow;
  answered_later = its_own_agree;
  answered_first = refl;
  answered_last = refl;
  answered_whole = refl;
  unanswered_leave = unanswered_leave;
  unanswered_differ = unanswered_differ;
  unanswered_first = refl;
  unanswered_last = refl;
  unanswered_whole = refl;
}
