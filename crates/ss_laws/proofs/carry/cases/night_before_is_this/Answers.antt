-- Each report is computed.
use Rattle.std.proofs.Common.{refl}
use Rattle.ss_block.specs.PayloadReading.{stamp_in, stamp_and_rest_in, blob_in, payload_in}
use Rattle.ss_octets.specs.Cut.{parts_at}
use Rattle.ss_report.specs.runs.Carrying.{carried_by}
use Rattle.ss_review.specs.announced.Announced.{rows, keys}
use Rattle.ss_review.specs.assign.Assigned.{pair_of_bearer, places_with, wanted, rank, assigned, is_taken}
use Rattle.ss_review.specs.report.Entries.{group_keys, entries}
use Rattle.ss_review.specs.report.Report.{report_of}
use Rattle.ss_review.specs.report.Rows.{yes}
use Rattle.ss_review.specs.sessions.Payloads.{is_disputed, cover, joined_text, stated_payload}
use Rattle.ss_review.specs.sessions.Verified.{joined, is_verified}
use Rattle.ss_review.specs.Ordered.{in_order}
use Rattle.ss_laws.specs.carry.cases.NightRows.{disputed_later}
use Rattle.ss_laws.proofs.of_carry.cases.CopiedLater.{copied_leave, copied_follow, copied_agree, copied_settled, copied_fails, disputed_fails}
use Rattle.ss_laws.proofs.of_carry.PremisesBefore.{first_agrees}
use Rattle.ss_laws.proofs.carry.cases.night_before_is_this.Goals as goal

pub returns : goal.returns
unfolding rows keys pair_of_bearer places_with wanted rank assigned is_taken group_keys entries in_order is_disputed cover joined_text stated_payload report_of joined is_verified parts_at stamp_in stamp_and_rest_in blob_in payload_in carried_by
returns c = record {
  copied_leave = copied_leave;
  copied_follow = copied_follow;
  copied_agree = copied_agree;
  copied_settled = copied_settled;
  copied_fails = copied_fails;
  copied_second = refl;
  copied_so_far = refl;
  copied_third = refl;
  copied_whole = refl;
  disputed_first = first_agrees yes disputed_later;
  disputed_fails = disputed_fails;
}
