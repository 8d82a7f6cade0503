-- Each report is computed.
use Rattle.std.proofs.Common.{refl}
use Rattle.ss_review.specs.announced.Announced.{rows, keys}
use Rattle.ss_review.specs.assign.Assigned.{pair_of_bearer, places_with, wanted, rank, assigned, is_taken}
use Rattle.ss_review.specs.report.Entries.{group_keys, entries}
use Rattle.ss_review.specs.Ordered.{in_order}
use Rattle.ss_review.specs.sessions.Payloads.{is_disputed, cover, joined_text, stated_payload}
use Rattle.ss_review.specs.report.Report.{report_of}
use Rattle.ss_review.specs.report.Verdict.{is_clean}
use Rattle.ss_review.specs.sessions.Verified.{joined, is_verified}
use Rattle.ss_block.specs.PayloadReading.{stamp_in, stamp_and_rest_in, blob_in, payload_in}
use Rattle.ss_octets.specs.Cut.{parts_at}
use Rattle.ss_laws.proofs.of_parts.cases.CutRows.{session_kept, message_from_one_session, announcer_with_messages, message_from_two_sessions, halves_kept}
use Rattle.ss_laws.proofs.parts.cases.parts_are_these.Goals as goal

pub returns : goal.returns
unfolding rows keys pair_of_bearer places_with wanted rank assigned is_taken group_keys entries in_order is_disputed cover joined_text stated_payload report_of is_clean joined is_verified parts_at stamp_in stamp_and_rest_in blob_in payload_in
returns c = record {
  session_cut_off_keeps = session_kept;
  session_cut_off = refl;
  message_cut_off_keeps = message_from_one_session;
  message_cut_off = refl;
  message_cut_off_is_not_clean = refl;
  block_cut_off_keeps = announcer_with_messages;
  block_cut_off = refl;
  block_cut_off_is_not_clean = refl;
  message_of_other_keeps = message_from_two_sessions;
  message_of_other = refl;
  halves_keep = halves_kept;
  halves = refl;
  halves_are_not_clean = refl;
  first_half_is_clean = refl;
  second_half_is_clean = refl;
}
