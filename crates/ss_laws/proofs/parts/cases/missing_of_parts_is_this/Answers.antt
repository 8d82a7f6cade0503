-- Each list of counters, and what is missing, is computed.
use Rattle.std.proofs.Common.{refl}
use Rattle.ss_block.specs.PayloadReading.{stamp_in, stamp_and_rest_in, blob_in, payload_in}
use Rattle.ss_octets.specs.Cut.{parts_at}
use Rattle.ss_review.specs.announced.Announced.{rows, keys}
use Rattle.ss_review.specs.assign.Assigned.{pair_of_bearer, places_with, wanted, rank, assigned, is_taken}
use Rattle.ss_review.specs.counted.Counted.{gbcs, next_number, missing}
use Rattle.ss_review.specs.counted.Kept.{gbc_in, number_in, groups_in, kept_sessions, tails_in, log_shortfalls}
use Rattle.ss_review.specs.counted.KeptLaws.{counters_given}
use Rattle.ss_review.specs.report.Entries.{group_keys, entries}
use Rattle.ss_review.specs.Ordered.{in_order}
use Rattle.ss_review.specs.sessions.Payloads.{is_disputed, cover, joined_text, stated_payload}
use Rattle.ss_review.specs.report.Report.{report_of}
use Rattle.ss_review.specs.sessions.Verified.{joined, is_verified}
use Rattle.ss_laws.proofs.of_parts.cases.MissingRows.{cut_keeps, home_is}
use Rattle.ss_laws.proofs.parts.cases.missing_of_parts_is_this.Goals as goal

pub returns : goal.returns
unfolding rows keys pair_of_bearer places_with wanted rank assigned is_taken group_keys entries in_order is_disputed cover joined_text stated_payload report_of joined is_verified parts_at stamp_in stamp_and_rest_in blob_in payload_in gbcs next_number missing gbc_in number_in groups_in kept_sessions tails_in log_shortfalls counters_given
returns c = record {
  cut_keeps = cut_keeps;
  home_is = home_is;
  lack = refl;
  halves_lack_all = refl;
  halves_lack_theirs = refl;
  given_elsewhere = refl;
  given_nowhere = refl;
  divided = refl;
}
