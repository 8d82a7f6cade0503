-- Each counter is computed.
use Rattle.std.proofs.Common.{[], ◌∷◌, refl}
use Rattle.ss_block.specs.PayloadReading.{stamp_in, stamp_and_rest_in, blob_in, payload_in}
use Rattle.ss_octets.specs.Cut.{parts_at}
use Rattle.ss_report.specs.runs.Carrying.{carried_by}
use Rattle.ss_review.specs.announced.Announced.{rows, keys}
use Rattle.ss_review.specs.assign.Assigned.{pair_of_bearer, places_with, wanted, rank, assigned, is_taken}
use Rattle.ss_review.specs.counted.Counted.{gbcs, next_number}
use Rattle.ss_review.specs.counted.Kept.{gbc_in, number_in}
use Rattle.ss_review.specs.counted.KeptLaws.{counters_given}
use Rattle.ss_review.specs.report.Entries.{group_keys, entries}
use Rattle.ss_review.specs.report.Report.{report_of}
use Rattle.ss_review.specs.sessions.Payloads.{is_disputed, cover, joined_text, stated_payload}
use Rattle.ss_review.specs.sessions.Verified.{joined, is_verified}
use Rattle.ss_review.specs.Ordered.{in_order}
use Rattle.ss_review.specs.report.Rows.{yes}
use Rattle.ss_laws.specs.carry.cases.CounterRows.{here, late_block}
use Rattle.ss_laws.proofs.of_carry.cases.CounterPremises.{late_leave, disputed_leave, disputed_unjoined, unjudged_leave, certificate_leave}
use Rattle.ss_laws.proofs.carry.cases.counters_are_these.Goals as goal

pub returns : goal.returns
unfolding rows keys pair_of_bearer places_with wanted rank assigned is_taken group_keys entries in_order is_disputed cover joined_text stated_payload report_of joined is_verified parts_at stamp_in stamp_and_rest_in blob_in payload_in carried_by gbcs next_number gbc_in number_in counters_given
returns c = record {
  late_leave = late_leave;
  late_leave_here = c.enough_of_sessions.ensures yes late_block 1 late_leave here;
  late_joined = (45 ∷ 32 ∷ 78 ∷ [], refl);
  late_first = record { gbc_is = refl; number_is = refl };
  late_last = record { gbc_is = refl; number_is = refl };
  late_whole = record { gbc_is = refl; number_is = refl };
  disputed_leave = disputed_leave;
  disputed_unjoined = disputed_unjoined;
  disputed_first = record { gbc_is = refl; number_is = refl };
  disputed_last = record { gbc_is = refl; number_is = refl };
  disputed_whole = record { gbc_is = refl; number_is = refl };
  unjudged_leave = unjudged_leave;
  unjudged_joined = (45 ∷ 32 ∷ 78 ∷ [], refl);
  unjudged_first = record { gbc_is = refl; number_is = refl };
  unjudged_last = record { gbc_is = refl; number_is = refl };
  unjudged_whole = record { gbc_is = refl; number_is = refl };
  certificate_leave = certificate_leave;
  certificate_joined = (45 ∷ 32 ∷ 78 ∷ [], refl);
  certificate_first = record { gbc_is = refl; number_is = refl };
  certificate_last = record { gbc_is = refl; number_is = refl };
  certificate_whole = record { gbc_is = refl; number_is = refl };
}
