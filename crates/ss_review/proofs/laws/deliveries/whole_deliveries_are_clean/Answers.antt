use Rattle.ss_review.specs.keep.Notes.{notes}
use Rattle.ss_review.specs.keep.Contents.{contents}
use Rattle.ss_review.specs.deliveries.DeliveryLaws.{says, report_in}
use Rattle.ss_review.specs.deliveries.Whole.{IsWhole}
use Rattle.ss_review.proofs.of_reports.CleanReports.{clean}
use Rattle.ss_review.proofs.laws.deliveries.whole_deliveries_are_clean.Goals as goal

pub returns : goal.returns
returns c = λ x is pairs begun complete delivered.
    (let w : IsWhole x = record { case = is; pairs = pairs; begun = begun; complete = complete; delivered = delivered } in (
      (c.joined_by_fragments.ensures x is).1 (c.payloads_arrive.ensures x w),
      clean (says x) (contents (notes x.log))
          (λ b there. (c.blocks_are_verified.ensures x w b there).1)
          (c.groups_have_no_hole.ensures x w)
          (c.numbers_are_listed.ensures x w)
          (c.messages_are_listed.ensures x w)
          (c.nothing_is_spoilt.ensures x w)
          (report_in x)
          (c.one_report.ensures.0 (says x) x.log),
    ))
