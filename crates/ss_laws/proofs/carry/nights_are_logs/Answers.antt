use Rattle.std.proofs.Common.{◌≡◌, ◌==◌, Bool, true, false, cond, refl, sym, ap, ◌∙◌}
use Rattle.ss_review.specs.keep.Notes.{notes}
use Rattle.ss_review.specs.keep.Contents.{Contents, contents}
use Rattle.ss_review.specs.report.Report.{report_of}
use Rattle.ss_laws.proofs.of_parts.PartLogs.{part_told}
use Rattle.ss_laws.specs.carry.Nights.{is_reviewed, at_places}
use Rattle.ss_laws.specs.carry.NightLaws.{reviewed_part}
use Rattle.ss_laws.proofs.carry.nights_are_logs.Goals as goal

same_test : (b : Bool) → b ≡ (cond b 0 1 == 0)
same_test true = refl
same_test false = refl

pub returns : goal.returns
returns c = λ says x night log e.
    ap (λ (whole : Contents). report_of says (at_places (is_reviewed x night) whole)) e
    ∙ (λ i. report_of says (at_places (λ place. same_test (is_reviewed x night place) i) (contents (notes log))))
    ∙ sym (part_told (reviewed_part x night) 0 log says)
