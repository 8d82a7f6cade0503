use Rattle.std.proofs.Common.{◌≡◌, ◌==◌, Bool, true, false, cond, refl, sym, ap, ◌∙◌}
use Rattle.ss_review.specs.keep.Notes.{notes}
use Rattle.ss_review.specs.keep.Contents.{Contents, contents}
use Rattle.ss_laws.specs.parts.Parts.{part_of}
use Rattle.ss_review.specs.report.Report.{report_of}
use Rattle.ss_laws.proofs.of_parts.PartLogs.{part_told}
use Rattle.ss_report.specs.runs.Carrying.{carried_by}
use Rattle.ss_laws.specs.carry.Nights.{is_reviewed, at_places}
use Rattle.ss_laws.specs.carry.NightLaws.{reviewed_part}
use Rattle.ss_laws.proofs.of_carry.OwnLogs.{carried_there}
use Rattle.ss_laws.proofs.carry.carried_of_own_logs.Goals as goal

same_test : (b : Bool) → b ≡ (cond b 0 1 == 0)
same_test true = refl
same_test false = refl

pub returns : goal.returns
returns c = λ says x night log e.
    (let part = reviewed_part x night in
    ap (λ (whole : Contents). carried_by (report_of says (at_places (is_reviewed x night) whole)) (at_places (is_reviewed x night) whole).blocks) e
    ∙ (λ i. carried_by (report_of says (at_places (λ place. same_test (is_reviewed x night place) i) (contents (notes log)))) (at_places (λ place. same_test (is_reviewed x night place) i) (contents (notes log))).blocks)
    ∙ ap (λ r. carried_by r (part_of part 0 (contents (notes log))).blocks) (sym (part_told part 0 log says))
    ∙ carried_there part 0 log says)
