use Rattle.std.proofs.Common.{◌≡◌, ℕ, List, sym, ap, ◌∙◌}
use Rattle.std.specs.Prelude.{slice_index}
use Rattle.std.specs.List.{list_all, range_with_len}
use Rattle.ss_review.specs.keep.Notes.{notes}
use Rattle.ss_review.specs.keep.Contents.{contents}
use Rattle.ss_review.specs.sessions.Verified.{Answers}
use Rattle.ss_review.specs.report.Report.{report, report_of}
use Rattle.ss_review.specs.report.Verdict.{is_clean}
use Rattle.ss_laws.specs.parts.Parts.{part_of, messages_of, places_of}
use Rattle.ss_laws.proofs.of_parts.MovedVerdicts.{clean_moved}
use Rattle.ss_laws.proofs.of_parts.PartLogs.{part_told}
use Rattle.ss_laws.proofs.of_parts.PartVerdicts.{clean_where_parts_are}
use Rattle.ss_laws.proofs.parts.clean_where_parts_are.Goals as goal

own_verdict : (says : Answers) (log : List (List ℕ)) (part : ℕ → ℕ) (k : ℕ)
    → is_clean (report_of says (part_of part k (contents (notes log)))) ≡ is_clean (report says (messages_of part k log))
own_verdict says log part k =
    ap is_clean (sym (part_told part k log says)) ∙ clean_moved (slice_index (places_of part k log)) (report says (messages_of part k log))

pub returns : goal.returns
returns c = λ says log part parts are.
    clean_where_parts_are says (notes log) part parts are
    ∙ (λ i. list_all (λ k. own_verdict says log part k i) (range_with_len 0 parts))
