use Rattle.std.proofs.Common.{map, sym, ◌∙◌}
use Rattle.std.specs.List.{range_with_len}
use Rattle.ss_review.specs.keep.Notes.{notes}
use Rattle.ss_laws.specs.parts.Parts.{together}
use Rattle.ss_laws.proofs.of_parts.PartLogs.{part_told}
use Rattle.ss_laws.proofs.of_parts.PartReports.{add_up}
use Rattle.ss_laws.proofs.parts.parts_add_up.Goals as goal

pub returns : goal.returns
returns c = λ says log part parts are.
    add_up says (notes log) part parts are
    ∙ (λ i. together (map (λ k. sym (part_told part k log says) i) (range_with_len 0 parts)))
