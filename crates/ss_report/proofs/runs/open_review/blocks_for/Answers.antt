use Rattle.std.proofs.Common.{List, sym, ap, ◌∙◌}
use Rattle.ss_review.specs.declared.keep.log_blocks.LogBlock.{LogBlock}
use Rattle.ss_review.specs.keep.Contents.{blocks}
use Rattle.ss_review.specs.keep.LogBlocks.{log_blocks}
use Rattle.ss_review.specs.keep.Notes.{notes}
use Rattle.ss_report.specs.lines.Front.{front_lines}
use Rattle.ss_report.proofs.of_reports.FrontLines.{needs_none}
use Rattle.ss_report.proofs.runs.open_review.blocks_for.Goals as goal

pub returns-in_ok-log_blocks-clause-same : goal.returns-in_ok-log_blocks-clause-same
returns-in_ok-log_blocks-clause-same c = λ messages keeps report.
    ap (λ (bs : List LogBlock). front_lines c.args.detail bs report) (c.in_ok-log_blocks.ensures.blocks (notes messages) keeps)

pub returns-else-needs_blocks-clause-same : goal.returns-else-needs_blocks-clause-same
returns-else-needs_blocks-clause-same c = λ messages keeps report.
    ap (λ (bs : List LogBlock). front_lines c.args.detail bs report) c.from_vec.ensures
    ∙ ap (λ (bs : List LogBlock). front_lines c.args.detail bs report) c.new.ensures.items
    ∙ needs_none c.args.detail (log_blocks (blocks (notes messages))) report (sym c.needs_blocks.ensures ∙ c.if-needs_blocks.false)
