use Rattle.std.proofs.Common.{◌++◌, ap, map, ◌∙◌}
use Rattle.ss_report.specs.lines.Front.{block_lines, none_lines, sha1_lines, suspect_line}
use Rattle.ss_report.specs.strangers.Strangers.{suspects_if}
use Rattle.ss_report.proofs.of_writing.LinesTaken.{lines_then, taken_same}
use Rattle.ss_report.proofs.lines.front.walk_front.Goals as goal

pub returns : goal.returns
returns g c = λ ready.
    let takes = g.V.LineVisitor.takes c.args.visitor.now in
    let detail = c.args.detail in
    let bs = c.args.front.now.blocks in
    let report = c.args.report.now in
    let some = block_lines detail.blocks report.refused bs in
    let weak = sha1_lines detail.no_sha1 report.refused bs in
    let suspects = map suspect_line (suspects_if detail.ignore_strangers bs report) in
    let first = (rw (c.as_slice-refused.ensures, c.as_slice-blocks.ensures) at c.walk_blocks.ensures) ready.rising in
    let second = (rw (c.as_slice-refused.ensures, c.as_slice-blocks.ensures) at c.walk_sha1.ensures) ready.rising in
    let third = taken_same takes _ _ _ suspects c.walk_suspects.ensures (ap (map suspect_line) (c.as_slice.ensures ∙ ready.suspects)) in
    lines_then takes _ _ _ ((some ++ weak) ++ suspects) (none_lines detail.some_listed report)
    (lines_then takes _ _ _ (some ++ weak) suspects (lines_then takes _ _ _ some weak first second) third)
    c.walk_none_listed.ensures
