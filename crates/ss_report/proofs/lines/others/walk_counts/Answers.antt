use Rattle.std.proofs.Common.{length, ◌∷◌, []}
use Rattle.ss_report.specs.lines.Lines.{UnlistedCountLine, RefusedCountLine, SpoiltCountLine, single_lines}
use Rattle.ss_report.proofs.of_writing.LinesTaken.{line_then, one_line}
use Rattle.ss_report.proofs.lines.others.walk_counts.Goals as goal

pub returns : goal.returns
unfolding single_lines
returns g c =
    let takes = g.V.LineVisitor.takes c.args.visitor.now in
    let report = c.args.report.now in
    let unlisted = rw c.as_slice.ensures at c.visit.ensures in
    let refused = rw c.as_slice-2.ensures at c.visit-2.ensures in
    let spoilt = rw c.as_slice-3.ensures at c.visit-3.ensures in
    let third = SpoiltCountLine (length report.spoilt) in
    let second = RefusedCountLine (length report.refused) in
    let behind = line_then takes _ _ _ second (third ∷ []) refused (one_line takes _ _ third spoilt) in
    line_then takes _ _ _ (UnlistedCountLine (length report.unlisted)) (second ∷ third ∷ []) unlisted behind
