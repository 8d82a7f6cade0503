use Rattle.std.proofs.Common.{map, ◌++◌}
use Rattle.ss_report.specs.lines.Lines.{UnlistedLine, RefusedLine, spoilt_place_line}
use Rattle.ss_report.proofs.of_writing.LinesTaken.{lines_then}
use Rattle.ss_report.proofs.lines.others.walk_items.Goals as goal

pub returns : goal.returns
returns g c =
    let takes = g.V.LineVisitor.takes c.args.visitor.now in
    let report = c.args.report.now in
    let unlisted = rw c.as_slice.ensures at c.walk_unlisted.ensures in
    let refused = rw c.as_slice-2.ensures at c.walk_refused.ensures in
    let spoilts = rw c.as_slice-3.ensures at c.walk_spoilts.ensures in
    let some = map UnlistedLine report.unlisted in
    let to_refused = lines_then takes _ _ _ some (map RefusedLine report.refused) unlisted refused in
    lines_then takes _ _ _ (some ++ map RefusedLine report.refused) (map spoilt_place_line report.spoilt) to_refused spoilts
