use Rattle.std.proofs.Common.{filter_map}
use Rattle.ss_between.specs.Between.{entry_left}
use Rattle.ss_report.specs.lines.Order.{order}
use Rattle.ss_report.specs.lines.Between.{number_from}
use Rattle.ss_report.specs.lines.Lines.{entry_lines, order_lines}
use Rattle.ss_report.proofs.of_writing.LinesTaken.{lines_then}
use Rattle.ss_report.proofs.lines.left.walk_group_left.Goals as goal

pub returns-then-detail : goal.returns-then-detail
returns-then-detail g c =
    let a = c.args in
    let report = a.report.now in
    let session = a.session.now in
    let left = filter_map (entry_left (number_from a.first.now session report.group)) report.entries in
    let entries = rw (c.as_slice-entries.ensures, c.number_from-number.ensures) at c.walk_listing.ensures in
    let found = rw (c.of_left-order.ensures, c.as_slice-entries.ensures, c.number_from-number.ensures) at c.walk_order.ensures in
    rw c.if-detail.true (lines_then (g.V.LineVisitor.takes a.visitor.now) _ _ _ (entry_lines a.detail.listing session report.group left) (order_lines session report.group (order left)) entries found)
