use Rattle.std.proofs.Common.{[], ◌∷◌, map, filter_map}
use Rattle.ss_between.specs.Between.{entry_left}
use Rattle.ss_report.specs.lines.Brief.{brief}
use Rattle.ss_report.specs.lines.Lines.{TallyLine, entry_line}
use Rattle.ss_report.specs.lines.Tally.{tally}
use Rattle.ss_report.proofs.of_writing.LinesTaken.{lines_then}
use Rattle.ss_report.proofs.lines.left.walk_listing.Goals as goal

pub returns-in-Brief : goal.returns-in-Brief
returns-in-Brief g c =
    let left = filter_map (entry_left c.args.number) c.args.entries.now in
    let session = c.args.session.now in
    let group = c.args.group in
    rw c.in-Brief.is
    (lines_then (g.V.LineVisitor.takes c.args.visitor.now) _ _ _ (map (entry_line session group) (brief left)) (TallyLine session group (tally left) ∷ []) c.walk_brief_left.ensures c.walk_tally-in-Brief.ensures)
