use Rattle.std.proofs.Common.{take, map, filter_map}
use Rattle.ss_between.specs.Between.{run_left}
use Rattle.ss_report.specs.lines.Whole.{missing_line}
use Rattle.ss_report.specs.lines.Taken.{TakesAll}
use Rattle.ss_report.proofs.lines.left.walk_missing_left.Given as goal

abbrev pub invariant-loop-run : goal.invariant-loop-run
invariant-loop-run g l = TakesAll (g.V.LineVisitor.takes l.visitor) l.initial.into l.into (map (missing_line l.session) (filter_map (run_left l.gbc) (take l.run-index l.runs)))
