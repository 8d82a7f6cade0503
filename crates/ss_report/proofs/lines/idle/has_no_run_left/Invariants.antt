use Rattle.std.proofs.Common.{◌≡◌, [], take, filter_map}
use Rattle.ss_between.specs.Between.{run_left}
use Rattle.ss_report.proofs.lines.idle.has_no_run_left.Given as goal

abbrev pub invariant-loop-run : goal.invariant-loop-run
invariant-loop-run l = filter_map (run_left l.gbc) (take l.run-index l.runs) ≡ []
