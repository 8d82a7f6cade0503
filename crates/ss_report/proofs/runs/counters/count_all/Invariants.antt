use Rattle.std.proofs.Common.{◌≡◌, take}
use Rattle.std.specs.Prelude.{sum_by}
use Rattle.ss_report.specs.runs.Counters.{how_many}
use Rattle.ss_report.proofs.runs.counters.count_all.Given as goal

abbrev pub invariant-loop-session : goal.invariant-loop-session
invariant-loop-session l = l.count ≡ sum_by how_many (take l.session-index l.sessions)
