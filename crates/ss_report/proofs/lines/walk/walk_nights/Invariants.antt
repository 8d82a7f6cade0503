use Rattle.std.proofs.Common.{length, take, flat_map}
use Rattle.std.specs.List.{zip}
use Rattle.ss_report.specs.lines.Taken.{TakesAll}
use Rattle.ss_report.specs.lines.Between.{lines_of_night}
use Rattle.ss_report.proofs.lines.walk.walk_nights.Given as goal

abbrev pub invariant-loop-session : goal.invariant-loop-session
invariant-loop-session g l = TakesAll (g.V.LineVisitor.takes l.visitor) l.initial.into l.into (flat_map (lines_of_night l.detail l.missing.first l.missing.second) (take (length l.yielded) (zip l.sessions l.known)))
