-- Runs that go on one after the other are lives of a chain.
use Rattle.std.proofs.Common.{List, [], ◌∷◌, map, sym, subst}
use Rattle.ss_origin.specs.Ahead.{AreAtLeast, BeginsBehind, GoOnAhead}
use Rattle.ss_origin.specs.Counting.{Start}
use Rattle.ss_origin.specs.Setting.{Setting}
use Rattle.ss_origin.specs.State.{state, counters_of}
use Rattle.ss_signing.specs.GoingOn.{Sent, StartsAfter, GoOn, life_of, RunsGoOn}

module _ (s : Setting) where
  begins : (before : List (Sent s)) (start : Start) → StartsAfter before start → BeginsBehind s.config (map life_of before) start
  begins [] start after = after
  begins (r ∷ before) start after = (
    after.0,
    after.1,
    subst (λ cs. AreAtLeast (counters_of (state s.config r.start cs)) after.0) (sym r.accepted.calls_are) after.2,
  )

  goes_on : (runs : List (Sent s)) → GoOn runs → GoOnAhead s (map life_of runs)
  goes_on [] go = tt
  goes_on (r ∷ before) go = (goes_on before go.0, begins before r.start go.1, r.accepted.taken)

pub runs_go_on : RunsGoOn
runs_go_on s runs setting go = record { setting = setting; chained = goes_on s runs go }
