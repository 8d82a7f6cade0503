-- The counters of a file are in their ranges.
use Rattle.std.proofs.Common.{List, Result, Ok, Err}
use Rattle.std.specs.Prelude.{IfOk}
use Rattle.std.specs.List.{AllByRecursion}
use Rattle.ss_review.specs.counted.CounterRange.{IsCounter}
use Rattle.ss_review.specs.declared.counted.counter.Counter.{Counter}
use Rattle.ss_answers.specs.CounterInput.{AreCountersOfFile}
use Rattle.ss_answers.specs.declared.counters.fault.CounterFault.{CounterFault}

pub are_in_range : (r : Result (List Counter) CounterFault) → IfOk r AreCountersOfFile
    → IfOk r (λ counters. AllByRecursion IsCounter counters)
are_in_range (Ok counters) of_file = of_file.has.fields
are_in_range (Err fault) of_file = tt
