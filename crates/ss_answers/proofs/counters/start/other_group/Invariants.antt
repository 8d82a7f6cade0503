-- No counter so far is of another group.
use Rattle.std.proofs.Common.{◌≡◌, false, take}
use Rattle.std.specs.List.{list_any}
use Rattle.ss_answers.specs.Start.{is_of_other}
use Rattle.ss_answers.proofs.counters.start.other_group.Given as goal

abbrev pub invariant-loop-counter : goal.invariant-loop-counter
invariant-loop-counter l =
    record {
      counted : l.line ≡ l.counter-index;
      none : list_any (is_of_other l.session l.grouping) (take l.counter-index l.counters) ≡ false;
    }
