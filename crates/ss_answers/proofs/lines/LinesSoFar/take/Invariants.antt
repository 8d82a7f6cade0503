use Rattle.std.proofs.Common.{◌≡◌, ◌++◌, length}
use Rattle.ss_answers.specs.LinesSoFar.{IsSound, text_of}
use Rattle.ss_answers.proofs.lines.LinesSoFar.take.Given as goal

abbrev pub invariant-loop-end : goal.invariant-loop-end
invariant-loop-end l = record {
  sound : IsSound l.self;
  taken : text_of l.self ++ l.rest ≡ text_of l.fn.self ++ l.part;
}

abbrev pub decreases-loop-end : goal.decreases-loop-end
decreases-loop-end l = length l.rest
