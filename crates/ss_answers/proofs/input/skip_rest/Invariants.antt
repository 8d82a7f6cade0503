use Rattle.std.proofs.Common.{◌≡◌, ℕ, List, false}
use Rattle.ss_frame.specs.Watched.{has_failed, inner_of}
use Rattle.ss_answers.specs.Input.{GivesFirst}
use Rattle.ss_answers.proofs.input.skip_rest.Given as goal

abbrev pub invariant-loop-count : goal.invariant-loop-count
invariant-loop-count g l = record {
  failed : has_failed l.reader ≡ false;
  text : List ℕ;
  first : GivesFirst (g.R.Read.remaining (inner_of l.fn.reader)) (g.R.Read.remaining (inner_of l.reader)) l.max l.left text;
}

abbrev pub decreases-loop-count : goal.decreases-loop-count
decreases-loop-count g l = l.left
