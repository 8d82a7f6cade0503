use Rattle.std.proofs.Common.{◌≡◌, false, vec_len}
use Rattle.ss_frame.specs.Watched.{has_failed, inner_of}
use Rattle.ss_answers.specs.Input.{GivesFirst}
use Rattle.ss_answers.specs.LinesSoFar.{IsSound, text_of}
use Rattle.ss_answers.proofs.reading.read_lines.Given as goal

abbrev pub invariant-loop-lines : goal.invariant-loop-lines
invariant-loop-lines g l = record {
  failed : has_failed l.reader ≡ false;
  chunk : vec_len l.chunk ≡ 65536;
  sound : IsSound l.lines;
  first : GivesFirst (g.R.Read.remaining (inner_of l.fn.reader)) (g.R.Read.remaining (inner_of l.reader)) l.max l.left (text_of l.lines);
}

abbrev pub decreases-loop-lines : goal.decreases-loop-lines
decreases-loop-lines g l = l.left
