use Rattle.std.proofs.Common.{◌≡◌, ℕ, ◌+◌, false, []}
use Rattle.ss_frame.specs.Watched.{has_failed, source_of, sink_of}
use Rattle.ss_spelled.specs.Runs.{HasSpoken}
use Rattle.ss_spelled.proofs.run.run_spell.Given as goal

abbrev pub invariant-loop-number : goal.invariant-loop-number
invariant-loop-number g l = record {
  reader : has_failed l.reader ≡ false;
  writer : has_failed l.writer ≡ false;
  count : ℕ;
  spoken : HasSpoken (source_of g.R.Read.remaining l.fn.reader) (source_of g.R.Read.remaining l.reader) (sink_of g.W.Write.contents l.fn.writer) (sink_of g.W.Write.contents l.writer) l.fragments.keys [] count;
  place : l.number ≡ count + 1;
}
