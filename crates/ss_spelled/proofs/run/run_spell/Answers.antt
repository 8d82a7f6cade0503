use Rattle.std.proofs.Common.{◌≡◌, ◌+◌, ℕ, List, [], sym, subst, rules, arith}
use Rattle.std.specs.Prelude.{Err}
use Rattle.std.proofs.lemmas.Result.{err_from_is_err_and}
use Rattle.std.specs.Io.KnownBytes.{Consumes}
use Rattle.ss_frame.specs.Watched.{inner_of, source_of, sink_of}
use Rattle.ss_spelled.specs.Runs.{Obeys, StopsAtLine}
use Rattle.ss_spelled.proofs.Speaking.{spoken_none, spoken_rest, spoken_more, stops_unended, stops_obeying, empty_test, empty_line, writer_ready, spells_all}
use Rattle.ss_spelled.proofs.run.run_spell.Goals as goal

pub loop-number-init : goal.loop-number-init
loop-number-init g c = record {
  reader = c.requires.reader;
  writer = c.requires.writer;
  count = 0;
  spoken = rw c.new-fragments.ensures.empty (spoken_none (source_of g.R.Read.remaining c.args.reader.now) (sink_of g.W.Write.contents c.args.writer.now) c.requires.writer);
  place = omega arith;
}

pub returns-in_err-obey-in-Lf : goal.returns-in_err-obey-in-Lf
returns-in_err-obey-in-Lf g c =
    let p = err_from_is_err_and c.from_residual.result c.from_residual.ensures.1 in
    let told = subst (λ (l : List ℕ). Obeys l c.loop-number.number c.loop-number.fragments.keys c.obey.new.fragments.keys (sink_of g.W.Write.contents c.loop-number.writer) (sink_of g.W.Write.contents c.obey.new.writer) (Err (c.in_err-obey-in-Lf).field-0.0)) c.as_slice.ensures.value (c.in_err-obey-in-Lf).ensures in
    rw (p.1, p.2) (stops_obeying _ _ _ _ _ _ _ _ c.loop-number.number c.loop-number.fragments.keys c.obey.new.fragments.keys _ c.loop-number.invariant.spoken c.loop-number.invariant.place c.in-Lf.ensures.0 c.in-Lf.ensures.1 told)

pub returns-in-Failed : goal.returns-in-Failed
returns-in-Failed g c = (c.loop-number.fragments.keys, c.next_line.new.line.items, c.loop-number.invariant.count, spoken_rest _ _ _ _ _ _ _ _ c.loop-number.invariant.spoken c.in-Failed.ensures)

pub returns-in-Memory : goal.returns-in-Memory
returns-in-Memory g c = (c.loop-number.fragments.keys, c.in-Memory.ensures.0, c.loop-number.invariant.count, spoken_rest _ _ _ _ _ _ _ _ c.loop-number.invariant.spoken c.in-Memory.ensures.1)

pub returns-in-Long : goal.returns-in-Long
returns-in-Long g c =
    subst (StopsAtLine (source_of g.R.Read.remaining c.args.reader.now) (source_of g.R.Read.remaining c.next_line.new.reader) (sink_of g.W.Write.contents c.args.writer.now) (sink_of g.W.Write.contents c.loop-number.writer))
    (sym c.loop-number.invariant.place) (stops_unended _ _ _ _ _ _ _ _ c.loop-number.invariant.spoken c.in-Long.ensures.0 c.in-Long.ensures.1 c.in-Long.ensures.2)

pub loop-number-preserved : goal.loop-number-preserved
loop-number-preserved g c =
    let told = rw c.as_slice.ensures.value at (c.in_ok-obey-in-Lf).ensures in
    record {
      reader = c.in-Lf.ensures.2;
      writer = writer_ready _ c.loop-number.number c.loop-number.fragments.keys c.obey.new.fragments.keys _ _ _ told c.loop-number.invariant.writer;
      count = c.loop-number.invariant.count + 1;
      spoken = spoken_more _ _ _ _ _ _ _ c.loop-number.number _ c.loop-number.fragments.keys c.obey.new.fragments.keys _ c.loop-number.invariant.spoken c.in-Lf.ensures.0 c.in-Lf.ensures.1 told;
      place = omega (arith, c.loop-number.invariant.place);
    }

pub returns-in-End : goal.returns-in-End
returns-in-End g c =
    subst (StopsAtLine (source_of g.R.Read.remaining c.args.reader.now) (source_of g.R.Read.remaining c.next_line.new.reader) (sink_of g.W.Write.contents c.args.writer.now) (sink_of g.W.Write.contents c.loop-number.writer))
    (sym c.loop-number.invariant.place) (stops_unended _ _ _ _ _ _ _ _ c.loop-number.invariant.spoken c.in-End.ensures.0 c.in-End.ensures.1 (search (rules, empty_test)))

pub returns-then-is_empty : goal.returns-then-is_empty
returns-then-is_empty g c =
    let none : c.next_line.new.line.items ≡ [] = empty_line c.next_line.new.line.items (search rules) in
    spells_all _ _ _ _ _ _ _ c.loop-number.invariant.spoken
    (subst (λ (l : List ℕ). Consumes (g.R.Read.remaining (inner_of c.loop-number.reader)) (g.R.Read.remaining (inner_of c.next_line.new.reader)) l) none c.in-End.ensures.0) c.in-End.ensures.2
