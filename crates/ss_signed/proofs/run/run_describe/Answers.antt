use Rattle.std.proofs.Common.{◌+◌, ℕ, List, sym, subst, rules, arith}
use Rattle.std.specs.Prelude.{Err}
use Rattle.std.proofs.lemmas.Result.{err_from_is_err_and}
use Rattle.ss_frame.specs.Watched.{source_of, sink_of}
use Rattle.ss_signed.specs.Runs.{Answers, StopsAtLine}
use Rattle.ss_signed.proofs.Spoken.{answered_rest, answered_more, stops_unended, stops_answering, empty_test}
use Rattle.ss_signed.proofs.run.run_describe.Goals as goal

pub returns-in_err-write_answer-in-Lf : goal.returns-in_err-write_answer-in-Lf
returns-in_err-write_answer-in-Lf g c =
    let p = err_from_is_err_and c.from_residual.result c.from_residual.ensures.1 in
    let told = subst (λ (l : List ℕ). Answers l c.loop-number.number (sink_of g.W.Write.contents c.loop-number.writer) (sink_of g.W.Write.contents c.write_answer.new.writer) (Err (c.in_err-write_answer-in-Lf).field-0.0)) c.as_slice.ensures.value (c.in_err-write_answer-in-Lf).ensures in
    rw (p.1, p.2) (stops_answering _ _ _ _ _ _ _ _ _ _ c.loop-number.invariant.answered c.loop-number.invariant.place c.in-Lf.ensures.0 c.in-Lf.ensures.1 told)

pub returns-in-Failed : goal.returns-in-Failed
returns-in-Failed g c = (c.next_line.new.line.items, c.loop-number.invariant.count, answered_rest _ _ _ _ _ _ _ c.loop-number.invariant.answered c.in-Failed.ensures)

pub returns-in-Memory : goal.returns-in-Memory
returns-in-Memory g c = (c.in-Memory.ensures.0, c.loop-number.invariant.count, answered_rest _ _ _ _ _ _ _ c.loop-number.invariant.answered c.in-Memory.ensures.1)

pub returns-in-Long : goal.returns-in-Long
returns-in-Long g c =
    subst (StopsAtLine (source_of g.R.Read.remaining c.args.reader.now) (source_of g.R.Read.remaining c.next_line.new.reader) (sink_of g.W.Write.contents c.args.writer.now) (sink_of g.W.Write.contents c.loop-number.writer))
    (sym c.loop-number.invariant.place) (stops_unended _ _ _ _ _ _ _ c.loop-number.invariant.answered c.in-Long.ensures.0 c.in-Long.ensures.1 c.in-Long.ensures.2)

pub loop-number-preserved : goal.loop-number-preserved
loop-number-preserved g c =
    let told = rw c.as_slice.ensures.value at (c.in_ok-write_answer-in-Lf).ensures in
    record {
      reader = c.in-Lf.ensures.2;
      writer = told.1.1;
      count = c.loop-number.invariant.count + 1;
      answered = answered_more _ _ _ _ _ _ _ _ c.loop-number.invariant.answered c.in-Lf.ensures.0 c.in-Lf.ensures.1 told;
      place = omega (arith, c.loop-number.invariant.place);
    }

pub returns-in-End : goal.returns-in-End
returns-in-End g c =
    subst (StopsAtLine (source_of g.R.Read.remaining c.args.reader.now) (source_of g.R.Read.remaining c.next_line.new.reader) (sink_of g.W.Write.contents c.args.writer.now) (sink_of g.W.Write.contents c.loop-number.writer))
    (sym c.loop-number.invariant.place) (stops_unended _ _ _ _ _ _ _ c.loop-number.invariant.answered c.in-End.ensures.0 c.in-End.ensures.1 (search (rules, empty_test)))
