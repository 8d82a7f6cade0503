use Rattle.std.proofs.Common.{refl}
use Rattle.std.proofs.lemmas.Result.{err_from_is_err_and}
use Rattle.ss_frame.specs.Watched.{source_of, sink_of}
use Rattle.ss_signing.specs.Accepted.{started}
use Rattle.ss_signing.specs.Ahead.{counters_text}
use Rattle.ss_signing.specs.Jobs.{going_ahead}
use Rattle.ss_signing.proofs.Writing.{run_fails_to_write, run_writes, run_stops}
use Rattle.ss_signing.proofs.ahead.run_ahead.Goals as goal

pub returns-in_err-end-clause-stopped : goal.returns-in_err-end-clause-stopped
returns-in_err-end-clause-stopped g c =
    let p = err_from_is_err_and c.from_residual-in_err-end.result c.from_residual-in_err-end.ensures.1 in
    let job = going_ahead (started c.args.request.start) c.args.request.config c.args.payload c.args.request.stamp c.args.request.wrap in
    let was = sink_of g.W.Write.contents c.args.writer.now in
    rw (p.1, p.2)
    (run_stops job c.args.request.limits (source_of g.R.Read.remaining c.args.reader.now) (source_of g.R.Read.remaining c.read_prepared.new.reader) c.in_ok-messages.messages.items
    was was c.in_err-end.field-0.0 c.in_ok-messages.ensures.read c.in_err-end.ensures.made)

pub returns-clause-told : goal.returns-clause-told
returns-clause-told g c =
    let job = going_ahead (started c.args.request.start) c.args.request.config c.args.payload c.args.request.stamp c.args.request.wrap in
    let was = sink_of g.W.Write.contents c.args.writer.now in
    let is = sink_of g.W.Write.contents c.end_text.new.writer in
    let end = c.in_ok-end.end in
    let text = counters_text end.session end.sg end.counters in
    run_writes job c.args.request.limits (source_of g.R.Read.remaining c.args.reader.now) (source_of g.R.Read.remaining c.read_prepared.new.reader) c.in_ok-messages.messages.items
    was is text text c.in_ok-messages.ensures.read c.in_ok-end.ensures.made refl (c.in_ok-end_text.ensures.output was text c.write_counters.ensures)

pub returns-in_err-end_text-clause-stopped : goal.returns-in_err-end_text-clause-stopped
returns-in_err-end_text-clause-stopped g c =
    let p = err_from_is_err_and c.from_residual-in_err-end_text.result c.from_residual-in_err-end_text.ensures.1 in
    let job = going_ahead (started c.args.request.start) c.args.request.config c.args.payload c.args.request.stamp c.args.request.wrap in
    let was = sink_of g.W.Write.contents c.args.writer.now in
    let is = sink_of g.W.Write.contents c.end_text.new.writer in
    let end = c.in_ok-end.end in
    let text = counters_text end.session end.sg end.counters in
    let fails = c.in_err-end_text.ensures.output was text c.write_counters.ensures in
    rw (p.1, p.2, fails.0)
    (run_fails_to_write job c.args.request.limits (source_of g.R.Read.remaining c.args.reader.now) (source_of g.R.Read.remaining c.read_prepared.new.reader) c.in_ok-messages.messages.items
    was is text text c.in_ok-messages.ensures.read c.in_ok-end.ensures.made refl fails.1)

pub returns-in_err-end_text-clause-untouched : goal.returns-in_err-end_text-clause-untouched
returns-in_err-end_text-clause-untouched g c =
    let p = err_from_is_err_and c.from_residual-in_err-end_text.result c.from_residual-in_err-end_text.ensures.1 in
    let was = sink_of g.W.Write.contents c.args.writer.now in
    let end = c.in_ok-end.end in
    let fails = c.in_err-end_text.ensures.output was (counters_text end.session end.sg end.counters) c.write_counters.ensures in
    rw (p.1, p.2, fails.0) (λ other. absurd (other refl))
