use Rattle.std.proofs.Common.{ℕ, List, ap}
use Rattle.std.proofs.lemmas.Result.{err_from_is_err_and}
use Rattle.ss_frame.specs.Watched.{source_of, sink_of}
use Rattle.ss_signing.specs.declared.output.OutputForm.TheVariants.{Nothing}
use Rattle.ss_signing.specs.declared.want_writer.WantWriter.{WantWriter}
use Rattle.ss_signing.specs.Accepted.{started}
use Rattle.ss_signing.specs.Jobs.{gives_0, planned, planning_from}
use Rattle.ss_signing.specs.Sending.{job_of}
use Rattle.ss_signing.specs.Wants.{want_lines}
use Rattle.ss_signing.proofs.Lines.{plan_made}
use Rattle.ss_signing.proofs.Sending.{stops_whatever}
use Rattle.ss_signing.proofs.Writing.{run_writes, run_fails_to_write, run_stops}
use Rattle.ss_signing.proofs.plan.run_plan_from.Goals as goal

abbrev lines : WantWriter → List ℕ
lines sealer = sealer.lines

pub returns-in_err-sent-clause-stopped : goal.returns-in_err-sent-clause-stopped
returns-in_err-sent-clause-stopped g c =
    let request = c.args.request in
    let start = started request.start in
    let was = sink_of g.W.Write.contents c.args.writer.now in
    let fault = c.in_err-sent.field-0.0 in
    let messages = c.in_ok-messages.messages.items in
    let p = err_from_is_err_and c.from_residual-in_err-sent.result c.from_residual-in_err-sent.ensures.1 in
    rw (p.1, p.2)
    (run_stops (planning_from start request.config c.args.payload request.stamp request.wrap) request.limits (source_of g.R.Read.remaining c.args.reader.now) (source_of g.R.Read.remaining c.read_prepared.new.reader) messages was was
    fault c.in_ok-messages.ensures.read
    (stops_whatever (job_of start (planned request.config c.args.payload) gives_0 request.stamp Nothing) (λ calls emitted. want_lines emitted) messages fault c.in_err-sent.ensures.sent))

pub returns-in_err-write_whole-clause-stopped : goal.returns-in_err-write_whole-clause-stopped
returns-in_err-write_whole-clause-stopped g c =
    let request = c.args.request in
    let start = started request.start in
    let messages = c.in_ok-messages.messages.items in
    let o = c.in_ok-sent.sent.originator in
    let made = plan_made lines request.config c.args.payload start request.stamp Nothing messages c.in_ok-sent.ensures.asked c.new.ensures in
    let p = err_from_is_err_and c.from_residual-in_err-write_whole.result c.from_residual-in_err-write_whole.ensures.1 in
    rw (p.1, p.2, c.in_err-write_whole.ensures.0)
    (run_fails_to_write (planning_from start request.config c.args.payload request.stamp request.wrap) request.limits (source_of g.R.Read.remaining c.args.reader.now) (source_of g.R.Read.remaining c.read_prepared.new.reader) messages
    (sink_of g.W.Write.contents c.args.writer.now) (sink_of g.W.Write.contents c.write_whole.new.writer)
    (lines o.sealer) (lines c.into_sealer-sealer.result) c.in_ok-messages.ensures.read made (ap lines c.into_sealer-sealer.ensures) c.in_err-write_whole.ensures.1)

pub returns-clause-planned : goal.returns-clause-planned
returns-clause-planned g c =
    let request = c.args.request in
    let start = started request.start in
    let messages = c.in_ok-messages.messages.items in
    let o = c.in_ok-sent.sent.originator in
    let made = plan_made lines request.config c.args.payload start request.stamp Nothing messages c.in_ok-sent.ensures.asked c.new.ensures in
    run_writes (planning_from start request.config c.args.payload request.stamp request.wrap) request.limits (source_of g.R.Read.remaining c.args.reader.now) (source_of g.R.Read.remaining c.read_prepared.new.reader) messages
    (sink_of g.W.Write.contents c.args.writer.now) (sink_of g.W.Write.contents c.write_whole.new.writer)
    (lines o.sealer) (lines c.into_sealer-sealer.result) c.in_ok-messages.ensures.read made (ap lines c.into_sealer-sealer.ensures) c.in_ok-write_whole.ensures
