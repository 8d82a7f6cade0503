use Rattle.std.proofs.Common.{ap, ◌∙◌, reverse}
use Rattle.std.proofs.lemmas.Result.{err_from_is_err_and}
use Rattle.ss_block.specs.Writing.{head_session}
use Rattle.ss_origin.specs.declared.config.Config.{Config}
use Rattle.ss_origin.specs.State.{state, counters_of}
use Rattle.ss_signing.specs.Accepted.{started, all_calls}
use Rattle.ss_signing.specs.Ahead.{ahead_lines, counters_text}
use Rattle.ss_signing.specs.Jobs.{gives_0, planned}
use Rattle.ss_signing.specs.Sending.{job_of}
use Rattle.ss_signing.proofs.Plans.{same_state}
use Rattle.ss_signing.proofs.Sending.{stops_whatever}
use Rattle.ss_signing.proofs.ahead.end_of.Goals as goal

pub returns-in_err-sent-clause-made : goal.returns-in_err-sent-clause-made
returns-in_err-sent-clause-made c =
    let start = started c.args.options.now.start in
    let config = c.args.config in
    let p = err_from_is_err_and c.from_residual.result c.from_residual.ensures.1 in
    rw (p.1, p.2)
    (stops_whatever (job_of start (planned config c.args.payload) gives_0 c.args.options.now.stamp c.args.options.now.form) (λ calls emitted. ahead_lines config (counters_of (state config start (reverse calls)))) c.args.messages.items c.in_err-sent.field-0.0 c.in_err-sent.ensures.sent)

pub returns-clause-made : goal.returns-clause-made
returns-clause-made c =
    let start = started c.args.options.now.start in
    let calls = all_calls start c.args.options.now.stamp c.args.messages.items in
    let sent = c.in_ok-sent.ensures.asked.sent in
    let session = c.in_ok-session.ensures ∙ ap (λ (x : Config). head_session x.head x.rsid) c.in_ok-sent.ensures.kept in
    let ended = c.in_ok-counters.ensures ∙ ap counters_of (sent.state_is ∙ same_state c.args.config start (reverse calls)) in
    record {
      emitted = sent.emitted;
      accepted = sent.accepted;
      output_is = λ i. counters_text (session i) (c.sg-sg.ensures i) (ended i);
    }
