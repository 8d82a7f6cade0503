use Rattle.std.proofs.Common.{inr}
use Rattle.ss_frame.specs.Watched.{source_of, sink_of}
use Rattle.ssign.specs.GivenFiles.{files_of}
use Rattle.ssign.proofs.AskedFiles.{unasked_asking}
use Rattle.ssign.proofs.AskedQuestions.{ends_unasked, is_early, is_no_write}
use Rattle.ssign.proofs.orders.asking.run_asking.Goals as goal

pub returns-in-Err-clause-ends : goal.returns-in-Err-clause-ends
returns-in-Err-clause-ends g c =
    let files = files_of g.F.GivenFiles.contents g.F.GivenFiles.written c.args.files.now in
    let source = source_of g.R.Read.remaining c.args.reader.now in
    let sink = sink_of g.W.Write.contents c.args.writer.now in
    unasked_asking c.args.ask.now c.args.answers.now files files c.args.options.now source source sink sink c.in-Err.refusal c.in-Err.ensures

pub returns-in-Err-read-clause-ends : goal.returns-in-Err-read-clause-ends
returns-in-Err-read-clause-ends g c = (c.in-Ok.asked, c.in-Ok.ensures, c.in-Err-read.ensures.read)

pub returns-in-Err-ask_in-clause-ends : goal.returns-in-Err-ask_in-clause-ends
returns-in-Err-ask_in-clause-ends g c =
    let old = files_of g.F.GivenFiles.contents g.F.GivenFiles.written c.args.files.now in
    let new = files_of g.F.GivenFiles.contents g.F.GivenFiles.written c.ask_in.new.files in
    let before = source_of g.R.Read.remaining c.args.reader.now in
    let after = source_of g.R.Read.remaining c.read.new.reader in
    let sink = sink_of g.W.Write.contents c.args.writer.now in
    ends_unasked c.args.ask.now c.args.answers.now old new c.args.options.now before after sink sink c.in-Ok.asked c.in-Err-ask_in.refusal c.in-Ok.ensures
    (c.in-Err-ask_in.ensures.asks before after c.in-Ok-read.ensures.read)

pub returns-in-Err-ask_in-clause-unread : goal.returns-in-Err-ask_in-clause-unread
returns-in-Err-ask_in-clause-unread g c = λ early. absurd (is_early c.in-Err-ask_in.refusal c.in-Err-ask_in.ensures.late early)

pub returns-in-Err-answers-clause-ends : goal.returns-in-Err-answers-clause-ends
returns-in-Err-answers-clause-ends g c =
    let before = source_of g.R.Read.remaining c.args.reader.now in
    let after = source_of g.R.Read.remaining c.read.new.reader in
    (c.in-Ok.asked, record { asked = c.in-Ok.ensures; asks = c.in-Ok-ask_in.ensures.asks before after c.in-Ok-read.ensures.read }, c.in-Err-answers.ensures)

pub returns-in-Ok-report_on-clause-ends : goal.returns-in-Ok-report_on-clause-ends
returns-in-Ok-report_on-clause-ends g c =
    let before = source_of g.R.Read.remaining c.args.reader.now in
    let after = source_of g.R.Read.remaining c.read.new.reader in (
      c.in-Ok.asked,
      c.in-Ok-answers.answers,
      record { asked = c.in-Ok.ensures; asks = c.in-Ok-ask_in.ensures.asks before after c.in-Ok-read.ensures.read },
      c.in-Ok-answers.ensures,
      c.in-Ok-report_on.ensures.done before after c.in-Ok-read.ensures.read,
    )

pub returns-in-Err-report_on-clause-ends : goal.returns-in-Err-report_on-clause-ends
returns-in-Err-report_on-clause-ends g c =
    let before = source_of g.R.Read.remaining c.args.reader.now in
    let after = source_of g.R.Read.remaining c.read.new.reader in inr (
      c.in-Ok.asked,
      c.in-Ok-answers.answers,
      record { asked = c.in-Ok.ensures; asks = c.in-Ok-ask_in.ensures.asks before after c.in-Ok-read.ensures.read },
      c.in-Ok-answers.ensures,
      c.in-Err-report_on.ensures.stopped before after c.in-Ok-read.ensures.read,
    )

pub returns-in-Err-report_on-clause-untouched : goal.returns-in-Err-report_on-clause-untouched
returns-in-Err-report_on-clause-untouched g c =
    let before = source_of g.R.Read.remaining c.args.reader.now in
    let after = source_of g.R.Read.remaining c.read.new.reader in
    λ is. c.in-Err-report_on.ensures.untouched before after c.in-Ok-read.ensures.read (is_no_write c.in-Err-report_on.fault is)
