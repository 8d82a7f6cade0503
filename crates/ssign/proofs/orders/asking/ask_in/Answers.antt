use Rattle.std.proofs.Common.{ap, sym, subst}
use Rattle.ss_frame.specs.Watched.{sink_of}
use Rattle.ss_report.specs.forms.Forms.{notation_of}
use Rattle.ssign.specs.GivenFiles.{HoldsNothing, files_of}
use Rattle.ssign.specs.AskOrder.{asking_job}
use Rattle.ssign.proofs.AskedQuestions.{asks_failed, asks_whole, unmade}
use Rattle.ssign.proofs.orders.asking.ask_in.Goals as goal

pub returns-in-Err-clause-asks : goal.returns-in-Err-clause-asks
returns-in-Err-clause-asks g c = λ before after read.
    let files = files_of g.F.GivenFiles.contents g.F.GivenFiles.written in
    let a = c.args.asked.now in
    unmade (asking_job a) a.reading before after c.args.path.now (files c.args.files.now) (files c.create.new.self) c.in-Err.fault
    (c.args.review.now, read) c.in-Err.ensures.written

pub returns-in-Ok-result-clause-asks : goal.returns-in-Ok-result-clause-asks
returns-in-Ok-result-clause-asks g c = λ before after read.
    let files = files_of g.F.GivenFiles.contents g.F.GivenFiles.written in
    let contents = g.F.Output.Write.contents in
    let a = c.args.asked.now in
    asks_whole (asking_job a) a.reading before after c.args.path.now (files c.args.files.now) (files c.close.new.self)
    (sink_of contents c.new-output.result) (sink_of contents c.ask-result.new.writer) c.in-Ok-result.field-0
    (record {
      nothing = subst (λ o. HoldsNothing (contents o)) (sym c.new-output.ensures.inner) c.in-Ok.ensures.made;
      unfailed = c.new-output.ensures.failed;
    })
    (rw (c.into_inner.ensures, c.in-Ok.ensures.written) at c.close.ensures)
    (rw (c.notation.ensures, c.items_of-known.ensures) at (c.in-Ok-result.ensures.asked a.reading before after read))

pub returns-in-Err-result-clause-asks : goal.returns-in-Err-result-clause-asks
returns-in-Err-result-clause-asks g c = λ before after read.
    let files = files_of g.F.GivenFiles.contents g.F.GivenFiles.written in
    let contents = g.F.Output.Write.contents in
    let a = c.args.asked.now in
    rw c.unasked.ensures.refusal (asks_failed (notation_of a.reporting.form) a.known a.reading before after c.args.path.now (files c.args.files.now) (files c.close.new.self)
    (sink_of contents c.new-output.result) (sink_of contents c.ask-result.new.writer) c.in-Err-result.fault (c.args.review.now, read)
    (record {
      nothing = subst (λ o. HoldsNothing (contents o)) (sym c.new-output.ensures.inner) c.in-Ok.ensures.made;
      unfailed = c.new-output.ensures.failed;
    })
    (rw (c.into_inner.ensures, c.in-Ok.ensures.written) at c.close.ensures)
    (λ other. ap (sink_of contents) (c.in-Err-result.ensures.untouched a.reading before after read other))
    (rw (c.notation.ensures, c.items_of-known.ensures) at (c.in-Err-result.ensures.asked a.reading before after read)))
