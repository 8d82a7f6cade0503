use Rattle.ss_frame.specs.Watched.{source_of, sink_of}
use Rattle.ssign.specs.GivenFiles.{files_of}
use Rattle.ssign.proofs.AskedFiles.{asking, at_once, unanswered}
use Rattle.ssign.proofs.orders.log.run_log.Goals as goal

pub returns-in-None-clause-ends : goal.returns-in-None-clause-ends
returns-in-None-clause-ends g c =
    let files = files_of g.F.GivenFiles.contents g.F.GivenFiles.written c.args.files.now in
    at_once files files c.args.options.now c.args.task _ _ _ _ c.run_at_once.result _ c.in-None.ensures.path c.run_at_once.ensures.ends

pub returns-in-None-answers_file-clause-ends : goal.returns-in-None-answers_file-clause-ends
returns-in-None-answers_file-clause-ends g c =
    let files = files_of g.F.GivenFiles.contents g.F.GivenFiles.written c.args.files.now in
    let source = source_of g.R.Read.remaining c.args.reader.now in
    let sink = sink_of g.W.Write.contents c.args.writer.now in
    unanswered files files c.args.options.now c.args.task source source sink sink c.in-Some.ask.now c.in-Some.ensures.path c.in-None-answers_file.ensures

pub returns-clause-ends : goal.returns-clause-ends
returns-clause-ends g c =
    let old = files_of g.F.GivenFiles.contents g.F.GivenFiles.written c.args.files.now in
    let new = files_of g.F.GivenFiles.contents g.F.GivenFiles.written c.run_asking.new.files in
    asking old new c.args.options.now c.args.task _ _ _ _ c.run_asking.result c.in-Some.ask.now c.in-Some-answers_file.answers.now
    c.in-Some.ensures.path c.in-Some-answers_file.ensures c.run_asking.ensures.ends
