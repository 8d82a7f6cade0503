use Rattle.std.proofs.Common.{Option, refl, subst}
use Rattle.ss_frame.specs.Watched.{sink_of}
use Rattle.ssign.specs.GivenFiles.{files_of}
use Rattle.ssign.specs.FirstOctets.{inside, kept_octets}
use Rattle.ssign.specs.Outcome.{RunsOrder}
use Rattle.ssign.specs.declared.command_line.Order.{Order}
use Rattle.ssign.proofs.program.run_named.Goals as goal

pub returns-in_default : goal.returns-in_default
returns-in_default g c =
    let sink = sink_of g.W.Write.contents c.args.writer.now in
    subst (λ (order : Option Order). RunsOrder (files_of g.F.GivenFiles.contents g.F.GivenFiles.written c.args.files.now) (files_of g.F.GivenFiles.contents g.F.GivenFiles.written c.args.files.now) c.args.tables c.args.options.now order
    (g.I.Read.remaining (inside c.args.input.now)) (kept_octets c.args.input.now) sink sink c.silent.result)
    c.in_default.ensures (c.silent.ensures, refl, refl)

pub returns : goal.returns
returns g c =
    subst (λ (order : Option Order). RunsOrder (files_of g.F.GivenFiles.contents g.F.GivenFiles.written c.args.files.now) (files_of g.F.GivenFiles.contents g.F.GivenFiles.written c.run_over.new.files) c.args.tables c.args.options.now order
    (g.I.Read.remaining (inside c.args.input.now)) (kept_octets c.run_over.new.input) (sink_of g.W.Write.contents c.args.writer.now)
    (sink_of g.W.Write.contents c.run_over.new.writer) c.run_over.result)
    c.in-Some.ensures c.run_over.ensures
