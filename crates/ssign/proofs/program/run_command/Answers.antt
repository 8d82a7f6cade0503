use Rattle.std.proofs.Common.{List, Option, refl, sym, subst}
use Rattle.clap.specs.Words.{Row, Text, found_of, rows_of}
use Rattle.ss_frame.specs.Watched.{sink_of}
use Rattle.ssign.specs.GivenFiles.{files_of}
use Rattle.ssign.specs.FirstOctets.{inside, kept_octets}
use Rattle.ssign.specs.Outcome.{RunsNamed}
use Rattle.ssign.proofs.NamedCommands.{is_named, is_unnamed}
use Rattle.ssign.proofs.program.run_command.Goals as goal

pub returns-in_default : goal.returns-in_default
returns-in_default g c =
    let sink = sink_of g.W.Write.contents c.args.writer.now in
    subst (λ (named : Option (Text × List Row)). RunsNamed (files_of g.F.GivenFiles.contents g.F.GivenFiles.written c.args.files.now) (files_of g.F.GivenFiles.contents g.F.GivenFiles.written c.args.files.now) c.args.tables named
    (g.I.Read.remaining (inside c.args.input.now)) (kept_octets c.args.input.now) sink sink c.silent.result)
    (sym (is_unnamed c.args.matches.now c.in_default.ensures.rows)) (c.silent.ensures, refl, refl)

pub returns : goal.returns
returns g c =
    let named = is_named c.args.matches.now c.in-Some.name.now (rows_of (found_of c.in-Some.options.now)) c.in-Some.ensures.name c.in-Some.ensures.rows in
    subst (λ (found : Option (Text × List Row)). RunsNamed (files_of g.F.GivenFiles.contents g.F.GivenFiles.written c.args.files.now) (files_of g.F.GivenFiles.contents g.F.GivenFiles.written c.run_named.new.files) c.args.tables found
    (g.I.Read.remaining (inside c.args.input.now)) (kept_octets c.run_named.new.input) (sink_of g.W.Write.contents c.args.writer.now)
    (sink_of g.W.Write.contents c.run_named.new.writer) c.run_named.result)
    (sym named) (record { options = c.in-Some.options.now; given = refl; runs = c.run_named.ensures })
