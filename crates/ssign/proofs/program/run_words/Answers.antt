use Rattle.std.proofs.Common.{map, refl, inl, inr}
use Rattle.std.specs.Prelude.{string_bytes}
use Rattle.clap.specs.Words.{subcommand_rows_of}
use Rattle.ss_frame.specs.Watched.{sink_of}
use Rattle.ssign.specs.GivenFiles.{files_of}
use Rattle.ssign.specs.FirstOctets.{inside, kept_octets}
use Rattle.ssign.proofs.Statuses.{words_most, words_usage}
use Rattle.ssign.proofs.program.run_words.Goals as goal

pub returns-in-Err-clause-runs : goal.returns-in-Err-clause-runs
returns-in-Err-clause-runs g c = inr (c.in-Err.ensures, refl, refl)

pub returns-in-Err-clause-most : goal.returns-in-Err-clause-most
returns-in-Err-clause-most g c =
    let sink = sink_of g.W.Write.contents c.args.writer.now in
    words_most (files_of g.F.GivenFiles.contents g.F.GivenFiles.written c.args.files.now) (files_of g.F.GivenFiles.contents g.F.GivenFiles.written c.args.files.now) c.args.tables (g.I.Read.remaining (inside c.args.input.now))
    (kept_octets c.args.input.now) sink sink c.in-Err.outcome (map string_bytes c.args.words.now) (returns-in-Err-clause-runs g c)

pub returns-in-Err-clause-usage : goal.returns-in-Err-clause-usage
returns-in-Err-clause-usage g c = λ mistakes.
    let sink = sink_of g.W.Write.contents c.args.writer.now in
    words_usage (files_of g.F.GivenFiles.contents g.F.GivenFiles.written c.args.files.now) (files_of g.F.GivenFiles.contents g.F.GivenFiles.written c.args.files.now) c.args.tables (g.I.Read.remaining (inside c.args.input.now))
    (kept_octets c.args.input.now) sink sink c.in-Err.outcome (map string_bytes c.args.words.now) mistakes (returns-in-Err-clause-runs g c)

pub returns-clause-runs : goal.returns-clause-runs
returns-clause-runs g c = inl (subcommand_rows_of c.in-Ok.matches, c.in-Ok.ensures, c.run_command.ensures)

pub returns-clause-most : goal.returns-clause-most
returns-clause-most g c =
    words_most (files_of g.F.GivenFiles.contents g.F.GivenFiles.written c.args.files.now) (files_of g.F.GivenFiles.contents g.F.GivenFiles.written c.run_command.new.files) c.args.tables (g.I.Read.remaining (inside c.args.input.now))
    (kept_octets c.run_command.new.input) (sink_of g.W.Write.contents c.args.writer.now) (sink_of g.W.Write.contents c.run_command.new.writer)
    c.run_command.result (map string_bytes c.args.words.now) (returns-clause-runs g c)

pub returns-clause-usage : goal.returns-clause-usage
returns-clause-usage g c = λ mistakes.
    words_usage (files_of g.F.GivenFiles.contents g.F.GivenFiles.written c.args.files.now) (files_of g.F.GivenFiles.contents g.F.GivenFiles.written c.run_command.new.files) c.args.tables (g.I.Read.remaining (inside c.args.input.now))
    (kept_octets c.run_command.new.input) (sink_of g.W.Write.contents c.args.writer.now) (sink_of g.W.Write.contents c.run_command.new.writer)
    c.run_command.result (map string_bytes c.args.words.now) mistakes (returns-clause-runs g c)
