use Rattle.std.proofs.Common.{◌≡◌, ◌++◌, refl, rules}
use Rattle.ss_answers.proofs.EndedLines.{text_of-more}
use Rattle.ss_answers.proofs.lines.LinesSoFar.go_on.Goals as goal

pub returns-in-Ok-clause-taken : goal.returns-in-Ok-clause-taken
returns-in-Ok-clause-taken c =
    let more : c.extend_from_slice.new.self.items ≡ c.args.self.now.unfinished.items ++ c.args.text.now = search rules in
    text_of-more c.args.self.now _ c.args.text.now refl more
