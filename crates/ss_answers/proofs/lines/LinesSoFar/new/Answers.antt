use Rattle.std.proofs.Common.{rules}
use Rattle.ss_answers.specs.LinesSoFar.{text_of}
use Rattle.ss_answers.proofs.lines.LinesSoFar.new.Goals as goal

pub returns-clause-none : goal.returns-clause-none
unfolding text_of
returns-clause-none c = search rules
