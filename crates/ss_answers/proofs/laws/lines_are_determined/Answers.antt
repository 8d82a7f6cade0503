use Rattle.ss_answers.proofs.AnswerLaws as laws
use Rattle.ss_answers.proofs.laws.lines_are_determined.Goals as goal

pub returns : goal.returns
returns c = laws.lines_are_determined
