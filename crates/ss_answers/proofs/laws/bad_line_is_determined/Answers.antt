use Rattle.ss_answers.proofs.AnswerLaws as laws
use Rattle.ss_answers.proofs.laws.bad_line_is_determined.Goals as goal

pub returns : goal.returns
returns c = laws.bad_line_is_determined
