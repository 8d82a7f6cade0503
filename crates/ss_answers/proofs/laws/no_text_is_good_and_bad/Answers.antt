use Rattle.ss_answers.proofs.AnswerLaws as laws
use Rattle.ss_answers.proofs.laws.no_text_is_good_and_bad.Goals as goal

pub returns : goal.returns
returns c = laws.no_text_is_good_and_bad
