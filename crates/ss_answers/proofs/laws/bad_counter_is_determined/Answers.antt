use Rattle.ss_answers.proofs.PartLaws as laws
use Rattle.ss_answers.proofs.laws.bad_counter_is_determined.Goals as goal

pub returns : goal.returns
returns c = laws.bad_counter_is_determined
