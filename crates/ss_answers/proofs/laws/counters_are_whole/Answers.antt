use Rattle.ss_answers.proofs.PartLaws as laws
use Rattle.ss_answers.proofs.laws.counters_are_whole.Goals as goal

pub returns : goal.returns
returns c = laws.counters_are_whole
