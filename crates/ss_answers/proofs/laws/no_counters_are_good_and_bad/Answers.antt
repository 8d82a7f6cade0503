use Rattle.ss_answers.proofs.PartLaws as laws
use Rattle.ss_answers.proofs.laws.no_counters_are_good_and_bad.Goals as goal

pub returns : goal.returns
returns c = laws.no_counters_are_good_and_bad
