use Rattle.ss_answers.proofs.PartLaws as laws
use Rattle.ss_answers.proofs.laws.parts_have_their_counters.Goals as goal

pub returns : goal.returns
returns c = laws.parts_have_their_counters
