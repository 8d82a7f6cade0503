use Rattle.ss_answers.proofs.CutLaws as laws
use Rattle.ss_answers.proofs.laws.cuts_are_seen.Goals as goal

pub returns : goal.returns
returns c = laws.cuts_are_seen
