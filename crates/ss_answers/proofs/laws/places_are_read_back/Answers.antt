use Rattle.ss_answers.proofs.PlaceLaws as laws
use Rattle.ss_answers.proofs.laws.places_are_read_back.Goals as goal

pub returns : goal.returns
returns c = laws.places_are_read_back
