use Rattle.ss_origin.proofs.ChainsAhead.{chains_go_on_ahead}
use Rattle.ss_origin.proofs.laws.ahead.chains_go_on_ahead.Goals as goal

pub returns : goal.returns
returns c = chains_go_on_ahead
