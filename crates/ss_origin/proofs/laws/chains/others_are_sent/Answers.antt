use Rattle.ss_origin.proofs.Announced.{others_are_sent}
use Rattle.ss_origin.proofs.laws.chains.others_are_sent.Goals as goal

pub returns : goal.returns
returns c = others_are_sent
