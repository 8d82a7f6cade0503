use Rattle.ss_origin.proofs.Counted.{sent_blocks_are_counted}
use Rattle.ss_origin.proofs.laws.chains.sent_blocks_are_counted.Goals as goal

pub returns : goal.returns
returns c = sent_blocks_are_counted
