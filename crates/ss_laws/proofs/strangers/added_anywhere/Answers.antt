use Rattle.ss_laws.proofs.of_strangers.AddedMessages.{added_anywhere}
use Rattle.ss_laws.proofs.strangers.added_anywhere.Goals as goal

pub returns : goal.returns
returns c = added_anywhere
