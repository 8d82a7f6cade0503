use Rattle.ss_journal.proofs.LossySeen.{seen_left}
use Rattle.ss_journal.proofs.laws.disks.seen_is_left.Goals as goal

pub returns : goal.returns
returns c = seen_left
