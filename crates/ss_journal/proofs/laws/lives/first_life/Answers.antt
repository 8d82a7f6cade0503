use Rattle.ss_journal.proofs.Living.{first_reached}
use Rattle.ss_journal.proofs.laws.lives.first_life.Goals as goal

pub returns : goal.returns
returns c i none = first_reached i none
