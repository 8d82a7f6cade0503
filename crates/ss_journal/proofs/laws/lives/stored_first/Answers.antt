use Rattle.ss_journal.specs.Law.{begin}
use Rattle.ss_journal.proofs.Lives.{at_begin, run_right}
use Rattle.ss_journal.proofs.laws.lives.stored_first.Goals as goal

pub returns : goal.returns
returns c es w run = (run_right begin es w at_begin run).stored
