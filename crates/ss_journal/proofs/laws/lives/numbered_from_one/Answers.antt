use Rattle.ss_journal.specs.Law.{begin}
use Rattle.ss_journal.proofs.Lives.{at_begin}
use Rattle.ss_journal.proofs.Counting.{run_counted, begin_counted}
use Rattle.ss_journal.proofs.laws.lives.numbered_from_one.Goals as goal

pub returns-clause-open : goal.returns-clause-open
returns-clause-open c es w run = (run_counted begin es w at_begin begin_counted run).from_one

pub returns-clause-closed : goal.returns-clause-closed
returns-clause-closed c es w run = (run_counted begin es w at_begin begin_counted run).closed
