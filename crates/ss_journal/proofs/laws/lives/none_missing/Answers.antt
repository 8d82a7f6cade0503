use Rattle.ss_journal.specs.Law.{begin}
use Rattle.ss_journal.proofs.Lives.{at_begin, run_right, all_announced}
use Rattle.ss_journal.proofs.laws.lives.none_missing.Goals as goal

pub returns-clause-order : goal.returns-clause-order
returns-clause-order c es w run = (run_right begin es w at_begin run).in_order

pub returns-clause-all : goal.returns-clause-all
returns-clause-all c es w run all = all_announced w.out (run_right begin es w at_begin run).in_order all

pub returns-clause-blocks : goal.returns-clause-blocks
returns-clause-blocks c es w run = (run_right begin es w at_begin run).blocks

pub returns-clause-closed : goal.returns-clause-closed
returns-clause-closed c es w run = (run_right begin es w at_begin run).closed
