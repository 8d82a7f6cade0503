use Rattle.std.proofs.Common.{◌+◌}
use Rattle.ss_journal.specs.Law.{begin}
use Rattle.ss_journal.proofs.Lives.{at_begin, run_right, one_message}
use Rattle.ss_journal.proofs.laws.lives.asked_once.Goals as goal

pub returns : goal.returns
returns c es w run s n a b p q = one_message w.session.rsid (w.number + w.pending) w.asked s n a b (run_right begin es w at_begin run).ordered p q
