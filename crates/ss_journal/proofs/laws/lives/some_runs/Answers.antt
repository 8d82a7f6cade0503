use Rattle.ss_journal.proofs.Examples.{some_asked, some_closed}
use Rattle.ss_journal.proofs.laws.lives.some_runs.Goals as goal

pub returns-clause-asked : goal.returns-clause-asked
returns-clause-asked c message is = some_asked message is

pub returns-clause-closed : goal.returns-clause-closed
returns-clause-closed c message octets is block = some_closed message is octets block
