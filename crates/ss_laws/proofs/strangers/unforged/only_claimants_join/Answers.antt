use Rattle.ss_laws.proofs.of_strangers.UnforgedNumbers.{only_claimants}
use Rattle.ss_laws.proofs.strangers.unforged.only_claimants_join.Goals as goal

pub returns : goal.returns
returns c = only_claimants c.logs_are_within.ensures c.sessions_are_joined_by_given.ensures
