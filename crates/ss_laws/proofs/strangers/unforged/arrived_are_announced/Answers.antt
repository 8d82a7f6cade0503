use Rattle.ss_laws.proofs.of_strangers.Arrived.{arrived_announced}
use Rattle.ss_laws.proofs.strangers.unforged.arrived_are_announced.Goals as goal

pub returns : goal.returns
returns c = arrived_announced c.logs_are_within.ensures c.sessions_are_joined_by_given.ensures
