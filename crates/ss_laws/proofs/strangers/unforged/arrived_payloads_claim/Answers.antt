use Rattle.ss_laws.proofs.of_strangers.Arrived.{arrived_claim}
use Rattle.ss_laws.proofs.strangers.unforged.arrived_payloads_claim.Goals as goal

pub returns : goal.returns
returns c = arrived_claim c.joined_by_fragments.ensures c.one_report.ensures c.logs_are_within.ensures
