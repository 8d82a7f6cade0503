use Rattle.ss_laws.proofs.of_parts.PinnedParts.{by_payloads}
use Rattle.ss_laws.proofs.parts.reports_by_payloads_add_up.Goals as goal

pub returns : goal.returns
returns c = by_payloads c.parts_add_up.ensures c.pinned_reports_are_of_logs.ensures
