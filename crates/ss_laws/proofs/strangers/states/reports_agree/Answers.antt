use Rattle.ss_laws.proofs.of_strangers.ReportsAgree.{reports_agree}
use Rattle.ss_laws.proofs.strangers.states.reports_agree.Goals as goal

pub returns : goal.returns
returns c = reports_agree
