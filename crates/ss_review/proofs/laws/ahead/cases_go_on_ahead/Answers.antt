use Rattle.ss_review.proofs.of_deliveries.CasesAhead.{cases_go_on_ahead}
use Rattle.ss_review.proofs.laws.ahead.cases_go_on_ahead.Goals as goal

pub returns : goal.returns
returns c = cases_go_on_ahead c.chains_go_on_ahead.ensures
