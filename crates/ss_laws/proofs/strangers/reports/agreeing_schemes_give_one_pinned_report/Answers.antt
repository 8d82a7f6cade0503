use Rattle.ss_laws.proofs.of_strangers.PinnedAnswers.{one_pinned_report}
use Rattle.ss_laws.proofs.strangers.reports.agreeing_schemes_give_one_pinned_report.Goals as goal

pub returns : goal.returns
returns c = one_pinned_report c.logs_are_within.ensures
