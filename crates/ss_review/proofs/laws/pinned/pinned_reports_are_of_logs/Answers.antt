use Rattle.ss_review.proofs.of_pinned.HiddenBlocks.{spoilt_text_is, of_logs}
use Rattle.ss_review.proofs.laws.pinned.pinned_reports_are_of_logs.Goals as goal

pub returns : goal.returns
returns c = of_logs (spoilt_text_is c.readings_are_of_values.ensures)
