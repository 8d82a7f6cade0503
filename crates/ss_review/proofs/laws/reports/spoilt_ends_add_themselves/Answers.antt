use Rattle.ss_review.proofs.of_kept_messages.Ends.{spoilt_ends}
use Rattle.ss_review.proofs.laws.reports.spoilt_ends_add_themselves.Goals as goal

pub returns : goal.returns
returns c = spoilt_ends
