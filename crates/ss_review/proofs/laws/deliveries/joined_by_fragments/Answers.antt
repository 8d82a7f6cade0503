use Rattle.ss_review.proofs.of_deliveries.JoinedByFragments.{joined_by_fragments}
use Rattle.ss_review.proofs.laws.deliveries.joined_by_fragments.Goals as goal

pub returns : goal.returns
returns c = joined_by_fragments c.joins_own_payload.ensures c.one_report.ensures
