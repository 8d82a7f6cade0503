use Rattle.ss_review.proofs.of_deliveries.CasesAhead.{listed_ahead_have_their_hash}
use Rattle.ss_review.proofs.laws.ahead.listed_have_their_hash.Goals as goal

pub returns : goal.returns
returns c = listed_ahead_have_their_hash c.announced_by_blocks.ensures c.reports_list_what_is_announced.ensures
