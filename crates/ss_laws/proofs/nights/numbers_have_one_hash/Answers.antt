use Rattle.ss_laws.proofs.of_nights.OneHash.{one_hash}
use Rattle.ss_laws.proofs.nights.numbers_have_one_hash.Goals as goal

pub returns : goal.returns
returns c =
    one_hash c.listed_are_assigned.ensures c.pinned_reports_are_of_logs.ensures c.complete_nights_have_all.ensures
