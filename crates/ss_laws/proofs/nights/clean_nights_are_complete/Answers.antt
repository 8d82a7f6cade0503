use Rattle.ss_laws.proofs.of_nights.CompleteNights.{clean_is_complete}
use Rattle.ss_laws.proofs.nights.clean_nights_are_complete.Goals as goal

pub returns : goal.returns
returns c = clean_is_complete
