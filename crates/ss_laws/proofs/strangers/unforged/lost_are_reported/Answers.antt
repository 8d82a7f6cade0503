use Rattle.ss_laws.proofs.of_strangers.UnforgedNumbers.{lost_reported}
use Rattle.ss_review.proofs.of_pinned.HiddenBlocks.{spoilt_text_is}
use Rattle.ss_laws.proofs.strangers.unforged.lost_are_reported.Goals as goal

pub returns : goal.returns
returns c = lost_reported c.numbers_are_given_once.ensures c.every_number_is_told.ensures (spoilt_text_is c.readings_are_of_values.ensures)
