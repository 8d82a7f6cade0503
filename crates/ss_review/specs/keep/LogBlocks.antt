-- The blocks of a log, verified or not: where each stands, the session that it claims, and what it says about itself.
use Rattle.std.specs.Prelude.{List, map}
use Rattle.ss_review.specs.declared.keep.log_blocks.LogBlock.{LogBlock}
use Rattle.ss_review.specs.keep.BlockMessage.{BlockMessage}
use Rattle.ss_review.specs.questions.Questions.{parameters_of}

abbrev pub log_block : BlockMessage → LogBlock
log_block b = record { place = b.place; session = b.session; parameters = parameters_of b.count b.said }

abbrev pub log_blocks : List BlockMessage → List LogBlock
log_blocks bs = map log_block bs
