-- Which of the messages that a reviewer was fed are blocks.
use Rattle.std.specs.Prelude.{Bool, true, false}
use Rattle.ss_review.specs.keep.Notes.{Note, Normal, Block, Spoilt}

abbrev pub is_block : Note → Bool
is_block (Normal pair) = false
is_block (Block text) = true
is_block (Spoilt cause) = false
