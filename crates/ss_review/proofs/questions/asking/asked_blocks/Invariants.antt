-- The blocks so far.
use Rattle.std.proofs.Common.{◌≡◌, map, take}
use Rattle.ss_review.specs.questions.Questions.{asked_block}
use Rattle.ss_review.specs.sessions.Sectioned.{referred}
use Rattle.ss_review.proofs.questions.asking.asked_blocks.Given as goal

abbrev pub invariant-loop-block : goal.invariant-loop-block
invariant-loop-block l = l.asked.items ≡ map asked_block (referred (take l.block-index l.blocks))
