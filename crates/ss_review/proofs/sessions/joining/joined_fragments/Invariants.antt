-- The joiner was given the fragments of the blocks so far.
use Rattle.std.proofs.Common.{take, map}
use Rattle.ss_block.specs.Joiner.{Stands}
use Rattle.ss_review.specs.sessions.Payloads.{certificates}
use Rattle.ss_review.specs.sessions.Stated.{stated_in_turn}
use Rattle.ss_review.proofs.sessions.joining.joined_fragments.Given as goal

abbrev pub invariant-loop-message : goal.invariant-loop-message
invariant-loop-message l = Stands l.joiner (stated_in_turn (certificates (map (λ b. b.now) (take l.message-index l.blocks))))
