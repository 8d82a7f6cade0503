-- The messages so far.
use Rattle.std.proofs.Common.{◌≡◌, take}
use Rattle.ss_review.proofs.keep.block_message.copied_messages.Given as goal

abbrev pub invariant-loop-kept : goal.invariant-loop-kept
invariant-loop-kept l = l.messages.items ≡ take l.kept-index l.blocks
