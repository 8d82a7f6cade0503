-- The messages so far.
use Rattle.std.proofs.Common.{◌≡◌}
use Rattle.ss_review.proofs.keep.block_message.messages_of.Given as goal

abbrev pub invariant-loop-kept : goal.invariant-loop-kept
invariant-loop-kept l = l.messages.items ≡ l.yielded
