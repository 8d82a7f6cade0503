-- The spans of those of the blocks so far that count.
use Rattle.std.proofs.Common.{◌≡◌, Bool, length, take, map, filter}
use Rattle.ss_review.specs.keep.BlockMessage.{BlockMessage}
use Rattle.ss_review.specs.sessions.Covering.{spans_of}
use Rattle.ss_review.specs.sessions.Payloads.{certificates}
use Rattle.ss_review.specs.sessions.Sectioned.{referred}
use Rattle.ss_review.proofs.pinned.agreeing.counted_spans.Given as goal

abbrev pub invariant-loop-block : goal.invariant-loop-block
invariant-loop-block l = (f : BlockMessage → Bool) → l.counts ≡ map f (referred l.blocks)
    → l.spans.items ≡ spans_of (certificates (filter f (referred (take (length l.yielded) l.blocks))))
