-- The blocks so far are of the session.
use Rattle.std.proofs.Common.{◌≡◌, ◌+◌, length, drop}
use Rattle.ss_review.specs.sessions.Sectioned.{referred, front}
use Rattle.ss_review.proofs.sessions.sectioning.front_len.Given as goal

abbrev pub invariant-loop-index : goal.invariant-loop-index
invariant-loop-index l = l.index + length (front l.session (referred (drop l.index l.blocks))) ≡ length (front l.session (referred l.blocks))
