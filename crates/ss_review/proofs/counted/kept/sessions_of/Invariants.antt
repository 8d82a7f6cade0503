-- The sessions of the counters so far.
use Rattle.std.proofs.Common.{◌≡◌, Bor, take, map}
use Rattle.ss_block.specs.declared.session.Session.{Session}
use Rattle.ss_review.specs.declared.counted.counter.Counter.{Counter}
use Rattle.ss_review.proofs.counted.kept.sessions_of.Given as goal

abbrev pub invariant-loop-counter : goal.invariant-loop-counter
invariant-loop-counter l = map (λ (s : Bor Session). s.now) l.sessions.items ≡ map (λ (c : Counter). c.session) (take l.counter-index l.counters)
