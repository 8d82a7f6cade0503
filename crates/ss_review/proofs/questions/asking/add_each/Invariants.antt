-- The session for each of the payloads so far.
use Rattle.std.proofs.Common.{◌≡◌, ◌++◌, take, map}
use Rattle.std.specs.Prelude.{flat_map, Ok}
use Rattle.ss_review.specs.questions.Questions.{asked_session}
use Rattle.ss_review.specs.sessions.Sectioned.{referred}
use Rattle.ss_review.proofs.questions.asking.add_each.Given as goal

abbrev pub invariant-loop-payload : goal.invariant-loop-payload
invariant-loop-payload l =
    l.sessions.items ≡ l.fn.sessions.items ++ flat_map (λ p. asked_session l.session (referred l.blocks) (Ok p)) (map (λ p. p.now) (take l.payload-index l.payloads))
