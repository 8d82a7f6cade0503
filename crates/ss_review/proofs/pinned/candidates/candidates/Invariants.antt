-- Those of the payloads so far.
use Rattle.std.proofs.Common.{◌≡◌, take, map, filter}
use Rattle.ss_review.specs.sessions.Payloads.{certificates, stated_payload}
use Rattle.ss_review.specs.sessions.Sectioned.{referred}
use Rattle.ss_review.specs.pinned.Pinned.{is_candidate}
use Rattle.ss_review.proofs.pinned.candidates.candidates.Given as goal

abbrev pub invariant-loop-payload : goal.invariant-loop-payload
invariant-loop-payload l = l.stated ≡ stated_payload (certificates (referred l.blocks))
    → map (λ p. p.now) l.candidates.items ≡ filter (is_candidate (referred l.blocks)) (take l.payload-index l.payloads)
