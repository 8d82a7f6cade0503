-- The state of a session is the one that its certificate blocks state together.
use Rattle.std.proofs.Common.{◌≡◌, ℕ, List}
use Rattle.std.specs.Prelude.{Err}
use Rattle.ss_block.specs.Block as block
use Rattle.ss_payload.specs.declared.joiner.JoinState.TheVariants as join
use Rattle.ss_block.specs.Joining.{IsDisputed, HasGap, IsPayload}
use Rattle.ss_review.specs.declared.report.session_report.SessionState.TheVariants as states
use Rattle.ss_review.specs.sessions.Payloads.{payload_or_malformed, stated_payload}
use Rattle.ss_review.specs.sessions.States.{stated_by}
use Rattle.ss_review.proofs.of_sessions.Stating.{whole_payload, unjoined_payload, stated_by-IsStatedBy}

-- ---- what is computed of a stated text, a gap or a dispute

pub disputed_payload : (cs : List block.Certificate) → IsDisputed (stated_by cs) → stated_payload cs ≡ Err states.Disputed
disputed_payload cs d = unjoined_payload cs (stated_by cs) (stated_by-IsStatedBy cs) (λ w. w.0 d) join.Disputed d

pub incomplete_payload : (cs : List block.Certificate) → ¬ IsDisputed (stated_by cs) → HasGap (stated_by cs) → stated_payload cs ≡ Err states.Incomplete
incomplete_payload cs n g = unjoined_payload cs (stated_by cs) (stated_by-IsStatedBy cs) (λ w. w.1 g) join.Incomplete (n, g)

pub text_payload : (cs : List block.Certificate) → ¬ IsDisputed (stated_by cs) → ¬ HasGap (stated_by cs) → (text : List ℕ) → IsPayload (stated_by cs) text → stated_payload cs ≡ payload_or_malformed text
text_payload cs n g text p = whole_payload cs (stated_by cs) (stated_by-IsStatedBy cs) (n, g) text p
