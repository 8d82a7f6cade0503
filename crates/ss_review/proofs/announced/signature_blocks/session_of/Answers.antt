use Rattle.std.proofs.Common.{rules, ◌∙◌}
use Rattle.std.proofs.lemmas.Fn.{always_returns_same}
use Rattle.ss_block.specs.Order.{session_cmp}
use Rattle.ss_block.specs.OrderLaws.{session_cmp_exact}
use Rattle.ss_review.specs.declared.sessions.joined_session.JoinedSession.{JoinedSession}
use Rattle.ss_review.specs.announced.Indexed.{nobody}
use Rattle.ss_review.proofs.of_sessions.Verifying.{not_found}
use Rattle.ss_review.proofs.announced.signature_blocks.session_of.Goals as goal

pub returns-in-Ok-clause-same : goal.returns-in-Ok-clause-same
returns-in-Ok-clause-same c =
    session_cmp_exact _ _ (c.in-Ok.ensures.position (λ (x : JoinedSession). session_cmp x.session c.args.message.now.session) (always_returns_same _ _ _ (λ a r q k. search rules)) nobody)

pub returns-in-Err-clause-found : goal.returns-in-Err-clause-found
returns-in-Err-clause-found c = λ says bs told verified.
    let none = not_found says bs c.args.message.now c.args.sessions.now told c.in-Err.field-0
    (c.in-Err.ensures.position (λ (x : JoinedSession). session_cmp x.session c.args.message.now.session) (always_returns_same _ _ _ (λ a r q k. search rules))) ∙ verified in
    absurd (cc)
