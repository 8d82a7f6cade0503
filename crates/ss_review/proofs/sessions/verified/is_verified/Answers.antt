use Rattle.std.proofs.Common.{rules, sym, get_or}
use Rattle.std.proofs.lemmas.Fn.{always_returns_same}
use Rattle.std.proofs.lemmas.List.Elements.{Contains-get_or}
use Rattle.ss_block.specs.Order.{session_cmp}
use Rattle.ss_block.specs.OrderLaws.{session_cmp_exact}
use Rattle.ss_review.specs.declared.sessions.joined_session.JoinedSession.{JoinedSession}
use Rattle.ss_review.specs.sessions.Verified.{answers, is_verified}
use Rattle.ss_review.proofs.of_sessions.EqualBlocks.{verified_alike}
use Rattle.ss_review.proofs.of_sessions.Verifying.{found, not_found}
use Rattle.ss_review.proofs.sessions.verified.is_verified.Goals as goal

pub is_valid_in-requires-clause-askable : goal.is_valid_in-requires-clause-askable
is_valid_in-requires-clause-askable g c = λ payload is.
    let xs = c.args.sessions.now in
    let d = c.index-sessions-index.result in
    let tie = c.in-Ok.ensures.position (λ (x : JoinedSession). session_cmp x.session c.args.block.now.session) (always_returns_same _ _ _ (λ a r q k. search rules)) d in
    c.requires.askable (get_or xs c.in-Ok.index d) payload (Contains-get_or xs c.in-Ok.index d c.in-Ok.ensures.bound) (session_cmp_exact (get_or xs c.in-Ok.index d).session c.args.block.now.session tie) is

pub returns-in-Ok-clause-verified : goal.returns-in-Ok-clause-verified
returns-in-Ok-clause-verified g c = λ bs told had.
    let says = answers g.J.Judge.trusted g.J.Judge.valid c.args.judge.now in
    let tie = c.in-Ok.ensures.position (λ (x : JoinedSession). session_cmp x.session c.args.block.now.session) (always_returns_same _ _ _ (λ a r q k. search rules)) c.index-sessions-index.result in
    c.is_valid_in.ensures.valid (is_verified says bs) had (sym (found says bs c.args.block.now c.args.sessions.now told c.in-Ok.index c.index-sessions-index.result c.in-Ok.ensures.bound tie))

pub returns-in-Ok-clause-kept : goal.returns-in-Ok-clause-kept
returns-in-Ok-clause-kept g c = λ bs told had.
    let says = answers g.J.Judge.trusted g.J.Judge.valid c.args.judge.now in
    let tie = c.in-Ok.ensures.position (λ (x : JoinedSession). session_cmp x.session c.args.block.now.session) (always_returns_same _ _ _ (λ a r q k. search rules)) c.index-sessions-index.result in
    c.is_valid_in.ensures.kept (is_verified says bs) (verified_alike says bs) had (sym (found says bs c.args.block.now c.args.sessions.now told c.in-Ok.index c.index-sessions-index.result c.in-Ok.ensures.bound tie))

pub returns-in-Err-clause-verified : goal.returns-in-Err-clause-verified
returns-in-Err-clause-verified g c = λ bs told had.
    not_found (answers g.J.Judge.trusted g.J.Judge.valid c.args.judge.now) bs c.args.block.now c.args.sessions.now told c.in-Err.field-0
    (c.in-Err.ensures.position (λ (x : JoinedSession). session_cmp x.session c.args.block.now.session) (always_returns_same _ _ _ (λ a r q k. search rules)))
