use Rattle.std.proofs.Common.{◌≡◌, true, sym, ap, ◌∙◌}
use Rattle.std.specs.Ordering.{eq_by_cmp}
use Rattle.std.specs.Cmp.{Equal-is}
use Rattle.ss_block.specs.declared.session.Session.{Session}
use Rattle.ss_block.specs.Order.{session_cmp}
use Rattle.ss_block.specs.OrderLaws.{session_cmp_exact}
use Rattle.ss_review.specs.keep.BlockMessage.{BlockMessage}
use Rattle.ss_review.proofs.keep.block_message.session_beside.Goals as goal

-- sessions that the test finds equal are equal
same_session : (a b : Session) → eq_by_cmp session_cmp a b ≡ true → a ≡ b
same_session a b e = session_cmp_exact a b ((Equal-is (session_cmp a b)).0 e)

pub returns-then-eq : goal.returns-then-eq
returns-then-eq c =
    let equal : eq_by_cmp session_cmp c.in_ok-session.session c.session-in-Some.result.now ≡ true = sym c.if-eq.ensures in
    c.in_ok-clone.ensures.cases ∙ c.before-in-Some.invariant ∙ ap (λ (b : BlockMessage). b.session) c.before-in-Some.view_is
    ∙ sym c.session-in-Some.ensures ∙ sym (same_session _ _ equal) ∙ c.in_ok-session.ensures
