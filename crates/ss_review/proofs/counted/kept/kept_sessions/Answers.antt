use Rattle.std.proofs.Common.{Bor, refl, ap, ◌∙◌}
use Rattle.ss_block.specs.declared.session.Session.{Session}
use Rattle.ss_block.specs.Order.{session_cmp}
use Rattle.ss_block.specs.OrderLaws.{session_cmp_total, session_cmp_exact}
use Rattle.ss_review.specs.Ordered.{in_order}
use Rattle.ss_review.specs.counted.Kept.{kept_sessions}
use Rattle.ss_review.proofs.of_lists.Rising.{in_order_by}
use Rattle.ss_review.proofs.counted.kept.kept_sessions.Goals as goal

pub returns : goal.returns
unfolding kept_sessions
returns c =
    in_order_by session_cmp_total session_cmp_exact (λ (s : Bor Session). s.now) (λ (a b : Bor Session). session_cmp a.now b.now) (λ a b. refl)
    c.in_ok-sessions.sessions.items c.put_in_order.new.items.items c.put_in_order.ensures.rises c.put_in_order.ensures.keeps c.put_in_order.ensures.adds_none
    ∙ ap (in_order session_cmp) c.in_ok-sessions.ensures
