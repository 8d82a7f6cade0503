use Rattle.std.proofs.Common.{rules}
use Rattle.std.proofs.lemmas.Fn.{always_returns_same}
use Rattle.ss_block.specs.Order.{session_cmp}
use Rattle.ss_review.specs.declared.counted.shortfall.Shortfall.{Shortfall}
use Rattle.ss_between.proofs.Lookups.{found, not_found}
use Rattle.ss_between.proofs.bounds.below_of.Goals as goal

pub returns-in-Ok : goal.returns-in-Ok
returns-in-Ok c = λ up.
    let s = c.args.session.now in
    let fs = c.args.below.now in
    let d = c.index-below-index.result in
    found s fs c.in-Ok.index d c.in-Ok.ensures.bound c.index-below-index.is
    (c.in-Ok.ensures.position (λ (f : Shortfall). session_cmp f.session s) (always_returns_same _ _ _ (λ a r q k. search rules)) d)

pub returns-in-Err : goal.returns-in-Err
returns-in-Err c = λ up.
    let s = c.args.session.now in
    not_found s c.args.below.now c.in-Err.field-0 up
    (c.in-Err.ensures.position (λ (f : Shortfall). session_cmp f.session s) (always_returns_same _ _ _ (λ a r q k. search rules)))
