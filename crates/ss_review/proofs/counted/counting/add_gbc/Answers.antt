use Rattle.std.proofs.Common.{rules, refl}
use Rattle.std.proofs.lemmas.Fn.{always_returns_same}
use Rattle.ss_block.specs.Order.{session_cmp}
use Rattle.ss_review.specs.declared.counted.counting.SessionGbcs.{SessionGbcs}
use Rattle.ss_review.proofs.of_counters.CountedTold.{found_more, found_none}
use Rattle.ss_review.proofs.counted.counting.add_gbc.Goals as goal

pub returns-in_ok-push-in-Ok : goal.returns-in_ok-push-in-Ok
returns-in_ok-push-in-Ok c = λ up.
    let s = c.args.session.now in
    let x = c.index-found-index.result in
    found_more s c.args.gbc c.args.found.now c.in-Ok.index x _ up c.in-Ok.ensures.bound
    (c.in-Ok.ensures.position (λ (f : SessionGbcs). session_cmp f.session.now s) (always_returns_same _ _ _ (λ a r q k. search rules)) x)
    refl
    c.in_ok-push-in-Ok.ensures.items

pub returns-in-Err : goal.returns-in-Err
returns-in-Err c = λ up.
    let s = c.args.session.now in
    found_none s c.args.gbc c.args.found.now c.in-Err.field-0 up
    (c.in-Err.ensures.position (λ (f : SessionGbcs). session_cmp f.session.now s) (always_returns_same _ _ _ (λ a r q k. search rules)))
