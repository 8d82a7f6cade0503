use Rattle.std.proofs.Common.{rules}
use Rattle.std.proofs.lemmas.Fn.{always_returns_same}
use Rattle.ss_block.specs.Order.{group_cmp}
use Rattle.ss_review.specs.declared.counted.shortfall.GroupTail.{GroupTail}
use Rattle.ss_between.proofs.Lookups.{past_found, past_none}
use Rattle.ss_between.proofs.bounds.number_after.Goals as goal

pub returns-in-Ok : goal.returns-in-Ok
returns-in-Ok c = λ up.
    let g = c.args.group in
    let ts = c.args.tails.now in
    let d : GroupTail = record { group = record { sg = 0; spri = 0 }; first = 0; last = 0 } in
    past_found g ts up c.in-Ok.index d c.in-Ok.ensures.bound
    (c.in-Ok.ensures.position (λ (t : GroupTail). group_cmp t.group g) (always_returns_same _ _ _ (λ a r q k. search rules)) d)

pub returns-in-Err : goal.returns-in-Err
returns-in-Err c = λ up.
    let g = c.args.group in
    past_none g c.args.tails.now up c.in-Err.field-0
    (c.in-Err.ensures.position (λ (t : GroupTail). group_cmp t.group g) (always_returns_same _ _ _ (λ a r q k. search rules)))
