use Rattle.std.proofs.Common.{◌++◌, ap, ◌∙◌}
use Rattle.std.proofs.lemmas.List.{take_all}
use Rattle.ss_review.proofs.of_pinned.Refusing.{together_is}
use Rattle.ss_review.proofs.pinned.refusing.together.Goals as goal

pub returns : goal.returns
returns c = λ all is.
    let others = c.loop-place.invariant ∙ ap (λ ys. c.args.places ++ ys) (take_all c.loop-place.place-index c.args.others.now c.loop-place-test.false) in
    c.from_vec.ensures
    ∙ together_is c.args.places c.args.others.now c.loop-place.together.items c.put_in_order.new.items.items all others is
    c.put_in_order.ensures.keeps c.put_in_order.ensures.adds_none c.put_in_order.ensures.rises
