use Rattle.std.proofs.Common.{rules, ◌++◌, ◌∷◌, [], length, cond, ap, ◌∙◌, sym, get_or, length-append}
use Rattle.std.proofs.lemmas.Slice.Zip.{zip_turn}
use Rattle.ss_review.proofs.of_sessions.Verifying.{refused_more}
use Rattle.ss_review.proofs.sessions.verified.unmarked.Goals as goal

pub loop-block-preserved : goal.loop-block-preserved
loop-block-preserved c = λ f told.
    let block = c.in-Some.block.now in
    let verified = c.in-Some.is_marked.now in
    let turn = zip_turn c.args.blocks.now c.args.marks.now c.loop-block.yielded c.into_iter-block-iterator.result c.loop-block.block-iterator c.next.new.self c.next.result (search rules) (search rules) c.loop-block.yielded_by (c.in-Some.block, c.in-Some.is_marked) c.in-Some.is c.next.ensures.steps in
    c.in_ok-add_unmarked.ensures
    ∙ ap (λ ps. ps ++ cond verified [] (block.place ∷ [])) (c.loop-block.invariant f told)
    ∙ sym (refused_more f c.args.blocks.now (length c.loop-block.yielded) _ block verified turn.0 (length-append c.loop-block.yielded ((c.in-Some.block, c.in-Some.is_marked) ∷ [])) (turn.2 block) (turn.3 verified ∙ ap (λ vs. get_or vs (length c.loop-block.yielded) verified) told))
