use Rattle.std.proofs.Common.{rules, ◌++◌, ◌∷◌, [], length, cond, take, filter, ap, ◌∙◌, sym, length-append}
use Rattle.std.proofs.lemmas.Slice.Zip.{zip_turn}
use Rattle.ss_review.specs.sessions.Covering.{spans_of}
use Rattle.ss_review.specs.sessions.Payloads.{certificates}
use Rattle.ss_review.specs.sessions.Sectioned.{referred}
use Rattle.ss_review.proofs.of_sessions.Covering.{spans_marked}
use Rattle.ss_review.proofs.pinned.agreeing.counted_spans.Goals as goal

pub loop-block-preserved : goal.loop-block-preserved
loop-block-preserved c = λ f told.
    let bs = c.args.blocks.now in
    let block = c.in-Some.block.now in
    let counts = c.in-Some.counts.now in
    let n = length c.loop-block.yielded in
    let turn = zip_turn bs c.args.counts.now c.loop-block.yielded c.into_iter-block-iterator.result c.loop-block.block-iterator c.next.new.self c.next.result (search rules) (search rules) c.loop-block.yielded_by (c.in-Some.block, c.in-Some.counts) c.in-Some.is c.next.ensures.steps in
    c.in_ok-add_span.ensures
    ∙ ap (λ ss. ss ++ spans_of (certificates (cond counts (block.now ∷ []) []))) (c.loop-block.invariant f told)
    ∙ sym (spans_marked f bs c.args.counts.now n block counts turn.0 (turn.2 block) (turn.3 counts) told)
    ∙ ap (λ k. spans_of (certificates (filter f (referred (take k bs))))) (sym (length-append c.loop-block.yielded ((c.in-Some.block, c.in-Some.counts) ∷ [])))
