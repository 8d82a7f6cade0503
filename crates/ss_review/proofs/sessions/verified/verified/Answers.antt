use Rattle.std.proofs.Common.{◌∷◌, [], ◌++◌, get_or, sym, ap, ◌∙◌, subst}
use Rattle.std.proofs.lemmas.List.{map_more}
use Rattle.std.proofs.lemmas.List.Elements.{Contains-get_or}
use Rattle.ss_review.specs.questions.Questions.{IsAskableIn}
use Rattle.ss_review.specs.sessions.Verified.{answers, is_verified}
use Rattle.ss_review.proofs.sessions.verified.verified.Goals as goal

pub is_verified-requires-clause-askable : goal.is_verified-requires-clause-askable
is_verified-requires-clause-askable g c =
    let bs = c.args.blocks.now in
    let i = c.loop-block.block-index in
    let b = c.block-item.result in
    subst (IsAskableIn g.J.Judge.askable c.args.judge.now c.args.sessions.now) (sym c.block-item.is)
    (c.requires.askable (get_or bs i b) (Contains-get_or bs i b c.loop-block-test.true))

pub loop-block-init : goal.loop-block-init
loop-block-init g c = λ told.
    (c.in_ok-verified.ensures.items, c.new-found.ensures (is_verified (answers g.J.Judge.trusted g.J.Judge.valid c.args.judge.now) c.args.blocks.now))

pub loop-block-preserved : goal.loop-block-preserved
loop-block-preserved g c = λ told.
    let bs = c.args.blocks.now in
    let i = c.loop-block.block-index in
    let b = c.block-item.result in
    let valid = is_verified (answers g.J.Judge.trusted g.J.Judge.valid c.args.judge.now) bs in
    let before = c.loop-block.invariant told in
    let this = c.in_ok-is_verified.ensures.verified bs told before.1 ∙ ap valid c.block-item.is in (
      c.in_ok-push.ensures.items ∙ (λ j. before.0 j ++ this j ∷ []) ∙ sym (map_more valid bs i b c.loop-block-test.true),
      c.in_ok-is_verified.ensures.kept bs told before.1,
    )
