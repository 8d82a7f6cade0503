use Rattle.std.proofs.Common.{◌∷◌, [], ◌++◌, get_or, map, take, Bor, sym, ap, ◌∙◌, subst}
use Rattle.std.proofs.lemmas.List.{map_more, map-append}
use Rattle.ss_review.specs.keep.BlockMessage.{BlockMessage}
use Rattle.ss_review.specs.questions.Questions.{question_about}
use Rattle.ss_review.specs.sessions.Sectioned.{referred}
use Rattle.ss_review.specs.sessions.Verified.{answers}
use Rattle.ss_review.specs.pinned.Pinned.{speaks_for}
use Rattle.ss_review.proofs.of_questions.AskableBlocks.{askable_at}
use Rattle.ss_review.proofs.pinned.claiming.speaking.Goals as goal

pub speaks_once-requires-clause-askable : goal.speaks_once-requires-clause-askable
speaks_once-requires-clause-askable g c =
    subst (λ (m : Bor BlockMessage). g.J.Judge.askable c.args.judge.now (question_about c.args.payload.now m.now)) (sym c.message-item.is)
    (askable_at g.J.Judge.askable c.args.judge.now c.args.payload.now c.args.blocks.now c.loop-message.message-index c.message-item.result c.loop-message-test.true c.requires.askable)

pub loop-message-preserved : goal.loop-message-preserved
loop-message-preserved g c = λ had.
    let bs = c.args.blocks.now in
    let i = c.loop-message.message-index in
    let m = c.message-item.result in
    let speaks = speaks_for (answers g.J.Judge.trusted g.J.Judge.valid c.args.judge.now) c.args.payload.now in
    let before = c.loop-message.invariant had in
    let this = c.in_ok-speaks_once.ensures.speaks before.1 ∙ ap (λ (x : Bor BlockMessage). speaks x.now) c.message-item.is in
    let more = ap (map speaks) (map_more (λ (x : Bor BlockMessage). x.now) bs i m c.loop-message-test.true)
    ∙ map-append speaks (referred (take i bs)) ((get_or bs i m).now ∷ [])
    in (
      c.in_ok-push.ensures.items ∙ (λ j. before.0 j ++ this j ∷ []) ∙ sym more,
      c.in_ok-speaks_once.ensures.kept before.1,
    )
