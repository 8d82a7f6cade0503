use Rattle.std.proofs.Common.{[], ◌∷◌, ◌++◌, take, map, filter, Bor, sym, ap, ◌∙◌, subst}
use Rattle.std.specs.List.{cons_option}
use Rattle.std.proofs.lemmas.List.{append-nil}
use Rattle.ss_review.specs.keep.BlockMessage.{BlockMessage}
use Rattle.ss_review.specs.sessions.Payloads.{certificates}
use Rattle.ss_review.specs.sessions.Verified.{answers, is_valid}
use Rattle.ss_review.specs.sessions.Covering.{spans_of}
use Rattle.ss_review.specs.questions.Questions.{question_about}
use Rattle.ss_review.proofs.of_sessions.Covering.{accepted_more}
use Rattle.ss_review.proofs.of_questions.AskableBlocks.{askable_at}
use Rattle.ss_review.proofs.sessions.accepting.accepted_spans.Goals as goal
use Rattle.ss_review.proofs.sessions.accepting.accepted_spans.Goals.{in-Some+in_ok-push-in-Some, in-None}

pub loop-message-init : goal.loop-message-init
loop-message-init g c =
    (c.new-spans.ensures.items, c.new-found.ensures (is_valid (answers g.J.Judge.trusted g.J.Judge.valid c.args.judge.now) c.args.payload.now))

pub accepted_span-requires-clause-askable : goal.accepted_span-requires-clause-askable
accepted_span-requires-clause-askable g c =
    subst (λ (m : Bor BlockMessage). g.J.Judge.askable c.args.judge.now (question_about c.args.payload.now m.now)) (sym c.message-item.is)
    (askable_at g.J.Judge.askable c.args.judge.now c.args.payload.now c.args.blocks.now c.loop-message.message-index c.message-item.result c.loop-message-test.true c.requires.askable)

pub loop-message-preserved : goal.loop-message-preserved
loop-message-preserved g c =
    let says = answers g.J.Judge.trusted g.J.Judge.valid c.args.judge.now in
    let payload = c.args.payload.now in
    let bs = c.args.blocks.now in
    let i = c.loop-message.message-index in
    let had = c.loop-message.invariant in
    let before = spans_of (certificates (filter (is_valid says payload) (map (λ (m : Bor BlockMessage). m.now) (take i bs)))) in
    let more = accepted_more says payload bs i c.message-item.result c.loop-message-test.true c.message-item.is in
    let span = c.in_ok-span.ensures.span had.1 in
    let found = c.in_ok-span.ensures.kept had.1 in
    elim c.match-branch-2.branch [
      | in-Some+in_ok-push-in-Some w ↦ (
        (λ j. (w.spans-is j).items)
            ∙ w.in_ok-push-in-Some.ensures.items
            ∙ ap (λ spans. spans ++ w.in-Some.span ∷ []) had.0
            ∙ ap (λ o. before ++ cons_option o []) (sym w.in-Some.is ∙ span)
            ∙ sym more,
        found,
      )
      | in-None w ↦ (
        (λ j. (w.spans-is j).items)
            ∙ had.0
            ∙ sym (append-nil before)
            ∙ ap (λ o. before ++ cons_option o []) (sym w.in-None.is ∙ span)
            ∙ sym more,
        found,
      )
    ]
