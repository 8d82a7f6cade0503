use Rattle.std.proofs.Common.{◌≡◌, map, sym, ap, ◌∙◌, subst}
use Rattle.ss_review.specs.sessions.Verified.{answers, is_verified}
use Rattle.ss_review.specs.questions.Questions.{questions, AreAskable}
use Rattle.ss_review.proofs.of_questions.AskableBlocks.{askable_in}
use Rattle.ss_review.specs.announced.Numbered.{session_with_joined, sessions_joined}
use Rattle.ss_review.proofs.of_sessions.Verifying.{sessions_rise}
use Rattle.ss_review.proofs.review.review.Goals as goal

pub joined_sessions-requires-clause-askable : goal.joined_sessions-requires-clause-askable
joined_sessions-requires-clause-askable g c =
    subst (λ bs. AreAskable g.J.Judge.askable c.args.judge (questions bs)) (sym c.as_slice-blocks.ensures.value) c.requires.askable

pub verified-requires-clause-askable : goal.verified-requires-clause-askable
verified-requires-clause-askable g c =
    let says = answers g.J.Judge.trusted g.J.Judge.valid c.args.judge in
    let told = c.in_ok-sessions.ensures ∙ ap (sessions_joined says) c.as_slice-blocks.ensures.value in
    askable_in g.J.Judge.askable c.args.judge says c.as_slice-blocks.result.now c.as_slice.result.now
    (ap (map session_with_joined) c.as_slice.ensures.value ∙ told ∙ ap (sessions_joined says) (sym c.as_slice-blocks.ensures.value))
    (subst (λ bs. AreAskable g.J.Judge.askable c.args.judge (questions bs)) (sym c.as_slice-blocks.ensures.value) c.requires.askable)

pub reported-requires : goal.reported-requires
reported-requires g c =
    sessions_rise (answers g.J.Judge.trusted g.J.Judge.valid c.args.judge) c.args.held.blocks.items c.as_slice-2.result.now
    (ap (map session_with_joined) c.as_slice-2.ensures.value ∙ c.in_ok-sessions.ensures ∙ ap (sessions_joined (answers g.J.Judge.trusted g.J.Judge.valid c.args.judge)) c.as_slice-blocks.ensures.value)

pub returns : goal.returns
returns g c = λ log has blocks spoilt count.
    let says = answers g.J.Judge.trusted g.J.Judge.valid c.args.judge in
    let bs = c.args.held.blocks.items in
    let told = c.in_ok-sessions.ensures ∙ ap (sessions_joined says) c.as_slice-blocks.ensures.value in
    let marks : c.in_ok-verified.verified.items ≡ map (is_verified says bs) bs
    = c.in_ok-verified.ensures (ap (map session_with_joined) c.as_slice.ensures.value ∙ told ∙ ap (sessions_joined says) (sym c.as_slice-blocks.ensures.value))
    ∙ (λ i. map (is_verified says (c.as_slice-blocks.ensures.value i)) (c.as_slice-blocks.ensures.value i)) in
    c.reported.ensures says log has blocks spoilt count
    (ap (map session_with_joined) c.as_slice-2.ensures.value ∙ told ∙ ap (sessions_joined says) blocks)
    (marks ∙ (λ i. map (is_verified says (blocks i)) (blocks i)))
