use Rattle.std.proofs.Common.{map, sym, ap, ◌∙◌}
use Rattle.ss_review.specs.questions.Questions.{question_about}
use Rattle.ss_review.specs.declared.questions.question.Question.TheVariants as question
use Rattle.ss_review.specs.sessions.Sectioned.{referred}
use Rattle.ss_review.specs.sessions.Verified.{answers}
use Rattle.ss_review.specs.pinned.Finding.{may_claim}
use Rattle.ss_review.proofs.of_pinned.Finding.{no_claim, distrusted}
use Rattle.ss_review.proofs.of_questions.AskableBlocks.{askable_rest}
use Rattle.ss_review.proofs.pinned.claiming.claimant.Goals as goal

pub returns-then-not-branch : goal.returns-then-not-branch
returns-then-not-branch g c =
    let own = referred c.args.blocks.now in
    no_claim (answers g.J.Judge.trusted g.J.Judge.valid c.args.judge.now) c.args.payload.now own
    (ap (λ t. may_claim t own) (sym c.as_slice.ensures) ∙ sym c.in_ok-may_claim.ensures ∙ c.if-not-branch.true)

pub spoken_for-requires-clause-askable : goal.spoken_for-requires-clause-askable
spoken_for-requires-clause-askable g c =
    let own = referred c.args.blocks.now in
    let p = c.args.payload.now in
    askable_rest g.J.Judge.askable c.args.judge.now (question.Trust p) (map (question_about p) own)
    (c.requires.askable (ap (λ t. may_claim t own) (sym c.as_slice.ensures) ∙ sym c.in_ok-may_claim.ensures ∙ c.if-not-branch.false))

pub returns-else-trusts : goal.returns-else-trusts
returns-else-trusts g c =
    let says = answers g.J.Judge.trusted g.J.Judge.valid c.args.judge.now in
    distrusted says c.args.payload.now (referred c.args.blocks.now)
    (ap says.trusted (sym c.as_slice-2.ensures) ∙ sym c.trusts.ensures ∙ c.if-trusts.false)
