use Rattle.std.proofs.Common.{List, ℕ, map, Bor, sym, subst}
use Rattle.ss_review.specs.keep.BlockMessage.{BlockMessage}
use Rattle.ss_review.specs.questions.Questions.{question_about, AreAskable}
use Rattle.ss_review.specs.declared.questions.question.Question.TheVariants as question
use Rattle.ss_review.proofs.of_questions.AskableBlocks.{askable_trust, askable_rest}
use Rattle.ss_review.proofs.sessions.accepting.judged.Goals as goal

pub trusts-requires-clause-askable : goal.trusts-requires-clause-askable
trusts-requires-clause-askable g c =
    subst (λ (text : List ℕ). g.J.Judge.askable c.args.judge.now (question.Trust text)) (sym c.as_slice.ensures)
    (askable_trust g.J.Judge.askable c.args.judge.now c.args.payload (map (question_about c.args.payload) (map (λ (m : Bor BlockMessage). m.now) c.args.blocks.now)) c.requires.askable)

pub is_accepted-requires-clause-askable : goal.is_accepted-requires-clause-askable
is_accepted-requires-clause-askable g c =
    let bs = map (λ (m : Bor BlockMessage). m.now) c.args.blocks.now in
    subst (λ (text : List ℕ). AreAskable g.J.Judge.askable c.args.judge.now (map (question_about text) bs)) (sym c.as_slice-2.ensures)
    (askable_rest g.J.Judge.askable c.args.judge.now (question.Trust c.args.payload) (map (question_about c.args.payload) bs) c.requires.askable)
