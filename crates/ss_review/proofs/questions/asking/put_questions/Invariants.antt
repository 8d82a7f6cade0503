-- The questions so far.
use Rattle.std.proofs.Common.{◌≡◌, ◌++◌, ◌∷◌, map, take}
use Rattle.ss_review.specs.declared.questions.question.Question.TheVariants as question
use Rattle.ss_review.specs.questions.Questions.{question_under}
use Rattle.ss_review.proofs.questions.asking.put_questions.Given as goal

abbrev pub invariant-loop-block : goal.invariant-loop-block
invariant-loop-block l =
    l.questions.items ≡ l.fn.questions.items ++ (question.Trust l.session.payload ∷ map (question_under l.session.payload) (take l.block-index l.session.blocks))
