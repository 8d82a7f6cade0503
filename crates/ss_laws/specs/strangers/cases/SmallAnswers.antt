-- Two schemes that answer alike what is asked about the small log under the originators' payload, and not all else.
use Rattle.std.specs.Prelude.{◌≡◌, ◌&&◌, true, false, [], ◌∷◌, Contains}
use Rattle.std.specs.Str.{bytes_eq}
use Rattle.ss_review.specs.declared.questions.question.Question.{Question}
use Rattle.ss_review.specs.declared.questions.question.Question.TheVariants as question
use Rattle.ss_review.specs.deliveries.SmallChains.{mark, accepting}
use Rattle.ss_review.specs.keep.Contents.{blocks, contents}
use Rattle.ss_review.specs.keep.Notes.{notes}
use Rattle.ss_review.specs.pinned.Pinned.{pinned_questions, pinned_report}
use Rattle.ss_review.specs.questions.Questions.{answer}
use Rattle.ss_review.specs.sessions.Verified.{Answers}
use Rattle.ss_laws.specs.strangers.cases.SmallAttack.{own_payload, given}
use Rattle.ss_laws.specs.strangers.cases.SmallUnforged.{mixed, mixed_report}

-- it trusts no other payload, and accepts nothing under another one
abbrev pub strict : Answers
strict = record {
  trusted = λ payload. bytes_eq payload own_payload;
  valid = λ payload octets signature. bytes_eq payload own_payload && bytes_eq signature mark;
}

pub record SmallAnswersAreThese : Type 0 where
  pub asked : Contains (pinned_questions given (blocks (notes mixed.log))) (question.Trust own_payload)
  pub agree : (q : Question) → Contains (pinned_questions given (blocks (notes mixed.log))) q → answer accepting q ≡ answer strict q
  -- they differ on a payload that isn't asked about
  pub accepted : accepting.trusted (85 ∷ []) ≡ true
  pub refused : strict.trusted (85 ∷ []) ≡ false
  pub report : pinned_report strict given (contents (notes mixed.log)) ≡ mixed_report
