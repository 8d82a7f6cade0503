-- What holds of questions of which each payload is written once.
use Rattle.std.specs.Prelude.{◌≡◌, ◌==◌, ℕ, List, [], ◌∷◌, ◌++◌, Option, Some, None, if◌then◌else◌, length, map}
use Rattle.std.specs.Prelude.{slice_get}
use Rattle.std.specs.List.{IsDistinct}
use Rattle.std.specs.Str.{bytes_eq}
use Rattle.ss_review.specs.keep.BlockMessage.{BlockMessage}
use Rattle.ss_review.specs.declared.questions.question.Question.{Question}
use Rattle.ss_review.specs.declared.questions.question.Question.TheVariants as question
use Rattle.ss_review.specs.questions.Questions.{asked_sessions, question_under, questions}
use Rattle.ss_report.specs.texts.Asked.{Asking, askings, payload_of, question_of}
use Rattle.ss_report.specs.texts.Payloads.{each_once}
use Rattle.ss_report.specs.texts.QuestionsOnce.{OnceLine, PayloadLine, TrustLine, YesLine, once_lines}

-- a question about a payload, where there is one, and others
abbrev pub asked_about : Option (List ℕ) → (List ℕ → Question) → List Question → List Question
asked_about (Some payload) ask qs = ask payload ∷ qs
asked_about None ask qs = []

-- The questions that a reader makes of lines, one after the other. It has read these payloads, and takes a payload
-- under the next index alone. At an index that no line before gave it stops.
abbrev pub questions_read : (read : List (List ℕ)) → List OnceLine → List Question
questions_read read [] = []
questions_read read (PayloadLine index payload ∷ ls) =
    if index == length read then questions_read (read ++ payload ∷ []) ls else []
questions_read read (TrustLine index s ∷ ls) =
    asked_about (slice_get read index) question.Trust (questions_read read ls)
questions_read read (YesLine index s b ∷ ls) =
    asked_about (slice_get read index) (λ payload. question_under payload b) (questions_read read ls)

-- the payloads that lines write
abbrev pub payloads_written : List OnceLine → List (List ℕ)
payloads_written [] = []
payloads_written (PayloadLine index payload ∷ ls) = payload ∷ payloads_written ls
payloads_written (TrustLine index s ∷ ls) = payloads_written ls
payloads_written (YesLine index s b ∷ ls) = payloads_written ls

-- whoever reads the lines has the same questions in the same order, and each payload is written once
pub record AsksTheSame (xs : List Asking) (qs : List Question) : Type 0 where
  pub read : questions_read [] (once_lines xs) ≡ qs
  pub written : payloads_written (once_lines xs) ≡ each_once (map payload_of xs)
  pub once : IsDistinct bytes_eq (payloads_written (once_lines xs))

-- the same of all that is asked, and of what a review of these blocks asks
pub record QuestionsOnceAskTheSame : Type 0 where
  pub asked : (xs : List Asking) → AsksTheSame xs (map question_of xs)
  pub of_blocks : (bs : List BlockMessage) → AsksTheSame (askings (asked_sessions bs)) (questions bs)
