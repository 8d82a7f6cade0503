-- What a report by given payloads rests on: the answers to what is asked for it, and no others.
use Rattle.std.specs.Prelude.{◌≡◌, ℕ, List, Contains}
use Rattle.ss_review.specs.declared.questions.question.Question.{Question}
use Rattle.ss_review.specs.keep.Contents.{blocks, contents}
use Rattle.ss_review.specs.keep.Notes.{notes}
use Rattle.ss_review.specs.questions.Questions.{answer}
use Rattle.ss_review.specs.sessions.Verified.{Answers}
use Rattle.ss_review.specs.pinned.Pinned.{pinned_counted, pinned_questions, pinned_report}

-- Two schemes that answer alike all that is asked about a log under given payloads give it one report, and one list of
-- the GBC of its verified signature blocks.
abbrev pub AgreeingSchemesGiveOnePinnedReport : Type 0
AgreeingSchemesGiveOnePinnedReport = (says other : Answers) (ps : List (List ℕ)) (log : List (List ℕ))
    → ((q : Question) → Contains (pinned_questions ps (blocks (notes log))) q → answer says q ≡ answer other q)
    → (pinned_report says ps (contents (notes log)) ≡ pinned_report other ps (contents (notes log)))
    × (pinned_counted says ps (blocks (notes log)) ≡ pinned_counted other ps (blocks (notes log)))
