-- The questions so far.
use Rattle.std.proofs.Common.{◌≡◌, take}
use Rattle.std.specs.Prelude.{flat_map}
use Rattle.ss_review.specs.questions.Questions.{session_questions}
use Rattle.ss_review.proofs.questions.asking.questions_of.Given as goal

abbrev pub invariant-loop-session : goal.invariant-loop-session
invariant-loop-session l = l.questions.items ≡ flat_map session_questions (take l.session-index l.sessions)
