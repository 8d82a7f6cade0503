use Rattle.ss_review.specs.keep.Notes.{notes}
use Rattle.ss_review.specs.keep.Contents.{blocks}
use Rattle.ss_review.specs.sessions.Sessions.{of_session}
use Rattle.ss_review.proofs.of_sessions.StatesTold.{in_state, state_told}
use Rattle.ss_review.proofs.laws.reports.states_are_theirs.Goals as goal

pub returns : goal.returns
returns c = λ says log s state.
    (state_told says (of_session (blocks (notes log)) s) state, in_state says (of_session (blocks (notes log)) s) state)
