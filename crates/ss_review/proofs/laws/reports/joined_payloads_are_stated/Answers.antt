use Rattle.ss_review.specs.keep.Notes.{notes}
use Rattle.ss_review.specs.keep.Contents.{blocks}
use Rattle.ss_review.specs.sessions.Sessions.{of_session}
use Rattle.ss_review.proofs.of_sessions.StatesTold.{joined_under, payload_told}
use Rattle.ss_review.proofs.laws.reports.joined_payloads_are_stated.Goals as goal

pub returns : goal.returns
returns c = λ says log s text.
    (payload_told says (of_session (blocks (notes log)) s) text, joined_under says (of_session (blocks (notes log)) s) text)
