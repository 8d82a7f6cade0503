use Rattle.ss_review.specs.keep.Contents.{blocks}
use Rattle.ss_review.specs.keep.Notes.{notes}
use Rattle.ss_review.specs.sessions.Sessions.{sessions}
use Rattle.ss_laws.specs.parts.Parts.{blocks_of}
use Rattle.ss_octets.proofs.Members.{has_from_contains}
use Rattle.ss_laws.proofs.of_parts.CountersTogether.{session_counters_alike}
use Rattle.ss_laws.proofs.parts.session_counters_of_parts.Goals as goal

pub returns : goal.returns
returns c = λ known says log part whole k s h.
    session_counters_alike known says part k log whole s (has_from_contains (sessions (blocks_of part k (blocks (notes log)))) s h)
