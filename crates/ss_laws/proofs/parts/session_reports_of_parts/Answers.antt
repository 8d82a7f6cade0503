use Rattle.ss_review.specs.sessions.Sessions.{sessions}
use Rattle.ss_laws.specs.parts.Parts.{blocks_of}
use Rattle.ss_octets.proofs.Members.{has_from_contains}
use Rattle.ss_laws.proofs.of_parts.PartBlocks.{is_own}
use Rattle.ss_laws.proofs.of_parts.PartSessions.{same_session_report}
use Rattle.ss_laws.proofs.parts.session_reports_of_parts.Goals as goal

pub returns : goal.returns
returns c = λ says log part whole stay k s h.
    same_session_report part log k whole says stay s (is_own part log.blocks k s (has_from_contains (sessions (blocks_of part k log.blocks)) s h))
