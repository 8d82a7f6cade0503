use Rattle.ss_review.specs.sessions.Sessions.{sessions}
use Rattle.ss_laws.specs.parts.Parts.{blocks_of}
use Rattle.ss_octets.proofs.Members.{has_from_contains}
use Rattle.ss_laws.proofs.of_parts.PartAssigned.{same_assigned}
use Rattle.ss_laws.proofs.of_parts.PartBlocks.{is_own}
use Rattle.ss_laws.proofs.parts.numbers_of_parts.Goals as goal

pub returns : goal.returns
returns c = λ says log part whole stay k j h.
    same_assigned part log k whole says stay j (is_own part log.blocks k j.session (has_from_contains (sessions (blocks_of part k log.blocks)) j.session h))
