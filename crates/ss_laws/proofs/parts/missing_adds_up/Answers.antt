use Rattle.std.proofs.Common.{sym, ap, ◌∙◌}
use Rattle.ss_review.specs.keep.Contents.{blocks}
use Rattle.ss_review.specs.keep.Notes.{notes}
use Rattle.ss_review.specs.pinned.Pinned.{blocks_by}
use Rattle.ss_laws.specs.parts.WholeParts.{missing_together}
use Rattle.ss_laws.proofs.of_parts.MissingTogether.{adds_up}
use Rattle.ss_laws.proofs.of_parts.PartTexts.{parts_by}
use Rattle.ss_laws.proofs.of_parts.WholeTogether.{missing_by_are, of_parts_are}
use Rattle.ss_laws.proofs.parts.missing_adds_up.Goals as goal

pub returns : goal.returns
returns c = λ known says log part parts are cs own given.
    missing_by_are known says log cs
    ∙ adds_up says (blocks_by known says (blocks (notes log))) part parts (parts_by known says part parts (blocks (notes log)) are) cs own given
    ∙ sym (ap missing_together (of_parts_are known says part parts log are.sessions own))
