use Rattle.std.proofs.Common.{sym, ap, ◌∙◌}
use Rattle.ss_review.specs.keep.Contents.{blocks}
use Rattle.ss_review.specs.keep.Notes.{notes}
use Rattle.ss_review.specs.pinned.Pinned.{blocks_by}
use Rattle.ss_laws.specs.parts.PartCounters.{by_session}
use Rattle.ss_laws.proofs.of_parts.CountersTogether.{together, counters_by_are, parts_are}
use Rattle.ss_laws.proofs.of_parts.PartTexts.{parts_by}
use Rattle.ss_laws.proofs.parts.counters_add_up.Goals as goal

pub returns : goal.returns
returns c = λ known says log part parts are.
    counters_by_are known says log
    ∙ together says (blocks_by known says (blocks (notes log))) part parts (parts_by known says part parts (blocks (notes log)) are)
    ∙ sym (ap by_session (parts_are known says part parts log are.sessions))
