use Rattle.std.proofs.Common.{sym, subst}
use Rattle.ss_review.specs.counted.KeptLaws.{NothingIsMissing}
use Rattle.ss_review.specs.keep.Contents.{blocks}
use Rattle.ss_review.specs.keep.Notes.{notes}
use Rattle.ss_review.specs.pinned.Pinned.{blocks_by}
use Rattle.ss_laws.proofs.of_parts.PartTexts.{parts_by}
use Rattle.ss_laws.proofs.of_parts.WholeTogether.{missing_by_are, missing_of_part_are, nothing_there, nothing_back}
use Rattle.ss_laws.proofs.parts.nothing_missing_where_of_parts.Goals as goal

pub returns : goal.returns
returns c = λ known says log part parts are cs own given only.
    (let bs = blocks_by known says (blocks (notes log)) in
    let by = parts_by known says part parts (blocks (notes log)) are in (
      λ n k low.
          subst NothingIsMissing (sym (missing_of_part_are known says part k log are.sessions (own k)))
          (nothing_there says bs part parts by cs own given only (subst NothingIsMissing (missing_by_are known says log cs) n) k low),
      λ n.
          subst NothingIsMissing (sym (missing_by_are known says log cs))
          (nothing_back says bs part parts by cs own given (λ k low. subst NothingIsMissing (missing_of_part_are known says part k log are.sessions (own k)) (n k low))),
    ))
