use Rattle.std.proofs.Common.{ap}
use Rattle.ss_block.specs.declared.block.BlockHeader.{BlockHeader}
use Rattle.ss_report.proofs.of_writing.Records.{four_fields}
use Rattle.ss_report.proofs.texts.inspection.put_certificate.Goals as goal

pub returns : goal.returns
returns g c =
    let head = rw (ap (λ (h : BlockHeader). h.group) c.header.ensures) at c.put_head.ensures in
    let total = rw (c.from.ensures, c.total.ensures) at c.put.ensures in
    let index = rw (c.from-2.ensures, c.index.ensures) at c.put-2.ensures in
    let length = rw (c.as_slice.ensures, c.fragment.ensures) at c.put-3.ensures in
    four_fields _ _ _ _ _ _ _ _ _ _ head total index length
