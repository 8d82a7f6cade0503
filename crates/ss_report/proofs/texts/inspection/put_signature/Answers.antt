use Rattle.std.proofs.Common.{ap}
use Rattle.ss_block.specs.declared.block.BlockHeader.{BlockHeader}
use Rattle.ss_report.proofs.of_writing.Records.{four_fields}
use Rattle.ss_report.proofs.texts.inspection.put_signature.Goals as goal

pub returns : goal.returns
returns g c =
    let head = rw (ap (λ (h : BlockHeader). h.group) c.header.ensures) at c.put_head.ensures in
    let gbc = rw c.gbc.ensures at c.put.ensures in
    let first = rw c.first.ensures at c.put-2.ensures in
    let count = rw (c.as_slice.ensures, c.hashes.ensures) at c.put-3.ensures in
    four_fields _ _ _ _ _ _ _ _ _ _ head gbc first count
