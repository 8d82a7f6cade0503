use Rattle.std.proofs.Common.{codes}
use Rattle.ss_report.specs.records.Record.{field, Number}
use Rattle.ss_report.specs.lines.Records.{order_fields}
use Rattle.ss_report.proofs.of_writing.Records.{three_fields}
use Rattle.ss_report.proofs.lines.record.put_order.Goals as goal

pub returns : goal.returns
unfolding order_fields
returns g c =
    three_fields c.args.notation _ _ _ _ (field (codes "count") (Number c.args.order.count)) (field (codes "number") (Number c.args.order.number)) (field (codes "place") (Number c.args.order.place)) c.put.ensures c.put-2.ensures (rw c.from.ensures at c.put-3.ensures)
