use Rattle.std.proofs.Common.{refl}
use Rattle.ss_report.specs.records.Json.{escaped}
use Rattle.ss_report.proofs.of_writing.Writings.{writes_more}
use Rattle.ss_report.proofs.records.escaped.write_each.Goals as goal

pub loop-octet-preserved : goal.loop-octet-preserved
loop-octet-preserved g c =
    writes_more escaped c.args.octets.now c.loop-octet.octet-index 0 _ _ _ _ c.loop-octet-test.true c.loop-octet.invariant c.write_octet.ensures refl
