use Rattle.std.proofs.Common.{arith}
use Rattle.std.proofs.lemmas.Grind.{common_steps}
use Rattle.std.proofs.lemmas.List.FromFn.{map-range_with_len_more}
use Rattle.ss_origin.specs.Slots.{slot_from}
use Rattle.ss_origin.proofs.slots.Slots.from_numbers.Goals as goal

pub loop-spri-preserved : goal.loop-spri-preserved
loop-spri-preserved c =
    let next = map-range_with_len_more (slot_from c.args.numbers.now) 0 c.loop-spri.spri c.loop-spri.spri (omega arith) in
    grind (arith, common_steps)
