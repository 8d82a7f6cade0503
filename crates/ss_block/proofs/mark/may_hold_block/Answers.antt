use Rattle.std.proofs.Common.{◌≡◌, true}
use Rattle.ss_block.proofs.Marks.{search_tells, lacks_none}
use Rattle.ss_block.proofs.mark.may_hold_block.Goals as goal

pub returns-clause-mark : goal.returns-clause-mark
returns-clause-mark c = search_tells c.args.bytes.now c.find.result c.is_some.result c.is_some.ensures c.find.ensures

pub returns-clause-no_block : goal.returns-clause-no_block
returns-clause-no_block c = λ lacks.
    lacks_none c.blocks_are_marked.ensures c.args.bytes.now
    (λ holds. let told : c.is_some.result ≡ true = (search_tells c.args.bytes.now c.find.result c.is_some.result c.is_some.ensures c.find.ensures).1 holds in absurd cc)
