use Rattle.std.proofs.Common.{sym, ◌∙◌}
use Rattle.ss_report.proofs.of_strangers.RaisedReaches.{unverified_adds_none}
use Rattle.ss_report.proofs.strangers.reach.add_verified.Goals as goal

pub returns-then-is_verified : goal.returns-then-is_verified
returns-then-is_verified c = λ bs up has.
    c.add_block.ensures c.args.refused.now bs (sym (c.is_verified.ensures up) ∙ c.if-is_verified.true) has

pub returns-else-is_verified : goal.returns-else-is_verified
returns-else-is_verified c = λ bs up has.
    unverified_adds_none c.args.refused.now bs c.args.block.now c.args.reaches.now has (sym (c.is_verified.ensures up) ∙ c.if-is_verified.false)
