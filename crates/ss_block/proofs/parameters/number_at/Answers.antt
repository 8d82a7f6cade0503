use Rattle.std.proofs.Common.{sym, ◌∙◌}
use Rattle.ss_block.proofs.Values.{in_range}
use Rattle.ss_block.proofs.parameters.number_at.Goals as goal

pub returns-clause-bound : goal.returns-clause-bound
returns-clause-bound c = in_range c.args.range.least c.args.range.most c.as_slice.result.now c.in_ok-ok_or.field-0 (sym c.number_of.ensures ∙ c.in_ok-ok_or.ensures.ok_part)
