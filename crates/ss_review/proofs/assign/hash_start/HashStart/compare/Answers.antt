use Rattle.std.proofs.Common.{◌∙◌}
use Rattle.ss_review.proofs.of_assignment.HashStarts.{as_numbers}
use Rattle.ss_review.proofs.assign.hash_start.HashStart.compare.Goals as goal

pub returns : goal.returns
returns c =
    c.cmp.ensures ∙ as_numbers c.args.self.now c.args.other.now c.number.result c.number-2.result c.number.ensures c.number-2.ensures
