use Rattle.std.proofs.Common.{◌∙◌}
use Rattle.ss_answers.proofs.FirstOctets.{first_numbers_decide}
use Rattle.ss_answers.proofs.key.compare_octets.Goals as goal

pub returns-then-my_number-other_number : goal.returns-then-my_number-other_number
returns-then-my_number-other_number c =
    c.cmp.ensures
    ∙ first_numbers_decide c.args.mine.now c.args.other.now _ _ c.in-Some.ensures c.in-Some-first_number.ensures c.if-my_number-other_number.true
