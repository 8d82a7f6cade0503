use Rattle.ss_origin.proofs.Listed.{lists_what_is_due, lists_the_first_due}
use Rattle.ss_origin.proofs.laws.asked.questions_are_blocks.Goals as goal

pub returns-clause-due : goal.returns-clause-due
returns-clause-due g c = lists_what_is_due g.J.Seals.asked

pub returns-clause-first : goal.returns-clause-first
returns-clause-first g c = lists_the_first_due g.J.Seals.asked
