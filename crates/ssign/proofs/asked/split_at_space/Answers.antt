use Rattle.ssign.proofs.Spaces.{split_parts_of, split_shorter}
use Rattle.ssign.proofs.asked.split_at_space.Goals as goal

pub returns-clause-parts : goal.returns-clause-parts
returns-clause-parts c = split_parts_of c.args.text.now c.split_once.result c.split_once.ensures.cases

pub returns-clause-shorter : goal.returns-clause-shorter
returns-clause-shorter c = split_shorter c.args.text.now c.split_once.result c.split_once.ensures.cases
