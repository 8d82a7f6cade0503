use Rattle.std.proofs.Common.{refl}
use Rattle.ss_report.proofs.lines.front.walk_blocks.Goals as goal

pub returns-then-asked : goal.returns-then-asked
returns-then-asked g c = λ up. rw c.if-asked.true (c.walk_each_block.ensures up)

pub returns-else-asked : goal.returns-else-asked
returns-else-asked g c = λ up. rw c.if-asked.false refl
