use Rattle.std.proofs.Common.{refl}
use Rattle.ss_report.proofs.lines.front.walk_sha1.Goals as goal

pub returns-then-asked : goal.returns-then-asked
returns-then-asked g c = λ up. rw c.if-asked.true (rw (c.first_weak.ensures up) at c.walk_weak.ensures)

pub returns-else-asked : goal.returns-else-asked
returns-else-asked g c = λ up. rw c.if-asked.false refl
