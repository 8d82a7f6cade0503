use Rattle.std.proofs.Common.{refl}
use Rattle.ss_report.proofs.lines.walk.walk_side.Goals as goal

pub returns-in-Some : goal.returns-in-Some
returns-in-Some g c = rw c.in-Some.is (rw c.as_slice-groups.ensures at c.walk_groups_outside.ensures)

pub returns-in-None : goal.returns-in-None
returns-in-None g c = rw c.in-None.is refl
