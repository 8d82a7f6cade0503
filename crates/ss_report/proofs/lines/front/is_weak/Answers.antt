use Rattle.std.proofs.Common.{refl, sym}
use Rattle.ss_report.proofs.lines.front.is_weak.Goals as goal

pub returns-then-is_by_sha1 : goal.returns-then-is_by_sha1
returns-then-is_by_sha1 c = λ up. rw (sym c.is_by_sha1.ensures, c.if-is_by_sha1.true) (c.is_verified.ensures up)

pub returns-else-is_by_sha1 : goal.returns-else-is_by_sha1
returns-else-is_by_sha1 c = λ up. rw (sym c.is_by_sha1.ensures, c.if-is_by_sha1.false) refl
