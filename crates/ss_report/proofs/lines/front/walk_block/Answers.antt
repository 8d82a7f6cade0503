use Rattle.ss_report.proofs.lines.front.walk_block.Goals as goal

pub returns : goal.returns
returns g c = λ up. rw (c.is_verified-is_verified.ensures up) at c.visit.ensures
