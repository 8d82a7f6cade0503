use Rattle.std.proofs.Common.{rules}
use Rattle.ss_between.specs.Between.{shortfall_left}
use Rattle.ss_report.proofs.lines.idle.is_idle.Goals as goal

pub returns-then-has_session : goal.returns-then-has_session
unfolding shortfall_left
returns-then-has_session c = search rules

pub returns-else-has_session : goal.returns-else-has_session
unfolding shortfall_left
returns-else-has_session c = search rules
