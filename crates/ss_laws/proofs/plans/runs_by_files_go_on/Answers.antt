use Rattle.ss_laws.proofs.of_plans.FileStarts.{runs_by_files_go_on}
use Rattle.ss_laws.proofs.plans.runs_by_files_go_on.Goals as goal

pub returns : goal.returns
returns c =
    runs_by_files_go_on c.counters_stay_in_range.ensures c.ahead_is_read_among_others.ensures c.runs_go_on.ensures
