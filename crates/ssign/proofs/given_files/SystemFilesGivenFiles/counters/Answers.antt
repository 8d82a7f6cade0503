use Rattle.ssign.proofs.FileCounters.{are_in_range}
use Rattle.ssign.proofs.given_files.SystemFilesGivenFiles.counters.Goals as goal

pub returns-clause-in_range : goal.returns-clause-in_range
returns-clause-in_range g c = are_in_range _ c.open_counters.ensures.ok
