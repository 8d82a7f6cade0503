use Rattle.ss_report.proofs.of_reports.LogCounters as laws
use Rattle.ss_report.proofs.laws.counters_are_the_logs.Goals as goal

pub returns : goal.returns
returns c = laws.counters_are_the_logs
