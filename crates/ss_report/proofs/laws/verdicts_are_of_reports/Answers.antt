use Rattle.ss_report.proofs.of_reports.SettledReports as laws
use Rattle.ss_report.proofs.laws.verdicts_are_of_reports.Goals as goal

pub returns : goal.returns
returns c = laws.verdicts_are_of_reports
