use Rattle.ss_laws.proofs.of_nights.NightParts.{leave_out_the_rest}
use Rattle.ss_laws.proofs.nights.nights_leave_out_the_rest.Goals as goal

pub returns : goal.returns
returns c = leave_out_the_rest c.pinned_reports_are_of_logs.ensures
