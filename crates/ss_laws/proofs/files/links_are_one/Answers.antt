use Rattle.ss_laws.proofs.of_files.OneLink.{links_are_one}
use Rattle.ss_laws.proofs.files.links_are_one.Goals as goal

pub returns : goal.returns
returns c = links_are_one c.one_reading.ensures c.reports_list_what_is_announced.ensures c.pinned_reports_are_of_logs.ensures
