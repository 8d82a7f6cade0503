use Rattle.ss_laws.proofs.of_nights.NightParts.{blocks_told}
use Rattle.ss_laws.proofs.nights.blocks_of_nights_are_told.Goals as goal

pub returns : goal.returns
returns c =
    blocks_told c.every_block_is_told.ensures c.pinned_reports_are_of_logs.ensures c.nights_leave_out_the_rest.ensures
