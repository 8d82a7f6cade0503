use Rattle.ss_laws.proofs.of_ahead.RisingGbc.{gbc_rises}
use Rattle.ss_laws.proofs.ahead.gbc_rises.Goals as goal

pub returns : goal.returns
returns c = gbc_rises c.blocks_are_counted.ensures
