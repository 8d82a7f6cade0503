use Rattle.ss_laws.proofs.of_ahead.cases.SmallPending.{small_chain}
use Rattle.ss_laws.proofs.ahead.cases.small_chain_is_this.Goals as goal

pub returns : goal.returns
returns c =
    small_chain c.signatures_are_read.ensures c.premises_ahead_are_met.ensures c.pending_messages_are_in_no_block.ensures c.pending_messages_are_missing.ensures
