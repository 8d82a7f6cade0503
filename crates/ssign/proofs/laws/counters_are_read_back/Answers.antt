use Rattle.ssign.proofs.ReadBack.{read_back}
use Rattle.ssign.proofs.laws.counters_are_read_back.Goals as goal

pub returns : goal.returns
returns c =
    read_back c.parts_have_their_counters.ensures c.counters_are_the_logs.ensures c.log_counters_are_in_range.ensures
    c.log_counters_add_nothing.ensures c.counters_given_back.ensures
