use Rattle.std.proofs.Common.{ap, ◌∙◌}
use Rattle.std.specs.Prelude.{max}
use Rattle.ss_review.proofs.of_counters.KeptNumbers.{blocks_keep, group_keeps}
use Rattle.ss_review.proofs.counted.group_tails.add_number.Goals as goal

pub returns-in-Blocks : goal.returns-in-Blocks
returns-in-Blocks c = λ own k. blocks_keep c.args.numbers.now own c.args.counter.now c.in-Blocks.is k

pub returns-in_ok-insert-in-Messages : goal.returns-in_ok-insert-in-Messages
returns-in_ok-insert-in-Messages c = λ own k.
    group_keeps c.args.numbers.now c.insert.new.self own c.args.counter.now c.in-Messages.group c.max-greatest.result c.in-Messages.is c.in_ok-insert-in-Messages.ensures.updates
    (c.max-greatest.ensures ∙ ap (λ n. max n c.args.counter.now.next) c.number_of.ensures) k
