use Rattle.ss_block.specs.OrderLaws.{orders_are_exact}
use Rattle.ss_block.proofs.laws.orders.orders_are_exact.Goals as goal

pub returns : goal.returns
returns c = orders_are_exact
