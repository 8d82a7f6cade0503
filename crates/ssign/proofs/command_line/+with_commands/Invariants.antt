use Rattle.std.specs.Prelude.{length}
use Rattle.ssign.proofs.command_line.+with_commands.Given as goal

abbrev pub decreases-with_commands : goal.decreases-with_commands
decreases-with_commands l = length l.orders.now
