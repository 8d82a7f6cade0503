use Rattle.std.specs.Prelude.{length}
use Rattle.ssign.proofs.command_line.+with_options.Given as goal

abbrev pub decreases-with_options : goal.decreases-with_options
decreases-with_options l = length l.rows.now
