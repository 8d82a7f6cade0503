use Rattle.std.proofs.Common.{length}
use Rattle.ss_origin.proofs.ranges.+rises.Given as goal

abbrev pub decreases-rises : goal.decreases-rises
decreases-rises l = length l.numbers.now
