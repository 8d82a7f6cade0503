use Rattle.std.proofs.Common.{◌≡◌, ◌<◌, true, List, [], ◌∷◌, length, refl, arith}
use Rattle.ss_origin.specs.declared.counters.NextNumber.{NextNumber}
use Rattle.ss_origin.specs.Counting.{rises}
use Rattle.ss_origin.proofs.ranges.+rises.Goals as goal

short_rises : (ns : List NextNumber) → length ns < 2 → true ≡ rises ns
short_rises [] h = refl
short_rises (n ∷ []) h = refl
short_rises (n ∷ m ∷ ns) h = absurd (omega arith)

pub returns-in-len1 : goal.returns-in-len1
returns-in-len1 t c = short_rises c.args.numbers.now (omega arith)
