use Rattle.std.proofs.Common.{take}
use Rattle.ss_spelled.specs.Fronts.{AreBeginnings}
use Rattle.ss_spelled.proofs.longer.beginnings.Given as goal

abbrev pub invariant-loop-fragment : goal.invariant-loop-fragment
invariant-loop-fragment l = AreBeginnings (take l.fragment-index l.fragments) l.fronts.keys
