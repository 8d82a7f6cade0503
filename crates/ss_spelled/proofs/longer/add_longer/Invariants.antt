use Rattle.std.proofs.Common.{take}
use Rattle.ss_spelled.specs.Fronts.{AreJoinedBy}
use Rattle.ss_spelled.proofs.longer.add_longer.Given as goal

abbrev pub invariant-loop-fragment : goal.invariant-loop-fragment
invariant-loop-fragment l = AreJoinedBy l.front (take l.fragment-index l.fragments) l.fn.waiting.keys l.waiting.keys
