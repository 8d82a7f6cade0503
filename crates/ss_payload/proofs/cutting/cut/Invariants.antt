use Rattle.std.proofs.Common.{◌-◌, length}
use Rattle.ss_payload.proofs.CutLists.{AreBegun}
use Rattle.ss_payload.proofs.cutting.cut.Given as goal

abbrev pub invariant-loop-start : goal.invariant-loop-start
invariant-loop-start l = AreBegun (length l.text) l.size l.start l.cuts.items

abbrev pub decreases-loop-start : goal.decreases-loop-start
decreases-loop-start l = l.total - l.start
