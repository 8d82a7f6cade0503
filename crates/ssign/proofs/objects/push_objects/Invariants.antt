use Rattle.std.proofs.Common.{◌≡◌, ◌++◌, take}
use Rattle.ssign.specs.Explanation.{objects_in}
use Rattle.ssign.proofs.objects.push_objects.Given as goal

abbrev pub invariant-loop-entry : goal.invariant-loop-entry
invariant-loop-entry l = l.text.items ≡ l.initial.text.items ++ objects_in l.table (take l.entry-index l.entries)
