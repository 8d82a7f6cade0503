use Rattle.std.proofs.Common.{◌≡◌, ◌++◌, take, flat_map}
use Rattle.ss_signed.specs.Object.{escaped}
use Rattle.ss_signed.proofs.object.put_escaped.Given as goal

abbrev pub invariant-loop-octet : goal.invariant-loop-octet
invariant-loop-octet l = l.text.items ≡ l.initial.text.items ++ flat_map escaped (take l.octet-index l.octets)
