use Rattle.std.proofs.Common.{◌≡◌, drop}
use Rattle.ss_origin.specs.Counting.{number_in}
use Rattle.ss_origin.proofs.slots.number_in.Given as goal

abbrev pub invariant-loop-next : goal.invariant-loop-next
invariant-loop-next l = number_in l.numbers l.spri ≡ number_in (drop l.next-index l.numbers) l.spri
