use Rattle.std.proofs.Common.{◌≡◌, drop}
use Rattle.ss_signed.specs.Places.{first_block}
use Rattle.ss_signed.proofs.place.first_block.Given as goal

abbrev pub invariant-loop-element : goal.invariant-loop-element
invariant-loop-element l = first_block l.source (drop l.element-index l.elements) ≡ first_block l.source l.elements
