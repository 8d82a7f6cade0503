use Rattle.std.proofs.Common.{◌≡◌, map, take}
use Rattle.ss_origin.specs.Emission.{certificate_of}
use Rattle.ss_origin.proofs.blocks.certificates_of.Given as goal

abbrev pub invariant-loop-piece : goal.invariant-loop-piece
invariant-loop-piece l = l.due.items ≡ map (certificate_of l.config l.text) (take l.piece-index l.pieces)
