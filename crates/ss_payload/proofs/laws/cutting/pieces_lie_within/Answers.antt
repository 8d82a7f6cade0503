use Rattle.ss_payload.proofs.PlacedPieces.{pieces_lie_within}
use Rattle.ss_payload.proofs.laws.cutting.pieces_lie_within.Goals as goal

pub returns : goal.returns
returns c = pieces_lie_within
