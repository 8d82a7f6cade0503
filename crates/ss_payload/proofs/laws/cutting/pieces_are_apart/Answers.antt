use Rattle.ss_payload.proofs.PlacedPieces.{pieces_are_apart}
use Rattle.ss_payload.proofs.laws.cutting.pieces_are_apart.Goals as goal

pub returns : goal.returns
returns c = pieces_are_apart
