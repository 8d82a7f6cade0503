use Rattle.ss_payload.proofs.PlacedPieces.{pieces_cover}
use Rattle.ss_payload.proofs.laws.cutting.pieces_cover.Goals as goal

pub returns : goal.returns
returns c = pieces_cover
