use Rattle.ss_payload.proofs.SentPieces.{pieces_are_whole}
use Rattle.ss_payload.proofs.laws.joining.pieces_are_whole.Goals as goal

pub returns : goal.returns
returns c = pieces_are_whole
