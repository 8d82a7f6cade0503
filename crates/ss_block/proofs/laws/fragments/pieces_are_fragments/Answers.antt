use Rattle.ss_block.proofs.Pieces.{pieces_are_fragments}
use Rattle.ss_block.proofs.laws.fragments.pieces_are_fragments.Goals as goal

pub returns : goal.returns
returns c = pieces_are_fragments
