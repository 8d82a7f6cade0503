use Rattle.std.proofs.Common.{length}
use Rattle.ssign.specs.GroupsText.{pieces}
use Rattle.ssign.proofs.ReadBounds.{HasRead}
use Rattle.ssign.proofs.groups_text.bounds_of.Given as goal

abbrev pub invariant-loop-piece : goal.invariant-loop-piece
invariant-loop-piece l = HasRead (pieces l.text) l.bounds.items (pieces l.rest)

abbrev pub decreases-loop-piece : goal.decreases-loop-piece
decreases-loop-piece l = length l.rest
