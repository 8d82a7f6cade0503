use Rattle.ss_spelled.proofs.Steps.{IsGoing}
use Rattle.ss_spelled.proofs.search.spell.Given as goal

abbrev pub invariant-loop-front : goal.invariant-loop-front
invariant-loop-front l = IsGoing l.fragments l.bounds l.texts.items l.waiting.keys l.left

abbrev pub decreases-loop-front : goal.decreases-loop-front
decreases-loop-front l = l.left
