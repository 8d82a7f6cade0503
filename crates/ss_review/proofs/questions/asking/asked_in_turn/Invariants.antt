-- The sessions so far, and those of the blocks that are left, are all.
use Rattle.std.proofs.Common.{◌≡◌, ◌++◌, ◌-◌, length, drop}
use Rattle.std.specs.Prelude.{flat_map}
use Rattle.ss_review.specs.sessions.Sectioned.{sections, referred}
use Rattle.ss_review.specs.pinned.Pinned.{pinned_sessions}
use Rattle.ss_review.proofs.of_sessions.SectionsTold.{section_pinned}
use Rattle.ss_review.proofs.questions.asking.asked_in_turn.Given as goal

abbrev pub invariant-loop-start : goal.invariant-loop-start
invariant-loop-start l = l.sessions.items ++ flat_map (section_pinned l.known) (sections (referred (drop l.start l.blocks))) ≡ pinned_sessions l.known (referred l.blocks)

abbrev pub decreases-loop-start : goal.decreases-loop-start
decreases-loop-start l = length l.blocks - l.start
