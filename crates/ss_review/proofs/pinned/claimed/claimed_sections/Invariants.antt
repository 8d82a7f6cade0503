-- The sessions so far, and those of the blocks that are left, are all, and the judge may be asked about those left.
use Rattle.std.proofs.Common.{◌≡◌, ◌++◌, ◌-◌, length, drop, map, All}
use Rattle.ss_review.specs.sessions.Sectioned.{sections, referred}
use Rattle.ss_review.specs.sessions.Verified.{answers}
use Rattle.ss_review.specs.pinned.Finding.{session_claimed, section_claimed, AreAskableUnder, AreFoundRight}
use Rattle.ss_review.proofs.pinned.claimed.claimed_sections.Given as goal

abbrev pub invariant-loop-start : goal.invariant-loop-start
invariant-loop-start g l =
    let says = answers g.J.Judge.trusted g.J.Judge.valid l.judge in
    (map session_claimed l.sessions.items ++ map (section_claimed says l.payloads) (sections (referred (drop l.start l.blocks)))
    ≡ map (section_claimed says l.payloads) (sections (referred l.blocks)))
    × All (AreFoundRight says) l.sessions.items
    × AreAskableUnder g.J.Judge.askable l.judge l.payloads (sections (referred (drop l.start l.blocks)))

abbrev pub decreases-loop-start : goal.decreases-loop-start
decreases-loop-start g l = length l.blocks - l.start
