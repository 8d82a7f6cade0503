-- The sessions so far, and those of the blocks that are left, are all, and the judge may be asked about those left.
use Rattle.std.proofs.Common.{◌≡◌, ◌++◌, ◌-◌, length, drop, map}
use Rattle.ss_review.specs.sessions.Sectioned.{sections, referred}
use Rattle.ss_review.specs.sessions.Verified.{answers}
use Rattle.ss_review.specs.announced.Numbered.{session_with_joined, sessions_joined}
use Rattle.std.specs.List.{flat_map}
use Rattle.ss_review.specs.questions.Questions.{AreAskable}
use Rattle.ss_review.proofs.of_sessions.SectionsTold.{section_joined, section_asked}
use Rattle.ss_review.proofs.sessions.states.joined_sections.Given as goal

abbrev pub invariant-loop-start : goal.invariant-loop-start
invariant-loop-start g l =
    let says = answers g.J.Judge.trusted g.J.Judge.valid l.judge in
    (map session_with_joined l.sessions.items ++ map (section_joined says) (sections (referred (drop l.start l.blocks))) ≡ sessions_joined says (referred l.blocks))
    × AreAskable g.J.Judge.askable l.judge (flat_map section_asked (sections (referred (drop l.start l.blocks))))

abbrev pub decreases-loop-start : goal.decreases-loop-start
decreases-loop-start g l = length l.blocks - l.start
