use Rattle.std.proofs.Common.{sym, ap, ◌∙◌}
use Rattle.std.specs.Prelude.{flat_map}
use Rattle.ss_review.specs.pinned.Pinned.{pinned_sessions}
use Rattle.ss_review.specs.sessions.Sectioned.{referred}
use Rattle.ss_review.proofs.of_sessions.SectionsTold.{section_pinned, sessions_pinned}
use Rattle.ss_review.proofs.questions.asking.pinned_sessions.Goals as goal

pub returns : goal.returns
returns c =
    c.from_vec.ensures
    ∙ c.in_ok-asked_in_turn.ensures
    ∙ ap (λ bs. pinned_sessions c.args.known.now (referred bs)) c.as_slice.ensures.value
    ∙ sym (sessions_pinned c.args.known.now (referred c.in_ok-sorted.sorted.items))
    ∙ ap (flat_map (section_pinned c.args.known.now)) c.in_ok-sorted.ensures.sectioned
    ∙ sessions_pinned c.args.known.now c.args.blocks.now
