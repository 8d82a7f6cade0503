use Rattle.std.proofs.Common.{◌++◌, drop, Bor, sym, ap, ◌∙◌}
use Rattle.std.specs.Prelude.{flat_map, slice_range}
use Rattle.std.proofs.lemmas.List.{append-nil, append_assoc}
use Rattle.ss_block.specs.declared.session.Session.{Session}
use Rattle.ss_review.specs.keep.BlockMessage.{BlockMessage}
use Rattle.ss_review.specs.sessions.Sectioned.{sections, referred}
use Rattle.ss_review.specs.pinned.Pinned.{session_pinned}
use Rattle.ss_review.proofs.of_sessions.SectionsTold.{section_pinned, sessions_pinned, no_sections}
use Rattle.ss_review.proofs.questions.asking.asked_in_turn.Goals as goal

pub loop-start-init : goal.loop-start-init
loop-start-init c =
    ap (λ ss. ss ++ flat_map (section_pinned c.args.known.now) (sections (referred c.args.blocks.now))) c.new-sessions.ensures.items
    ∙ sessions_pinned c.args.known.now (referred c.args.blocks.now)

pub loop-start-preserved : goal.loop-start-preserved
loop-start-preserved c =
    let done = c.loop-start.sessions.items in
    let later = flat_map (section_pinned c.args.known.now) (sections (referred (drop c.section_end-end.result c.args.blocks.now))) in
    let here = referred (slice_range c.args.blocks.now c.loop-start.start c.section_end-end.result) in
    let first = c.session.ensures ∙ ap (λ (b : Bor BlockMessage). b.now.session) c.index-blocks-start.is in
    ap (λ ss. ss ++ later) (c.in_ok-add_session.ensures ∙ ap (λ (s : Session). done ++ session_pinned c.args.known.now s here) first)
    ∙ append_assoc done _ later
    ∙ ap (λ ss. done ++ flat_map (section_pinned c.args.known.now) ss) (sym (c.section_end-end.ensures.sectioned c.index-blocks-start.result))
    ∙ c.loop-start.invariant

pub returns : goal.returns
returns c =
    let done = c.loop-start.sessions.items in
    sym (ap (λ ss. done ++ flat_map (section_pinned c.args.known.now) ss) (no_sections c.args.blocks.now c.loop-start.start c.loop-start-test.false) ∙ append-nil done)
    ∙ c.loop-start.invariant
