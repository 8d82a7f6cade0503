use Rattle.std.proofs.Common.{◌++◌, drop, map, Bor, sym, ap, ◌∙◌, subst}
use Rattle.std.specs.List.{flat_map}
use Rattle.std.proofs.lemmas.List.{append-nil}
use Rattle.ss_review.specs.keep.BlockMessage.{BlockMessage}
use Rattle.ss_review.specs.sessions.Sectioned.{sections, referred}
use Rattle.ss_review.specs.sessions.Verified.{answers}
use Rattle.ss_review.specs.announced.Numbered.{session_with_joined}
use Rattle.ss_review.specs.questions.Questions.{AreAskable}
use Rattle.ss_review.proofs.of_questions.AskableBlocks.{askable_front, askable_behind}
use Rattle.ss_review.proofs.of_sessions.SectionsTold.{section_joined, sections_joined, section_asked, questions_asked, one_more, no_sections}
use Rattle.ss_review.proofs.sessions.states.joined_sections.Goals as goal

pub loop-start-init : goal.loop-start-init
loop-start-init g c =
    let says = answers g.J.Judge.trusted g.J.Judge.valid c.args.judge.now in (
      ap (λ xs. map session_with_joined xs ++ map (section_joined says) (sections (referred c.args.blocks.now))) c.new-sessions.ensures.items
          ∙ sections_joined says (referred c.args.blocks.now),
      subst (AreAskable g.J.Judge.askable c.args.judge.now) (sym (questions_asked (referred c.args.blocks.now))) c.requires.askable,
    )

pub joined-requires-clause-askable : goal.joined-requires-clause-askable
joined-requires-clause-askable g c =
    let here = c.section_end-end.ensures.sectioned c.index-blocks-start.result in
    askable_front g.J.Judge.askable c.args.judge.now _ _ (subst (λ ss. AreAskable g.J.Judge.askable c.args.judge.now (flat_map section_asked ss)) here c.loop-start.invariant.1)

pub loop-start-preserved : goal.loop-start-preserved
loop-start-preserved g c =
    let says = answers g.J.Judge.trusted g.J.Judge.valid c.args.judge.now in
    let bs = c.args.blocks.now in
    let here = c.section_end-end.ensures.sectioned c.index-blocks-start.result in
    let first = c.in_ok-try_clone.ensures ∙ c.session.ensures ∙ ap (λ (b : Bor BlockMessage). b.now.session) c.index-blocks-start.is in
    let later = sections (referred (drop c.section_end-end.result bs)) in (
      ap (λ xs. map session_with_joined xs ++ map (section_joined says) later) c.in_ok-push.ensures.items
          ∙ one_more session_with_joined (section_joined says) c.loop-start.sessions.items _ _ _ later here
          (λ i. (first i, c.in_ok-joined.ensures i))
          ∙ c.loop-start.invariant.0,
      askable_behind g.J.Judge.askable c.args.judge.now _ _ (subst (λ ss. AreAskable g.J.Judge.askable c.args.judge.now (flat_map section_asked ss)) here c.loop-start.invariant.1),
    )

pub returns : goal.returns
returns g c =
    let says = answers g.J.Judge.trusted g.J.Judge.valid c.args.judge.now in
    let done = map session_with_joined c.loop-start.sessions.items in
    sym (ap (λ ss. done ++ map (section_joined says) ss) (no_sections c.args.blocks.now c.loop-start.start c.loop-start-test.false) ∙ append-nil done)
    ∙ c.loop-start.invariant.0
