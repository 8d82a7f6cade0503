use Rattle.std.proofs.Common.{◌≡◌, map, sym, ap, ◌∙◌, subst}
use Rattle.std.specs.Prelude.{IfOk, flat_map}
use Rattle.ss_review.specs.sessions.Sectioned.{referred}
use Rattle.ss_review.specs.sessions.Verified.{answers}
use Rattle.ss_review.specs.announced.Numbered.{session_with_joined, sessions_joined}
use Rattle.ss_review.specs.questions.Questions.{questions, AreAskable}
use Rattle.ss_review.proofs.of_sessions.SectionsTold.{section_joined, sections_joined, section_asked, questions_asked}
use Rattle.ss_review.proofs.sessions.states.joined_sessions.Goals as goal

pub joined_sections-requires-clause-askable : goal.joined_sections-requires-clause-askable
joined_sections-requires-clause-askable g c =
    let same : questions (referred c.as_slice.result.now) ≡ questions c.args.blocks.now
    = ap (λ bs. questions (referred bs)) c.as_slice.ensures.value
    ∙ sym (questions_asked (referred c.in_ok-sorted.sorted.items))
    ∙ ap (flat_map section_asked) c.in_ok-sorted.ensures.sectioned
    ∙ questions_asked c.args.blocks.now in
    subst (AreAskable g.J.Judge.askable c.args.judge.now) (sym same) c.requires.askable

pub returns : goal.returns
returns g c =
    let says = answers g.J.Judge.trusted g.J.Judge.valid c.args.judge.now in
    let same : sessions_joined says (referred c.as_slice.result.now) ≡ sessions_joined says c.args.blocks.now
    = ap (λ bs. sessions_joined says (referred bs)) c.as_slice.ensures.value
    ∙ sym (sections_joined says (referred c.in_ok-sorted.sorted.items))
    ∙ ap (map (section_joined says)) c.in_ok-sorted.ensures.sectioned
    ∙ sections_joined says c.args.blocks.now in
    subst (λ all. IfOk c.joined_sections.result (λ v. map session_with_joined v.items ≡ all)) same c.joined_sections.ensures
