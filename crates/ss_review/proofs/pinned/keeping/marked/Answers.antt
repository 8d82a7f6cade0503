use Rattle.std.proofs.Common.{map, sym, ap, ◌∙◌, subst, All}
use Rattle.ss_review.specs.sessions.Verified.{answers}
use Rattle.ss_review.specs.pinned.Finding.{session_claimed, AreFoundRight}
use Rattle.ss_review.proofs.of_pinned.Keeping.{askable_block}
use Rattle.ss_review.proofs.pinned.keeping.marked.Goals as goal

pub marks-requires-clause-askable : goal.marks-requires-clause-askable
marks-requires-clause-askable g c =
    let says = answers g.J.Judge.trusted g.J.Judge.valid c.args.judge.now in
    askable_block says c.args.payloads.now c.args.blocks.now c.as_slice.result.now
    (ap (map session_claimed) c.as_slice.ensures.value ∙ c.in_ok-sessions.ensures.claimed)
    g.J.Judge.askable c.args.judge.now c.requires.askable

pub returns : goal.returns
returns g c =
    let says = answers g.J.Judge.trusted g.J.Judge.valid c.args.judge.now in
    c.marks.ensures c.args.payloads.now
    (ap (map session_claimed) c.as_slice.ensures.value ∙ c.in_ok-sessions.ensures.claimed)
    (subst (All (AreFoundRight says)) (sym c.as_slice.ensures.value) c.in_ok-sessions.ensures.found)
