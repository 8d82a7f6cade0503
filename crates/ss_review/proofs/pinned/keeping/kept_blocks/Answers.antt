use Rattle.std.proofs.Common.{sym, subst}
use Rattle.ss_review.specs.pinned.Finding.{AreAskableUnder}
use Rattle.ss_review.specs.sessions.Sectioned.{sections}
use Rattle.ss_review.proofs.of_pinned.Asking.{askable_under}
use Rattle.ss_review.proofs.pinned.keeping.kept_blocks.Goals as goal

pub marked-requires-clause-askable : goal.marked-requires-clause-askable
marked-requires-clause-askable g c =
    subst (λ bs. AreAskableUnder g.J.Judge.askable c.args.judge.now c.args.payloads.now (sections bs)) (sym c.as_slice.ensures.value)
    (askable_under g.J.Judge.askable c.args.judge.now c.args.payloads.now c.args.blocks.items c.requires.askable)
