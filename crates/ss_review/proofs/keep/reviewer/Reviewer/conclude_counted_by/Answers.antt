use Rattle.std.proofs.Common.{ℕ, List, Bor, subst}
use Rattle.std.specs.Prelude.{Option, option_map}
use Rattle.ss_review.specs.keep.Keeping.{kept_blocks}
use Rattle.ss_review.specs.questions.Questions.{AreAskable}
use Rattle.ss_review.specs.pinned.Pinned.{questions_by}
use Rattle.ss_review.proofs.keep.reviewer.Reviewer.conclude_counted_by.Goals as goal

pub conclude_counted-requires-clause-askable : goal.conclude_counted-requires-clause-askable
conclude_counted-requires-clause-askable g c =
    subst (λ (o : Option (Bor (List (List ℕ)))). AreAskable g.J.Judge.askable c.args.judge (questions_by (option_map (λ ps. ps.now) o) (kept_blocks c.args.self))) c.in-None.is c.requires.askable

pub pinned_counted-requires-clause-askable : goal.pinned_counted-requires-clause-askable
pinned_counted-requires-clause-askable g c =
    subst (λ (o : Option (Bor (List (List ℕ)))). AreAskable g.J.Judge.askable c.args.judge (questions_by (option_map (λ ps. ps.now) o) (kept_blocks c.args.self))) c.in-Some.is c.requires.askable
