use Rattle.std.proofs.Common.{subst}
use Rattle.ss_review.specs.sessions.Covering.{IsFirstUncovered}
use Rattle.ss_review.proofs.of_sessions.Covering.{cover_is, first_permuted, starts_rise}
use Rattle.ss_review.proofs.sessions.span.cover.Goals as goal

pub first_uncovered-requires : goal.first_uncovered-requires
first_uncovered-requires c = starts_rise c.sort_unstable.new.self c.sort_unstable.ensures.sorted

pub returns : goal.returns
returns c = λ cs e.
    cover_is cs c.args.total c.first_uncovered.result
    (subst (λ spans. IsFirstUncovered spans c.first_uncovered.result) e
    (first_permuted c.args.spans.now c.sort_unstable.new.self c.first_uncovered.result c.sort_unstable.ensures.permutation c.first_uncovered.ensures))
