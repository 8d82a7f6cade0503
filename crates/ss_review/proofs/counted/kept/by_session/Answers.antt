use Rattle.std.proofs.Common.{rules, ap, ◌∙◌, Bor}
use Rattle.std.proofs.lemmas.List.Sorted.{ranks_by}
use Rattle.std.proofs.lemmas.Fn.{always_returns_same}
use Rattle.ss_block.specs.OrderLaws.{session_cmp_total}
use Rattle.ss_review.specs.declared.counted.counter.Counter.{Counter}
use Rattle.ss_review.specs.counted.Kept.{counters_of}
use Rattle.ss_review.proofs.of_counters.KeptBySession.{below, counters_stay}
use Rattle.ss_review.proofs.counted.kept.by_session.Goals as goal

pub returns-clause-stand : goal.returns-clause-stand
returns-clause-stand c =
    c.in_ok-sort_by.ensures.sorted below (ranks_by session_cmp_total (λ (b : Bor Counter). b.now.session)) (always_returns_same _ _ _ (λ a r q k. search rules))

pub returns-clause-same : goal.returns-clause-same
returns-clause-same c = λ s.
    counters_stay c.in_ok-sorted.sorted.items c.sort_by.new.self.items
    (c.sort_by.ensures.stable below (ranks_by session_cmp_total (λ (b : Bor Counter). b.now.session)) (always_returns_same _ _ _ (λ a r q k. search rules)))
    s
    ∙ ap (λ cs. counters_of cs s) c.in_ok-sorted.ensures
