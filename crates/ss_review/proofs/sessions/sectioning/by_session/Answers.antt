use Rattle.std.proofs.Common.{rules, ap, ◌∙◌, Bor}
use Rattle.std.proofs.lemmas.List.Sorted.{ranks_by}
use Rattle.std.proofs.lemmas.Fn.{always_returns_same}
use Rattle.ss_block.specs.OrderLaws.{session_cmp_total}
use Rattle.ss_review.specs.keep.BlockMessage.{BlockMessage}
use Rattle.ss_review.specs.sessions.Sectioned.{sections}
use Rattle.ss_review.proofs.of_sessions.BySession.{below, sessions_rise, sections_stay}
use Rattle.ss_review.proofs.sessions.sectioning.by_session.Goals as goal

pub returns-clause-rise : goal.returns-clause-rise
returns-clause-rise c =
    sessions_rise c.sort_by.new.self.items
    (c.in_ok-sort_by.ensures.sorted below (ranks_by session_cmp_total (λ (b : Bor BlockMessage). b.now.session)) (always_returns_same _ _ _ (λ a r q k. search rules)))

pub returns-clause-sectioned : goal.returns-clause-sectioned
returns-clause-sectioned c =
    sections_stay c.in_ok-sorted.sorted.items c.sort_by.new.self.items c.sort_by.ensures.permutation
    (c.sort_by.ensures.stable below (ranks_by session_cmp_total (λ (b : Bor BlockMessage). b.now.session)) (always_returns_same _ _ _ (λ a r q k. search rules)))
    ∙ ap sections c.in_ok-sorted.ensures
