-- How far the joined ones of the first sessions all reach.
use Rattle.std.proofs.Common.{◌≡◌, ℕ, List, take}
use Rattle.std.specs.List.{list_all}
use Rattle.ss_review.specs.declared.keep.log_blocks.LogBlock.{LogBlock}
use Rattle.ss_report.specs.strangers.Reaches.{HasReaches, at_least, is_below}
use Rattle.ss_report.specs.strangers.Strangers.{has_verified}
use Rattle.ss_report.proofs.of_strangers.LeastReach.{joined_ones}
use Rattle.ss_report.proofs.strangers.fellows.least_reach.Given as goal

abbrev pub invariant-loop-fellow : goal.invariant-loop-fellow
invariant-loop-fellow l =
    (refused : List ℕ) (bs : List LogBlock)
    → HasReaches l.reaches refused bs
    → (x : ℕ)
    → is_below x l.least ≡ list_all (λ t. has_verified refused bs (at_least l.scale x) t.session) (joined_ones (take l.fellow-index l.named))
