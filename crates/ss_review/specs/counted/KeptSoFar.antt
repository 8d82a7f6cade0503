-- Counters that somebody kept, as they are looked through on the way to what is missing.
use Rattle.std.specs.Prelude.{◌≡◌, ℕ, List, map, unwrap_or}
use Rattle.std.specs.Borrow.{Bor}
use Rattle.std.specs.BTreeMap as tree
use Rattle.std.specs.List.Sorted.{IsSortedByKey}
use Rattle.ss_block.specs.declared.block.Group.{Group}
use Rattle.ss_block.specs.Order.{session_cmp, group_cmp}
use Rattle.ss_review.specs.declared.counted.counter.Counter.{Counter}
use Rattle.ss_review.specs.counted.Kept.{number_in}

-- the counters that references lead to
abbrev pub led_to : List (Bor Counter) → List Counter
led_to cs = map (λ c. c.now) cs

-- they stand in the order of their sessions
abbrev pub StandBySession : List (Bor Counter) → Type 0
StandBySession cs = IsSortedByKey (λ c. c.now.session) session_cmp cs

-- for each group the greatest number that these counters of a session say, if one does
abbrev pub KeepsNumbers : tree.BTreeMap Group ℕ → List Counter → Type 0
KeepsNumbers numbers own = (g : Group) → unwrap_or (tree.get group_cmp numbers g) 0 ≡ number_in own g
