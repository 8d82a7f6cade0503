-- How counters are looked up: by what lies below them, as if nothing had been stored.
use Rattle.std.specs.Prelude.{◌≡◌, ℕ, ◌+◌, ◌-◌, ◌<◌, ◌^◌, max, fold, List, [], length, map, filter, slice_get, All}
use Rattle.std.specs.Prelude.{unwrap_or}
use Rattle.std.specs.Option.{option_map}
use Rattle.ss_block.specs.declared.block.Group.{Group}
use Rattle.ss_review.specs.declared.counted.counter.Counter.{Counter}
use Rattle.ss_review.specs.declared.counted.missing.MissingRun.{MissingRun}
use Rattle.ss_review.specs.declared.counted.shortfall.GroupTail.{GroupTail}
use Rattle.ss_review.specs.declared.counted.shortfall.Shortfall.{Shortfall}
use Rattle.ss_review.specs.report.Entries.{same_group}
use Rattle.ss_review.specs.counted.Kept.{log_shortfalls}

-- what lies below the counters of each session, in the order of the sessions
abbrev pub below_counters : List Counter → List Shortfall
below_counters cs = (log_shortfalls cs [] []).absent

-- Counters, and what lies below them. Each fits 64 bits.
pub record AreBounds (cs : List Counter) (below : List Shortfall) : Type 0 where
  pub below_is : below ≡ below_counters cs
  pub fit : All (λ c. c.next < 2 ^ 64) cs

-- the number after those of the group, or 1
abbrev pub number_past : List GroupTail → Group → ℕ
number_past ts g = fold max 1 (map (λ t. t.last + 1) (filter (λ t. same_group t.group g) ts))

-- the GBC after the last run, or 0
abbrev pub gbc_past : List MissingRun → ℕ
gbc_past rs = unwrap_or (option_map (λ r. r.last + 1) (slice_get rs (length rs - 1))) 0
