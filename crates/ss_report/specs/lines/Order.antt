-- The order of a group's listed messages: whether they stand in the log by their numbers.
use Rattle.std.specs.Prelude.{◌≡◌, ℕ, ◌+◌, ◌≤◌, ◌==◌, nat_lt, List, fold, if◌then◌else◌}
use Rattle.ss_review.specs.declared.report.entry.Entry.{Entry}
use Rattle.ss_review.specs.declared.report.entry.Entry.TheVariants as entries
use Rattle.ss_report.specs.declared.lines.order.Order.{Order}

-- of no message
abbrev pub of_none : Order
of_none = record { count = 0; number = 0; place = 0; last = 0 }

-- with one more listed message, which stands in front of the one before it
abbrev pub with_early : Order → (number place : ℕ) → Order
with_early o number place = record {
  count = o.count + 1;
  number = if o.count == 0 then number else o.number;
  place = if o.count == 0 then place else o.place;
  last = place;
}

-- with one more entry
unfoldable pub with_entry : Order → Entry → Order
with_entry o (entries.Listed number place) =
    if nat_lt place o.last then with_early o number place else record o { last = place }
with_entry o (entries.Gap number why) = o
with_entry o (entries.Hole first last) = o

-- of the entries of a group, by rising number
unfoldable pub order : List Entry → Order
order es = fold with_entry of_none es

-- no more are counted than there are entries
abbrev pub IsWithin : (count : ℕ) → Order → Type 0
IsWithin count o = o.count ≤ count

-- an order is another one with one more entry, and its count has grown by at most one
pub record HasOneMore (before after : Order) (entry : Entry) : Type 0 where
  pub told : after ≡ with_entry before entry
  pub within : (count : ℕ) → IsWithin count before → IsWithin (count + 1) after
