-- The tally of a group: how many of its numbers are listed, lost, disputed or in holes, and how far they go.
use Rattle.std.specs.Prelude.{◌≡◌, ℕ, ◌+◌, ◌-◌, ◌*◌, ◌^◌, ◌≤◌, ◌==◌, List, fold, if◌then◌else◌}
use Rattle.ss_review.specs.declared.report.entry.Why.TheVariants as whys
use Rattle.ss_review.specs.declared.report.entry.Entry.{Entry}
use Rattle.ss_review.specs.declared.report.entry.Entry.TheVariants as entries
use Rattle.ss_report.specs.declared.lines.tally.Tally.{Tally}

-- of no entry
abbrev pub of_none : Tally
of_none = record { listed = 0; lost = 0; disputed = 0; holes = 0; first = 0; last = 0 }

-- with one more announced number, after the others
abbrev pub announcing : Tally → ℕ → Tally
announcing t number = record t { first = if t.first == 0 then number else t.first; last = number }

-- with one more entry
unfoldable pub with_entry : Tally → Entry → Tally
with_entry t (entries.Listed number place) = record (announcing t number) { listed = t.listed + 1 }
with_entry t (entries.Gap number whys.Lost) = record (announcing t number) { lost = t.lost + 1 }
with_entry t (entries.Gap number whys.Disputed) = record (announcing t number) { disputed = t.disputed + 1 }
with_entry t (entries.Hole first last) = record t { holes = t.holes + (last + 1 - first) }

-- of the entries of a group, by rising number
unfoldable pub tally : List Entry → Tally
tally es = fold with_entry of_none es

-- no count is greater than that of so many entries
pub record IsWithin (count : ℕ) (t : Tally) : Type 0 where
  pub listed : t.listed ≤ count
  pub lost : t.lost ≤ count
  pub disputed : t.disputed ≤ count
  pub holes : t.holes ≤ count * 2 ^ 64

-- a tally is another one with one more entry, and its counts have grown by at most that
pub record HasOneMore (before after : Tally) (entry : Entry) : Type 0 where
  pub told : after ≡ with_entry before entry
  pub within : (count : ℕ) → IsWithin count before → IsWithin (count + 1) after
