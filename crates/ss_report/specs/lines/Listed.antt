-- Which message a line of a report lists.
use Rattle.std.specs.Prelude.{◌≡◌, ◌++◌, [], ℕ, false, Option, Some, None}
use Rattle.std.specs.List.{cons_option}
use Rattle.ss_report.specs.lines.Lines.{ReportLine, OkLine}
use Rattle.ss_report.specs.declared.lines.listed.PlacesSoFar.{PlacesSoFar}

-- the place of the message
abbrev pub place_in : ReportLine → Option ℕ
place_in (OkLine s g number place) = Some place
place_in line = None

-- the place stands after those so far, unless memory has run out
abbrev pub KeepsPlace : (before after : PlacesSoFar) → ReportLine → Type 0
KeepsPlace before after line =
    after.failed ≡ false
    → (before.failed ≡ false)
    × (after.places.items ≡ before.places.items ++ cons_option (place_in line) [])
