-- The places of the messages that a report lists, in its order.
use Rattle.std.specs.Prelude.{ℕ, List, filter_map, flat_map, Option, Some, None}
use Rattle.ss_review.specs.declared.report.entry.Entry.{Entry}
use Rattle.ss_review.specs.declared.report.entry.Entry.TheVariants as entry
use Rattle.ss_review.specs.declared.report.report.Report.{Report}

abbrev pub place_listed : Entry → Option ℕ
place_listed (entry.Listed number place) = Some place
place_listed (entry.Gap number why) = None
place_listed (entry.Hole first last) = None

abbrev pub listed_places : Report → List ℕ
listed_places r = flat_map (λ s. flat_map (λ g. filter_map place_listed g.entries) s.groups) r.sessions
