-- What a report has to be for a log to be clean. Besides, the log's last message has to be whole.
use Rattle.std.specs.Prelude.{◌&&◌, Bool, true, false, List, [], ◌∷◌}
use Rattle.std.specs.List.{list_all}
use Rattle.ss_review.specs.declared.report.session_report.SessionState.{SessionState}
use Rattle.ss_review.specs.declared.report.session_report.SessionState.TheVariants as states
use Rattle.ss_review.specs.declared.report.entry.Entry.{Entry}
use Rattle.ss_review.specs.declared.report.entry.Entry.TheVariants as entry
use Rattle.ss_review.specs.declared.report.report.Report.{Report}

abbrev pub is_joined : SessionState → Bool
is_joined states.Joined = true
is_joined states.Disputed = false
is_joined states.Incomplete = false
is_joined states.Malformed = false
is_joined states.Untrusted = false
is_joined states.Unaccepted = false

abbrev pub is_listed : Entry → Bool
is_listed (entry.Listed number place) = true
is_listed (entry.Gap number why) = false
is_listed (entry.Hole first last) = false

abbrev pub is_none : {X : Type 0} → List X → Bool
is_none [] = true
is_none (x ∷ xs) = false

-- every session is joined, every entry a listed message, and no place stands in another list
unfoldable pub is_clean : Report → Bool
is_clean r =
    list_all (λ s. is_joined s.state && list_all (λ g. list_all is_listed g.entries) s.groups) r.sessions
    && is_none r.unlisted && is_none r.refused && is_none r.spoilt
