-- What is carried over of each night's log is enough to leave over.
use Rattle.std.specs.Prelude.{◌≡◌, ◌==◌, ◌||◌, ◌&&◌, ◌<◌, ◌≤◌, ℕ, zero, suc, Bool, List, ◌++◌, length, map, filter_map}
use Rattle.std.specs.Prelude.{slice_get, slice_index}
use Rattle.std.specs.List.{list_any}
use Rattle.ss_review.specs.keep.Notes.{notes}
use Rattle.ss_review.specs.keep.Contents.{Contents, contents}
use Rattle.ss_review.specs.sessions.Verified.{Answers}
use Rattle.ss_review.specs.report.Report.{report_of, report}
use Rattle.ss_laws.specs.parts.Parts.{moved, messages_of, places_of}
use Rattle.ss_report.specs.runs.Carrying.{carried_by, carried}
use Rattle.ss_laws.specs.carry.Nights.{Nights, at_places, night_log, AreContents, LeaveEnough}
use Rattle.ss_laws.specs.carry.NightLaws.{reviewed_part}
use Rattle.ss_laws.specs.carry.Reports.{night_report, IsPutTogether}
use Rattle.ss_laws.specs.carry.Together.{FilesFollow, AgreeLater}

-- the place is carried over, by the report on the log
abbrev pub is_carried : Answers → Contents → ℕ → Bool
is_carried says log place = list_any (λ p. p == place) (carried_by (report_of says log) log.blocks)

-- each night before this one leaves over what is carried over of its log
abbrev pub CarryOver : Answers → Nights → ℕ → Type 0
CarryOver says x last = (night place : ℕ) → night < last
    → x.left night place ≡ is_carried says (night_log x night) place

abbrev pub CarriedIsEnough : Type 0
CarriedIsEnough = (says : Answers) (x : Nights) (last : ℕ) → AreContents x.whole → CarryOver says x last
    → LeaveEnough says x last

-- what is carried over of a night's log is what is carried over of a log of its own, at the places in the whole
abbrev pub CarriedOfOwnLogs : Type 0
CarriedOfOwnLogs =
    (says : Answers) (x : Nights) (night : ℕ) (log : List (List ℕ)) → x.whole ≡ contents (notes log)
    → carried_by (report_of says (night_log x night)) (night_log x night).blocks
    ≡ map (slice_index (places_of (reviewed_part x night) 0 log))
    (carried says (messages_of (reviewed_part x night) 0 log))

-- ---- the logs that a keeper makes

-- the messages of a log that are carried over
abbrev pub carried_texts : Answers → List (List ℕ) → List (List ℕ)
carried_texts says messages = filter_map (slice_get messages) (carried says messages)

-- The log that is reviewed in a night: what is carried over of the log of the night before, and then the night's own
-- file. The messages of the log whose places belong to the night are its file.
abbrev pub night_texts : Answers → (ℕ → ℕ) → List (List ℕ) → ℕ → List (List ℕ)
night_texts says file log zero = messages_of file zero log
night_texts says file log (suc night) =
    carried_texts says (night_texts says file log night) ++ messages_of file (suc night) log

-- the night reviews the place of its own file, or of what was carried over the night before
abbrev pub is_gone_over : Answers → (ℕ → ℕ) → Contents → ℕ → ℕ → Bool
is_gone_over says file whole zero place = file place == zero
is_gone_over says file whole (suc night) place =
    (file place == suc night)
    || (is_gone_over says file whole night place
    && is_carried says (at_places (is_gone_over says file whole night) whole) place)

-- the nights of these files, each of which leaves over what is carried over of its log
abbrev pub carried_nights : Answers → (ℕ → ℕ) → Contents → Nights
carried_nights says file whole = record {
  whole = whole;
  file = file;
  left = λ night place. is_carried says (at_places (is_gone_over says file whole night) whole) place;
}

-- the nights of the files of a log of texts
abbrev pub nights_of : Answers → (ℕ → ℕ) → List (List ℕ) → Nights
nights_of says file log = carried_nights says file (contents (notes log))

-- These nights are those of the logs that a keeper makes: each night's log has the messages that the night reviews, in
-- their order. Each night leaves enough over, and its report has the places in the whole.
pub record AreNightsOfTexts (says : Answers) (file : ℕ → ℕ) (log : List (List ℕ)) : Type 0 where
  pub texts : (night : ℕ)
      → night_texts says file log night ≡ messages_of (reviewed_part (nights_of says file log) night) 0 log
  pub enough : (last : ℕ) → LeaveEnough says (nights_of says file log) last
  pub reports : (night : ℕ) → night_report says (nights_of says file log) night
      ≡ moved (slice_index (places_of (reviewed_part (nights_of says file log) night) 0 log))
      (report says (night_texts says file log night))

-- the messages of a file stand after those of the files before
abbrev pub NightsOfTexts : Type 0
NightsOfTexts = (says : Answers) (file : ℕ → ℕ) (log : List (List ℕ)) → FilesFollow (nights_of says file log)
    → AreNightsOfTexts says file log

-- the report of a whole log is put together from the reports on the logs that a keeper makes night by night
abbrev pub CarriedNightsAreTheWhole : Type 0
CarriedNightsAreTheWhole =
    (says : Answers) (file : ℕ → ℕ) (log : List (List ℕ)) (last : ℕ)
    → ((place : ℕ) → place < length log → file place ≤ last) → FilesFollow (nights_of says file log)
    → AgreeLater says (nights_of says file log) last
    → IsPutTogether says (nights_of says file log) last (report says log)
