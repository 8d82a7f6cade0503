-- What the nights up to one of them say together, and which premises hold then.
use Rattle.std.specs.Prelude.{◌≡◌, ◌+◌, ◌<◌, ◌≤◌, ℕ, nat_le, List, ◌++◌, length, if◌then◌else◌}
use Rattle.ss_review.specs.keep.Notes.{notes}
use Rattle.ss_review.specs.keep.Contents.{contents}
use Rattle.ss_review.specs.sessions.Verified.{Answers}
use Rattle.ss_review.specs.report.Report.{report_of, report}
use Rattle.ss_laws.specs.parts.Parts.{report_of_part}
use Rattle.ss_laws.specs.carry.Nights.{Nights, so_far, AreContents, LeaveEnough}
use Rattle.ss_laws.specs.carry.Reports.{IsPutTogether}
use Rattle.ss_laws.specs.carry.Together.{FilesFollow, JoinedStay, HashesStay, NoneListedAgain, LostStandBehind, NoOtherWanted, AgreeLater}
use Rattle.ss_laws.specs.carry.CarriedNights.{night_texts, nights_of}

-- ---- the files up to a night's

-- the report of one review of the files up to that of a night is put together from those of the nights up to it
abbrev pub NightsSoFar : Type 0
NightsSoFar =
    (says : Answers) (x : Nights) (night : ℕ) → AreContents x.whole → FilesFollow x → LeaveEnough says x night
    → AgreeLater says x night
    → IsPutTogether says x night (report_of says (so_far x night))

-- the part 0 of the log is the files up to that of the night
abbrev pub part_so_far : (ℕ → ℕ) → ℕ → ℕ → ℕ
part_so_far file night place = if nat_le (file place) night then 0 else 1

-- the report on these files is that of a log of its own, with the places in the whole
abbrev pub FilesSoFarAreLogs : Type 0
FilesSoFarAreLogs =
    (says : Answers) (x : Nights) (night : ℕ) (log : List (List ℕ)) → x.whole ≡ contents (notes log)
    → report_of says (so_far x night) ≡ report_of_part says (part_so_far x.file night) 0 log

-- the same of the logs that a keeper makes, and of the files up to the night's as a log of its own
abbrev pub CarriedNightsSoFar : Type 0
CarriedNightsSoFar =
    (says : Answers) (file : ℕ → ℕ) (log : List (List ℕ)) (night : ℕ) → FilesFollow (nights_of says file log)
    → AgreeLater says (nights_of says file log) night
    → IsPutTogether says (nights_of says file log) night (report_of_part says (part_so_far file night) 0 log)

-- ---- files that come later

-- the places from the end of a log on belong to files after that of the night
abbrev pub BelongLater : (ℕ → ℕ) → (log later : List (List ℕ)) → ℕ → Type 0
BelongLater file log later last =
    (place : ℕ) → length log ≤ place → place < length log + length later → last < file place

-- the logs that a keeper made up to a night are the same, whatever comes after it
abbrev pub LaterFilesChangeNoNight : Type 0
LaterFilesChangeNoNight =
    (says : Answers) (file : ℕ → ℕ) (log later : List (List ℕ)) (last : ℕ) → BelongLater file log later last
    → (night : ℕ) → night ≤ last → night_texts says file (log ++ later) night ≡ night_texts says file log night

-- These logs are those of the nights of the log up to then, and its report is put together from theirs.
pub record IsPutTogetherBefore (says : Answers) (file : ℕ → ℕ) (log later : List (List ℕ)) (last : ℕ) : Type 0 where
  pub texts : (night : ℕ) → night ≤ last
      → night_texts says file (log ++ later) night ≡ night_texts says file log night
  pub together : IsPutTogether says (nights_of says file log) last (report says log)

-- so the nights up to an earlier one say together what one review of the log up to then says, if the premises hold of it
abbrev pub EarlierNightsAreTheWhole : Type 0
EarlierNightsAreTheWhole =
    (says : Answers) (file : ℕ → ℕ) (log later : List (List ℕ)) (last : ℕ)
    → ((place : ℕ) → place < length log → file place ≤ last) → BelongLater file log later last
    → FilesFollow (nights_of says file log) → AgreeLater says (nights_of says file log) last
    → IsPutTogetherBefore says file log later last

-- ---- the premises of a night before the last one

-- all premises up to a night, except that on lost numbers
pub record AgreeButLost (says : Answers) (x : Nights) (night : ℕ) : Type 0 where
  pub joined : JoinedStay says x night
  pub hash : HashesStay says x night
  pub again : NoneListedAgain says x night
  pub collision : NoOtherWanted says x night

-- they hold of each night before, if they hold in the end
abbrev pub AgreeBefore : Type 0
AgreeBefore =
    (says : Answers) (x : Nights) (last : ℕ) → AreContents x.whole → LeaveEnough says x last → AgreeButLost says x last
    → (night : ℕ) → night ≤ last → AgreeButLost says x night

-- so only the premise on lost numbers has to be looked at for each night
abbrev pub EachNightSoFar : Type 0
EachNightSoFar =
    (says : Answers) (x : Nights) (last : ℕ) → AreContents x.whole → FilesFollow x → LeaveEnough says x last
    → AgreeButLost says x last
    → (night : ℕ) → night ≤ last → LostStandBehind says x night
    → IsPutTogether says x night (report_of says (so_far x night))

-- before the second night there is nothing to look at
abbrev pub FirstNightAgrees : Type 0
FirstNightAgrees = (says : Answers) (x : Nights) → AgreeLater says x 0
