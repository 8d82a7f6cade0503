-- Nights of which each has a scheme of its own: what its answers file says.
use Rattle.std.specs.Prelude.{◌≡◌, ◌↔◌, ◌⊎◌, ◌+◌, ◌<◌, ◌≤◌, ℕ, zero, suc, false, List, ◌++◌, length, Contains, slice_index}
use Rattle.std.specs.List.{sum_by, range_with_len}
use Rattle.ss_block.specs.declared.block.Group.{Group}
use Rattle.ss_block.specs.declared.hash.HashPair.{HashPair}
use Rattle.ss_block.specs.declared.session.Session.{Session}
use Rattle.ss_review.specs.keep.BlockMessage.{BlockMessage}
use Rattle.ss_review.specs.declared.keep.spoilt.SpoiltPlace.{SpoiltPlace}
use Rattle.ss_review.specs.declared.questions.question.Question.{Question}
use Rattle.ss_review.specs.declared.report.entry.Why.{Why}
use Rattle.ss_review.specs.declared.report.entry.Entry.TheVariants as entry
use Rattle.ss_review.specs.declared.report.report.Report.{Report}
use Rattle.ss_review.specs.keep.Notes.{notes}
use Rattle.ss_review.specs.keep.Contents.{blocks, contents}
use Rattle.ss_review.specs.sessions.Verified.{Answers}
use Rattle.ss_review.specs.announced.Announced.{Key}
use Rattle.ss_review.specs.questions.Questions.{questions, answer}
use Rattle.ss_review.specs.counted.Kept.{kept_gbc, kept_number}
use Rattle.ss_review.specs.counted.KeptLaws.{log_counters}
use Rattle.ss_review.specs.report.Meaning.{IsHole, Tells, IsGap, IsTold}
use Rattle.ss_review.specs.report.Report.{report}
use Rattle.ss_laws.specs.parts.Parts.{moved, messages_of, places_of}
use Rattle.ss_laws.specs.carry.Nights.{Nights, night_log, IsJoined, LeavesEnough, IsSettled, HasPair}
use Rattle.ss_laws.specs.carry.NightLaws.{reviewed_part}
use Rattle.ss_laws.specs.carry.Reports.{night_report, states_told, ListsWith, unlisted_in}
use Rattle.ss_laws.specs.carry.Together.{FilesFollow, AgreeLater, left_count}
use Rattle.ss_laws.specs.carry.CarriedNights.{carried_texts, night_texts, nights_of}
use Rattle.ss_laws.specs.carry.NightCounters.{night_counters, greatest_of_nights}

-- ---- the premise

-- two schemes answer alike all that a review of these blocks asks
abbrev pub AgreeOn : Answers → Answers → List BlockMessage → Type 0
AgreeOn says own bs = (q : Question) → Contains (questions bs) q → answer says q ≡ answer own q

-- the scheme of each night up to the last one answers as this scheme does what the review of that night asks
abbrev pub AgreeOnNights : Answers → (ℕ → Answers) → Nights → ℕ → Type 0
AgreeOnNights says own x last = (night : ℕ) → night ≤ last → AgreeOn says (own night) (night_log x night).blocks

-- ---- what is the same

-- the report on a night by its own scheme
abbrev pub own_report : (ℕ → Answers) → Nights → ℕ → Report
own_report own x night = night_report (own night) x night

-- a night reports, counts, leaves over and settles by its own scheme what it does by this one
pub record AreAlike (says own : Answers) (x : Nights) (night : ℕ) : Type 0 where
  pub report : night_report own x night ≡ night_report says x night
  pub counters : night_counters own x night ≡ night_counters says x night
  pub joined : (s : Session) → IsJoined own (night_log x night).blocks s ↔ IsJoined says (night_log x night).blocks s
  pub enough : LeavesEnough own (night_log x night) (x.left night) ↔ LeavesEnough says (night_log x night) (x.left night)
  pub settled : (k : Key) (place : ℕ) → IsSettled own x night k place ↔ IsSettled says x night k place

abbrev pub NightsByOwnAnswers : Type 0
NightsByOwnAnswers =
    (says : Answers) (own : ℕ → Answers) (x : Nights) (last : ℕ) → AgreeOnNights says own x last
    → (night : ℕ) → night ≤ last → AreAlike says (own night) x night

-- ---- the whole, from reports by own schemes

-- each night before this one leaves enough, by its own scheme
abbrev pub LeaveEnoughByOwn : (ℕ → Answers) → Nights → ℕ → Type 0
LeaveEnoughByOwn own x last = (night : ℕ) → night < last → LeavesEnough (own night) (night_log x night) (x.left night)

-- some night before this one settled the key, by its own scheme
abbrev pub IsSettledByOwn : (ℕ → Answers) → Nights → ℕ → Key → Type 0
IsSettledByOwn own x last k = (night : ℕ) × (place : ℕ) × (night < last) × IsSettled (own night) x night k place

-- and with a message of these hashes
abbrev pub IsSettledByOwnWith : (ℕ → Answers) → Nights → ℕ → Key → HashPair → Type 0
IsSettledByOwnWith own x last k p =
    (night : ℕ) × (place : ℕ) × (night < last) × IsSettled (own night) x night k place × HasPair x.whole place p

-- The report is that of the nights up to the last one together, each by its own scheme: `IsPutTogether`
-- with the report on each night by the scheme of that night.
pub record IsPutTogetherByOwn (own : ℕ → Answers) (x : Nights) (last : ℕ) (r : Report) : Type 0 where
  pub states : states_told r ≡ states_told (own_report own x last)
  pub listed : (k : Key) (p : HashPair)
      → ListsWith x.whole r k p ↔ (ListsWith x.whole (own_report own x last) k p ⊎ IsSettledByOwnWith own x last k p)
  pub gaps : (k : Key) (why : Why)
      → IsGap r k why ↔ (IsGap (own_report own x last) k why × (¬ IsSettledByOwn own x last k))
  pub holes : (s : Session) (g : Group) (from to : ℕ) → Tells r s g (entry.Hole from to)
      ↔ IsHole (λ n. IsTold (own_report own x last) (record { session = s; group = g; number = n })
      ⊎ IsSettledByOwn own x last (record { session = s; group = g; number = n })) from to
  pub unlisted : (p : HashPair) → unlisted_in x.whole r p ≡ unlisted_in x.whole (own_report own x last) p
  pub refused : (place : ℕ) → Contains r.refused place
      ↔ (Contains (own_report own x last).refused place
      ⊎ ((night : ℕ) × (night < last) × Contains (own_report own x night).refused place
      × (x.left night place ≡ false)))
  pub spoilt : (s : SpoiltPlace)
      → Contains r.spoilt s ↔ ((night : ℕ) × (night ≤ last) × Contains (own_report own x night).spoilt s)
  pub count : r.count + sum_by (left_count x) (range_with_len 0 last)
      ≡ sum_by (λ night. (own_report own x night).count) (range_with_len 0 (last + 1))

-- the report of a whole log is put together from those of its nights, each by a scheme of its own
abbrev pub OwnNightsAreTheWhole : Type 0
OwnNightsAreTheWhole =
    (says : Answers) (own : ℕ → Answers) (x : Nights) (last : ℕ) (log : List (List ℕ)) → x.whole ≡ contents (notes log)
    → ((place : ℕ) → place < x.whole.count → x.file place ≤ last) → FilesFollow x
    → AgreeOnNights says own x last → LeaveEnoughByOwn own x last → AgreeLater says x last
    → IsPutTogetherByOwn own x last (report says log)

-- ---- the logs that a keeper makes

-- The log of a night, where what is carried over of the log of the night before is so by the answers of that night.
abbrev pub own_texts : (ℕ → Answers) → (ℕ → ℕ) → List (List ℕ) → ℕ → List (List ℕ)
own_texts own file log zero = messages_of file zero log
own_texts own file log (suc night) =
    carried_texts (own night) (own_texts own file log night) ++ messages_of file (suc night) log

-- the scheme of each night up to the last one answers as this scheme does what the review of that night's log asks
abbrev pub AgreeOnLogs : Answers → (ℕ → Answers) → (ℕ → ℕ) → List (List ℕ) → ℕ → Type 0
AgreeOnLogs says own file log last =
    (night : ℕ) → night ≤ last → AgreeOn says (own night) (blocks (notes (own_texts own file log night)))

-- the log of a night, its report and its counters, by the schemes of the nights and by one scheme
pub record AreAlikeLogs (says : Answers) (own : ℕ → Answers) (file : ℕ → ℕ) (log : List (List ℕ)) (night : ℕ) : Type 0 where
  pub texts : own_texts own file log night ≡ night_texts says file log night
  pub reports : report (own night) (own_texts own file log night) ≡ report says (night_texts says file log night)
  pub counters : log_counters (own night) (own_texts own file log night)
      ≡ log_counters says (night_texts says file log night)

abbrev pub OwnLogsAreAlike : Type 0
OwnLogsAreAlike =
    (says : Answers) (own : ℕ → Answers) (file : ℕ → ℕ) (log : List (List ℕ)) (last : ℕ)
    → AgreeOnLogs says own file log last
    → (night : ℕ) → night ≤ last → AreAlikeLogs says own file log night

-- the report on a keeper's log of a night, with the places in the whole
abbrev pub placed_report : (ℕ → Answers) → Nights → (ℕ → ℕ) → List (List ℕ) → ℕ → Report
placed_report own x file log night =
    moved (slice_index (places_of (reviewed_part x night) 0 log)) (report (own night) (own_texts own file log night))

-- The reports on the logs that a keeper makes are those of the nights, and the report of the whole log is put together
-- from them.
pub record IsPutTogetherOfOwnLogs (says : Answers) (own : ℕ → Answers) (file : ℕ → ℕ) (log : List (List ℕ)) (last : ℕ) : Type 0 where
  pub reports : (night : ℕ) → night ≤ last → own_report own (nights_of says file log) night
      ≡ placed_report own (nights_of says file log) file log night
  pub together : IsPutTogetherByOwn own (nights_of says file log) last (report says log)

abbrev pub OwnLogsAreTheWhole : Type 0
OwnLogsAreTheWhole =
    (says : Answers) (own : ℕ → Answers) (file : ℕ → ℕ) (log : List (List ℕ)) (last : ℕ)
    → ((place : ℕ) → place < length log → file place ≤ last) → FilesFollow (nights_of says file log)
    → AgreeOnLogs says own file log last → AgreeLater says (nights_of says file log) last
    → IsPutTogetherOfOwnLogs says own file log last

-- The counters of a whole log by the one scheme say of a session the greatest that those of the logs of its nights say
-- of it, each by its own scheme.
pub record AreGreatestByOwn (says : Answers) (own : ℕ → Answers) (file : ℕ → ℕ) (log : List (List ℕ)) (last : ℕ) (s : Session) : Type 0 where
  pub gbc : kept_gbc (log_counters says log) s
      ≡ greatest_of_nights last (λ night. kept_gbc (log_counters (own night) (own_texts own file log night)) s)
  pub number : (g : Group) → kept_number (log_counters says log) s g
      ≡ greatest_of_nights last (λ night. kept_number (log_counters (own night) (own_texts own file log night)) s g)

abbrev pub CountersByOwnAnswers : Type 0
CountersByOwnAnswers =
    (says : Answers) (own : ℕ → Answers) (file : ℕ → ℕ) (log : List (List ℕ)) (last : ℕ)
    → ((place : ℕ) → place < length log → file place ≤ last) → FilesFollow (nights_of says file log)
    → AgreeOnLogs says own file log last
    → (s : Session) → IsJoined says (blocks (notes log)) s → AreGreatestByOwn says own file log last s
