-- The report of a whole log, put together from the reports of its nights.
use Rattle.std.specs.Prelude.{◌≡◌, ◌↔◌, ◌⊎◌, ◌+◌, ◌<◌, ◌≤◌, ◌==◌, ◌&&◌, ℕ, true, false, List, map, count_by, Contains}
use Rattle.std.specs.Prelude.{Some}
use Rattle.std.specs.List.{sum_by, list_any, range_with_len}
use Rattle.ss_block.specs.declared.block.Group.{Group}
use Rattle.ss_block.specs.declared.hash.Hash.{Hash}
use Rattle.ss_block.specs.declared.hash.HashPair.{HashPair}
use Rattle.ss_block.specs.declared.session.Session.{Session}
use Rattle.ss_review.specs.declared.keep.spoilt.SpoiltPlace.{SpoiltPlace}
use Rattle.ss_review.specs.declared.report.entry.Why.{Why}
use Rattle.ss_review.specs.declared.report.entry.Entry.TheVariants as entry
use Rattle.ss_review.specs.declared.report.session_report.SessionReport.{SessionReport}
use Rattle.ss_review.specs.declared.report.session_report.SessionState.{SessionState}
use Rattle.ss_review.specs.declared.report.report.Report.{Report}
use Rattle.ss_review.specs.keep.Notes.{notes}
use Rattle.ss_review.specs.keep.Contents.{Contents, contents}
use Rattle.ss_review.specs.sessions.Verified.{Answers}
use Rattle.ss_review.specs.announced.Announced.{Key}
use Rattle.ss_review.specs.assign.Assigned.{has_hash, same_pair}
use Rattle.ss_review.specs.announced.Announcing.{Announces}
use Rattle.ss_review.specs.report.Meaning.{IsHole, Tells, IsListed, IsGap, IsTold}
use Rattle.ss_review.specs.report.Report.{report_of, report}
use Rattle.ss_laws.specs.carry.Nights.{Nights, night_log, so_far, AreContents, IsJoined, listed, LeaveEnough}
use Rattle.ss_laws.specs.carry.Nights.{IsSettledBefore, HasPair}
use Rattle.ss_laws.specs.carry.Together.{FilesFollow, AgreeLater, IsSettledWith, left_count}

-- ---- reports

-- the report on what a night reviews, with the places in the whole
abbrev pub night_report : Answers → Nights → ℕ → Report
night_report says x night = report_of says (night_log x night)

-- each session with its state
abbrev pub states_told : Report → List (Session × SessionState)
states_told r = map (λ (s : SessionReport). (s.session, s.state)) r.sessions

-- the report lists the number with a message of these hashes
abbrev pub ListsWith : Contents → Report → Key → HashPair → Type 0
ListsWith log r k p = (place : ℕ) × IsListed r k place × HasPair log place p

-- how many messages with these hashes the report calls unlisted
abbrev pub unlisted_in : Contents → Report → HashPair → ℕ
unlisted_in log r p = count_by (λ m. same_pair m.pair p && list_any (λ place. place == m.place) r.unlisted) log.normal

-- what a night settles it lists in its report
abbrev pub SettledAreListed : Type 0
SettledAreListed =
    (says : Answers) (x : Nights) (night : ℕ) (k : Key) (place : ℕ)
    → (listed says (night_log x night) k ≡ Some place) ↔ IsListed (night_report says x night) k place

-- If one review of all files so far joins a session, it has a hash announced for each number of it that a night lists:
-- a hash of the listed message.
abbrev pub ListedAreAnnounced : Type 0
ListedAreAnnounced =
    (says : Answers) (x : Nights) (last : ℕ) → AreContents x.whole → LeaveEnough says x last
    → (night : ℕ) (k : Key) (place : ℕ) (p : HashPair) → night ≤ last → IsListed (night_report says x night) k place
    → HasPair x.whole place p → IsJoined says (so_far x last).blocks k.session
    → (h : Hash) × Announces says (so_far x last).blocks k h × (has_hash h p ≡ true)

-- ---- one report of all

-- the report is that of the nights up to the last one together
pub record IsPutTogether (says : Answers) (x : Nights) (last : ℕ) (r : Report) : Type 0 where
  -- sessions and states are those of the last report
  pub states : states_told r ≡ states_told (night_report says x last)
  -- listed numbers are those of the last report and those settled before, with equal messages
  pub listed : (k : Key) (p : HashPair)
      → ListsWith x.whole r k p ↔ (ListsWith x.whole (night_report says x last) k p ⊎ IsSettledWith says x last k p)
  -- gaps are those of the last report but for settled numbers
  pub gaps : (k : Key) (why : Why)
      → IsGap r k why ↔ (IsGap (night_report says x last) k why × (¬ IsSettledBefore says x last k))
  -- holes are the numbers, below one that is reported or settled, that aren't
  pub holes : (s : Session) (g : Group) (from to : ℕ) → Tells r s g (entry.Hole from to)
      ↔ IsHole (λ n. IsTold (night_report says x last) (record { session = s; group = g; number = n })
      ⊎ IsSettledBefore says x last (record { session = s; group = g; number = n })) from to
  -- of equal messages as many are unlisted as in the last report
  pub unlisted : (p : HashPair) → unlisted_in x.whole r p ≡ unlisted_in x.whole (night_report says x last) p
  -- refused blocks are those of the last report, and those that each night before refused and left behind
  pub refused : (place : ℕ) → Contains r.refused place
      ↔ (Contains (night_report says x last).refused place
      ⊎ ((night : ℕ) × (night < last) × Contains (night_report says x night).refused place
      × (x.left night place ≡ false)))
  -- spoilt messages are those of all reports
  pub spoilt : (s : SpoiltPlace)
      → Contains r.spoilt s ↔ ((night : ℕ) × (night ≤ last) × Contains (night_report says x night).spoilt s)
  -- the count is that of all reports, less what was left over
  pub count : r.count + sum_by (left_count x) (range_with_len 0 last)
      ≡ sum_by (λ night. (night_report says x night).count) (range_with_len 0 (last + 1))

-- of a whole log in files up to the last night's: its report is put together from those of the nights
abbrev pub NightsAreTheWhole : Type 0
NightsAreTheWhole =
    (says : Answers) (x : Nights) (last : ℕ) (log : List (List ℕ)) → x.whole ≡ contents (notes log)
    → ((place : ℕ) → place < x.whole.count → x.file place ≤ last) → FilesFollow x → LeaveEnough says x last
    → AgreeLater says x last
    → IsPutTogether says x last (report says log)
