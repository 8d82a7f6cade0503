-- The counters that the log of each night gives, against those of one review of all files.
use Rattle.std.specs.Prelude.{◌≡◌, ℕ, ◌+◌, ◌<◌, ◌≤◌, max, fold, Bool, true, List, length, map, Contains}
use Rattle.std.specs.List.{range_with_len}
use Rattle.ss_block.specs.declared.block.Group.{Group}
use Rattle.ss_block.specs.declared.session.Session.{Session}
use Rattle.ss_review.specs.declared.counted.counter.Counter.{Counter}
use Rattle.ss_review.specs.keep.BlockMessage.{BlockMessage}
use Rattle.ss_review.specs.keep.Notes.{notes}
use Rattle.ss_review.specs.keep.Contents.{Contents, blocks}
use Rattle.ss_review.specs.sessions.Verified.{Answers}
use Rattle.ss_review.specs.announced.Announcing.{IsAnnounced}
use Rattle.ss_review.specs.report.Report.{report_of}
use Rattle.ss_review.specs.counted.Counted.{counted_sessions}
use Rattle.ss_review.specs.counted.CountedLaws.{IsCounted, IsNext}
use Rattle.ss_review.specs.counted.Kept.{kept_gbc, kept_number}
use Rattle.ss_review.specs.counted.KeptLaws.{counters_given, log_counters}
use Rattle.ss_laws.specs.carry.Nights.{Nights, night_log, so_far, AreContents, IsJoined, HasVerifiedOctet, LeaveEnough}
use Rattle.ss_laws.specs.carry.Together.{FilesFollow}
use Rattle.ss_laws.specs.carry.CarriedNights.{night_texts, nights_of}

-- the counters that a log with these contents gives, which are `log_counters` of a log of texts
abbrev pub counters_in : Answers → Contents → List Counter
counters_in says log = counters_given (report_of says log).sessions (counted_sessions says log.blocks)

-- the counters that the log of a night gives
abbrev pub night_counters : Answers → Nights → ℕ → List Counter
night_counters says x night = counters_in says (night_log x night)

-- the greatest of what the nights up to the last one have
abbrev pub greatest_of_nights : ℕ → (ℕ → ℕ) → ℕ
greatest_of_nights last value = fold max 0 (map value (range_with_len 0 (last + 1)))

-- Counters of a log say one more than the greatest that it has, of the GBC of a session's verified signature blocks and
-- of the announced numbers of a group, and 0 where it has none.
abbrev pub CountersSay : Type 0
CountersSay =
    (says : Answers) (log : Contents) (s : Session)
    → IsNext (IsCounted says log.blocks s) (kept_gbc (counters_in says log) s)
    × ((g : Group) → IsNext (λ n. IsAnnounced says log.blocks (record { session = s; group = g; number = n }))
    (kept_number (counters_in says log) s g))

-- counters say of a session the greatest that those of the nights say of it
pub record AreGreatest (says : Answers) (x : Nights) (last : ℕ) (cs : List Counter) (s : Session) : Type 0 where
  pub gbc : kept_gbc cs s ≡ greatest_of_nights last (λ night. kept_gbc (night_counters says x night) s)
  pub number : (g : Group)
      → kept_number cs s g ≡ greatest_of_nights last (λ night. kept_number (night_counters says x night) s g)

-- What a night has to leave over of a session for the counters of the nights to come: all its blocks, if it isn't joined,
-- and else certificate blocks with all octets that its verified ones have.
pub record LeavesSession (says : Answers) (log : Contents) (left : ℕ → Bool) (s : Session) : Type 0 where
  pub unjudged : (b : BlockMessage) → Contains log.blocks b → b.session ≡ s → ¬ IsJoined says log.blocks s
      → left b.place ≡ true
  pub certificates : (index : ℕ) → HasVerifiedOctet says log.blocks s index
      → (o : HasVerifiedOctet says log.blocks s index) × (left o.message.place ≡ true)

-- each night before this one leaves enough of the session
abbrev pub LeaveSession : Answers → Nights → ℕ → Session → Type 0
LeaveSession says x last s = (night : ℕ) → night < last → LeavesSession says (night_log x night) (x.left night) s

-- what is enough to leave over is enough of each session
abbrev pub EnoughOfSessions : Type 0
EnoughOfSessions =
    (says : Answers) (x : Nights) (last : ℕ) → LeaveEnough says x last → (s : Session) → LeaveSession says x last s

-- One review of all files so far gives the greatest of the nights' counters for a session that it joins.
abbrev pub CountersOfNights : Type 0
CountersOfNights =
    (says : Answers) (x : Nights) (last : ℕ) (s : Session) → AreContents x.whole → LeaveSession says x last s
    → IsJoined says (so_far x last).blocks s
    → AreGreatest says x last (counters_in says (so_far x last)) s

-- ---- the logs that a keeper makes

-- the counters of a whole log say of a session the greatest that those of the logs of its nights say of it
pub record AreGreatestOfLogs (says : Answers) (file : ℕ → ℕ) (log : List (List ℕ)) (last : ℕ) (s : Session) : Type 0 where
  pub gbc : kept_gbc (log_counters says log) s
      ≡ greatest_of_nights last (λ night. kept_gbc (log_counters says (night_texts says file log night)) s)
  pub number : (g : Group) → kept_number (log_counters says log) s g
      ≡ greatest_of_nights last (λ night. kept_number (log_counters says (night_texts says file log night)) s g)

-- the same of a log of texts, in files up to the last night's, of which a keeper makes the logs of the nights
abbrev pub CountersOfCarriedNights : Type 0
CountersOfCarriedNights =
    (says : Answers) (file : ℕ → ℕ) (log : List (List ℕ)) (last : ℕ)
    → ((place : ℕ) → place < length log → file place ≤ last) → FilesFollow (nights_of says file log)
    → (s : Session) → IsJoined says (blocks (notes log)) s → AreGreatestOfLogs says file log last s
