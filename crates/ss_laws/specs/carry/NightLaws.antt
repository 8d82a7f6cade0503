-- Laws on a log that is reviewed night by night.
use Rattle.std.specs.Prelude.{◌≡◌, ◌↔◌, ◌<◌, ◌≤◌, ℕ, true, List, Contains, if◌then◌else◌}
use Rattle.ss_block.specs.declared.hash.Hash.{Hash}
use Rattle.ss_block.specs.declared.session.Session.{Session}
use Rattle.ss_review.specs.keep.BlockMessage.{BlockMessage}
use Rattle.ss_review.specs.keep.Notes.{notes}
use Rattle.ss_review.specs.keep.Contents.{contents}
use Rattle.ss_review.specs.sessions.Sessions.{sessions, of_session}
use Rattle.ss_review.specs.sessions.Verified.{Answers, joined, is_verified}
use Rattle.ss_review.specs.announced.Announced.{Key}
use Rattle.ss_review.specs.announced.Announcing.{Announces}
use Rattle.ss_review.specs.report.Report.{report_of}
use Rattle.ss_laws.specs.parts.Parts.{report_of_part}
use Rattle.ss_laws.specs.carry.Nights.{Nights, is_reviewed, night_log, so_far, AreContents, IsJoined, LeaveEnough}

-- the part 0 of the log is what the night reviews
abbrev pub reviewed_part : Nights → ℕ → ℕ → ℕ
reviewed_part x night place = if is_reviewed x night place then 0 else 1

-- the report on a night's log is that of a log of its own, with the places in the whole
abbrev pub NightsAreLogs : Type 0
NightsAreLogs =
    (says : Answers) (x : Nights) (night : ℕ) (log : List (List ℕ)) → x.whole ≡ contents (notes log)
    → report_of says (night_log x night) ≡ report_of_part says (reviewed_part x night) 0 log

-- the files up to the last night's are the whole, where each place belongs to one of them
abbrev pub FilesAreTheWhole : Type 0
FilesAreTheWhole =
    (x : Nights) (last : ℕ) → AreContents x.whole → ((place : ℕ) → place < x.whole.count → x.file place ≤ last)
    → so_far x last ≡ x.whole

-- each night has the sessions of the files up to its own, and each with the payload or state that it has there
abbrev pub StatesOfNights : Type 0
StatesOfNights =
    (says : Answers) (x : Nights) (last : ℕ) → AreContents x.whole → LeaveEnough says x last
    → (sessions (night_log x last).blocks ≡ sessions (so_far x last).blocks)
    × ((s : Session)
    → joined says (of_session (night_log x last).blocks s) ≡ joined says (of_session (so_far x last).blocks s))

-- A hash is announced for a key in the files up to that of a night exactly under two conditions: the session is joined
-- there, and some night up to this one announced it.
abbrev pub AnnouncedOfNights : Type 0
AnnouncedOfNights =
    (says : Answers) (x : Nights) (last : ℕ) → AreContents x.whole → LeaveEnough says x last → (k : Key) (h : Hash)
    → Announces says (so_far x last).blocks k h
    ↔ (IsJoined says (so_far x last).blocks k.session
    × ((night : ℕ) × (night ≤ last) × Announces says (night_log x night).blocks k h))

-- what a night verified is verified in each later night that reviews it, if its session is joined in the end
abbrev pub VerifiedStays : Type 0
VerifiedStays =
    (says : Answers) (x : Nights) (last : ℕ) → AreContents x.whole → LeaveEnough says x last
    → (night later : ℕ) (b : BlockMessage)
    → night ≤ later → later ≤ last → Contains (night_log x night).blocks b → Contains (night_log x later).blocks b
    → is_verified says (night_log x night).blocks b ≡ true → IsJoined says (night_log x last).blocks b.session
    → is_verified says (night_log x later).blocks b ≡ true
