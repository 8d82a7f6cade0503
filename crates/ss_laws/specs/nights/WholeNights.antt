-- The logs of clean nights, one after another.
use Rattle.std.specs.Prelude.{◌≡◌, ℕ, true, Some, Ok, List, [], flat_map, Contains}
use Rattle.ss_block.specs.declared.hash.Hash.{Hash}
use Rattle.ss_block.specs.declared.session.Session.{Session}
use Rattle.ss_review.specs.declared.keep.message.NormalMessage.{NormalMessage}
use Rattle.ss_review.specs.keep.Notes.{notes}
use Rattle.ss_review.specs.keep.Contents.{normals, blocks}
use Rattle.ss_review.specs.sessions.Sessions.{of_session}
use Rattle.ss_review.specs.sessions.Verified.{Answers, joined}
use Rattle.ss_review.specs.assign.Assigned.{has_hash}
use Rattle.ss_review.specs.report.Report.{report}
use Rattle.ss_review.specs.report.Verdict.{is_clean}
use Rattle.ss_review.specs.counted.KeptLaws.{shortfalls_of, NothingIsMissing}
use Rattle.ss_laws.specs.nights.Night.{night_report}
use Rattle.ss_laws.specs.nights.CleanLaws.{Night, IsCleanNight, AreCleanNights, last_end}

-- the logs of the nights, one after another
abbrev pub logs_of : List Night → List (List ℕ)
logs_of ns = flat_map (λ n. n.log) ns

-- ---- premises

-- the log of the night joins the session under the payload
abbrev pub IsJoinedUnder : Answers → Night → Session → List ℕ → Type 0
IsJoinedUnder says n s payload = joined says (of_session (blocks (notes n.log)) s) ≡ Ok payload

-- no two nights join a session under different payloads
abbrev pub HaveOnePayload : Answers → List Night → Type 0
HaveOnePayload says ns =
    (n m : Night) (s : Session) (payload other : List ℕ) → Contains ns n → Contains ns m
    → IsJoinedUnder says n s payload → IsJoinedUnder says m s other → payload ≡ other

-- no two messages without a block, of any of the logs, have one hash and differ in the other
abbrev pub HaveNoTwins : List Night → Type 0
HaveNoTwins ns =
    (n m : Night) (a b : NormalMessage) (h : Hash) → Contains ns n → Contains ns m
    → Contains (normals (notes n.log)) a → Contains (normals (notes m.log)) b
    → has_hash h a.pair ≡ true → has_hash h b.pair ≡ true → a.pair ≡ b.pair

-- ---- what holds of clean nights

-- The log of all nights is clean, and nothing is missing of it up to the counters at which the last one ends. It is a
-- clean night up to these.
pub record AreCleanTogether (says : Answers) (ns : List Night) : Type 0 where
  pub clean : is_clean (report says (logs_of ns)) ≡ true
  pub nothing_missing : NothingIsMissing (shortfalls_of says (logs_of ns) (last_end [] ns))
  pub night : IsCleanNight (report says (logs_of ns)) (night_report says (logs_of ns) [] (Some (last_end [] ns)))

abbrev pub WholeNightsAreClean : Type 0
WholeNightsAreClean =
    (says : Answers) (ns : List Night)
    → AreCleanNights says [] ns → HaveOnePayload says ns → HaveNoTwins ns
    → AreCleanTogether says ns
