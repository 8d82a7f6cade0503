-- Laws on the parts of a log.
use Rattle.std.specs.Prelude.{◌≡◌, ◌↔◌, ℕ, List, map, Contains}
use Rattle.std.specs.List.{list_all, range_with_len}
use Rattle.ss_block.specs.declared.hash.Hash.{Hash}
use Rattle.ss_block.specs.declared.session.Session.{Session}
use Rattle.ss_review.specs.keep.BlockMessage.{BlockMessage}
use Rattle.ss_review.specs.keep.Notes.{notes}
use Rattle.ss_review.specs.keep.Contents.{Contents, contents}
use Rattle.ss_review.specs.sessions.Sessions.{sessions, of_session}
use Rattle.ss_review.specs.sessions.Verified.{Answers, joined, is_verified}
use Rattle.ss_review.specs.announced.Announced.{Key, rows}
use Rattle.ss_review.specs.announced.Announcing.{Announces}
use Rattle.ss_review.specs.assign.Assigned.{assigned}
use Rattle.ss_review.specs.report.Report.{session_report, report}
use Rattle.ss_review.specs.report.Verdict.{is_clean}
use Rattle.ss_laws.specs.parts.Parts.{
  blocks_of,
  part_of,
  SessionsStayWhole,
  AnnouncedStayWithBlocks,
  AreParts,
  together,
  messages_of,
  report_of_part,
}

-- ---- sessions

-- the session has the payload or state, the verified blocks and the announced hashes of the whole
pub record HasItsBlocks (says : Answers) (whole own : List BlockMessage) (s : Session) : Type 0 where
  pub joined : joined says (of_session own s) ≡ joined says (of_session whole s)
  pub verified : (b : BlockMessage) → Contains own b → b.session ≡ s
      → is_verified says own b ≡ is_verified says whole b
  pub announced : (k : Key) (h : Hash) → k.session ≡ s → Announces says own k h ↔ Announces says whole k h

-- each session is one of the part of its blocks, and of no other, and has all of them there
abbrev pub SessionsOfParts : Type 0
SessionsOfParts =
    (says : Answers) (bs : List BlockMessage) (part : ℕ → ℕ) → SessionsStayWhole part bs
    → ((b : BlockMessage) → Contains bs b → Contains (sessions (blocks_of part (part b.place) bs)) b.session)
    × ((k j : ℕ) (s : Session) → Contains (sessions (blocks_of part k bs)) s
    → Contains (sessions (blocks_of part j bs)) s → k ≡ j)
    × ((k : ℕ) (s : Session) → Contains (sessions (blocks_of part k bs)) s
    → HasItsBlocks says bs (blocks_of part k bs) s)

-- ---- messages

-- a number of a session of a part is assigned the place that it is in the whole
abbrev pub NumbersOfParts : Type 0
NumbersOfParts =
    (says : Answers) (log : Contents) (part : ℕ → ℕ)
    → SessionsStayWhole part log.blocks → AnnouncedStayWithBlocks says part log
    → (k : ℕ) (j : Key) → Contains (sessions (blocks_of part k log.blocks)) j.session
    → assigned (part_of part k log).normal (rows says (part_of part k log).blocks) j
    ≡ assigned log.normal (rows says log.blocks) j

-- a part reports the same of its sessions as the whole
abbrev pub SessionReportsOfParts : Type 0
SessionReportsOfParts =
    (says : Answers) (log : Contents) (part : ℕ → ℕ)
    → SessionsStayWhole part log.blocks → AnnouncedStayWithBlocks says part log
    → (k : ℕ) (s : Session) → Contains (sessions (blocks_of part k log.blocks)) s
    → session_report says (part_of part k log) (rows says (part_of part k log).blocks) s
    ≡ session_report says log (rows says log.blocks) s

-- ---- reports

-- the report of a log is the reports of its parts put together, with the places that they have in the whole
abbrev pub PartsAddUp : Type 0
PartsAddUp =
    (says : Answers) (log : List (List ℕ)) (part : ℕ → ℕ) (parts : ℕ)
    → AreParts says (contents (notes log)) part parts
    → report says log ≡ together (map (λ k. report_of_part says part k log) (range_with_len 0 parts))

-- it is clean exactly where the report of each part is
abbrev pub CleanWherePartsAre : Type 0
CleanWherePartsAre =
    (says : Answers) (log : List (List ℕ)) (part : ℕ → ℕ) (parts : ℕ)
    → AreParts says (contents (notes log)) part parts
    → is_clean (report says log)
    ≡ list_all (λ k. is_clean (report says (messages_of part k log))) (range_with_len 0 parts)
