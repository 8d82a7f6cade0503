-- The counters that reviews of the parts of a log give, against those of the whole.
use Rattle.std.specs.Prelude.{◌≡◌, ◌↔◌, ◌⊎◌, ℕ, ◌<◌, List, ◌++◌, flat_map, Option, Contains}
use Rattle.std.specs.List.{range_with_len}
use Rattle.ss_block.specs.declared.session.Session.{Session}
use Rattle.ss_review.specs.declared.counted.counted_session.CountedSession.{CountedSession}
use Rattle.ss_review.specs.declared.counted.counter.Counter.{Counter}
use Rattle.ss_review.specs.keep.BlockMessage.{BlockMessage}
use Rattle.ss_review.specs.declared.report.session_report.SessionReport.{SessionReport}
use Rattle.ss_review.specs.keep.Notes.{notes}
use Rattle.ss_review.specs.keep.Contents.{blocks, contents}
use Rattle.ss_review.specs.sessions.Sessions.{sessions}
use Rattle.ss_review.specs.sessions.Verified.{Answers}
use Rattle.ss_review.specs.counted.Kept.{counters_of, kept_sessions, log_shortfalls}
use Rattle.ss_review.specs.counted.KeptLaws.{counters_given}
use Rattle.ss_review.specs.pinned.Pinned.{counted_by, report_by}
use Rattle.ss_laws.specs.parts.Parts.{SessionsStayWhole, blocks_of, messages_of}

-- ---- what a cut has to keep

-- each block belongs to one of the parts, and all blocks of a session to the same one
pub record AreBlockParts (bs : List BlockMessage) (part : ℕ → ℕ) (parts : ℕ) : Type 0 where
  pub within : (b : BlockMessage) → Contains bs b → part b.place < parts
  pub sessions : SessionsStayWhole part bs

-- ---- counters

-- the counters that a review of a log gives, by the payloads that are known beforehand, or without any
abbrev pub counters_by : Option (List (List ℕ)) → Answers → List (List ℕ) → List Counter
counters_by known says log =
    counters_given (report_by known says (contents (notes log))).sessions (counted_by known says (blocks (notes log)))

-- those that reviews of its parts give, one part after the other
abbrev pub counters_of_parts : Option (List (List ℕ)) → Answers → (ℕ → ℕ) → (parts : ℕ) → List (List ℕ) → List Counter
counters_of_parts known says part parts log =
    flat_map (λ k. counters_by known says (messages_of part k log)) (range_with_len 0 parts)

-- counters by their sessions, and those of each session in the order in which they stand
abbrev pub by_session : List Counter → List Counter
by_session cs = flat_map (counters_of cs) (kept_sessions cs)

-- ---- laws

-- The counters of a log are those of its parts put together.
abbrev pub CountersAddUp : Type 0
CountersAddUp =
    (known : Option (List (List ℕ))) (says : Answers) (log : List (List ℕ)) (part : ℕ → ℕ) (parts : ℕ)
    → AreBlockParts (blocks (notes log)) part parts
    → counters_by known says log ≡ by_session (counters_of_parts known says part parts log)

-- A session of a part has the counters there that it has in the whole.
abbrev pub SessionCountersOfParts : Type 0
SessionCountersOfParts =
    (known : Option (List (List ℕ))) (says : Answers) (log : List (List ℕ)) (part : ℕ → ℕ)
    → SessionsStayWhole part (blocks (notes log))
    → (k : ℕ) (s : Session) → Contains (sessions (blocks_of part k (blocks (notes log)))) s
    → counters_of (counters_by known says (messages_of part k log)) s ≡ counters_of (counters_by known says log) s

-- Some counters are others and those of the parts, in any order. Up to them, the same is missing of each log as up to the
-- others and those of the whole.
abbrev pub CountersAreReadAlike : Type 0
CountersAreReadAlike =
    (known : Option (List (List ℕ))) (says : Answers) (log : List (List ℕ)) (part : ℕ → ℕ) (parts : ℕ)
    → AreBlockParts (blocks (notes log)) part parts
    → (cs others : List Counter)
    → ((c : Counter)
    → Contains cs c ↔ (Contains others c ⊎ Contains (counters_of_parts known says part parts log) c))
    → (reported : List SessionReport) (counted : List CountedSession)
    → log_shortfalls cs reported counted ≡ log_shortfalls (others ++ counters_by known says log) reported counted
