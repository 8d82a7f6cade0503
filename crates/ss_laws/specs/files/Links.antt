-- Which text is the link of a signed file, as a review of the file lists it.
use Rattle.std.specs.Prelude.{◌≡◌, ℕ, List, slice_get, Option, Some, Contains}
use Rattle.ss_block.specs.declared.session.Session.{Session}
use Rattle.ss_frame.specs.End.{End}
use Rattle.ss_frame.specs.Limits.{Allowance, InRange}
use Rattle.ss_frame.specs.Stream.{reads}
use Rattle.ss_review.specs.announced.Announced.{Key}
use Rattle.ss_review.specs.declared.report.report.Report.{Report}
use Rattle.ss_review.specs.declared.report.session_report.SessionReport.{SessionReport}
use Rattle.ss_review.specs.declared.report.session_report.SessionState.TheVariants as states
use Rattle.ss_review.specs.keep.Contents.{contents}
use Rattle.ss_review.specs.keep.Notes.{notes}
use Rattle.ss_review.specs.pinned.Pinned.{report_by}
use Rattle.ss_review.specs.report.Meaning.{IsListed}
use Rattle.ss_review.specs.sessions.Verified.{Answers}

-- How files are reviewed: within these limits, and each by payloads that are known beforehand, or without any, and by the
-- answers for it. Its octets decide which ones.
pub record Check : Type 0 where
  pub limits : Allowance
  pub known : List ℕ → Option (List (List ℕ))
  pub says : List ℕ → Answers

-- the report on the log of a file
abbrev pub report_on : Check → List ℕ → List (List ℕ) → Report
report_on c octets log = report_by (c.known octets) (c.says octets) (contents (notes log))

-- the session is joined
pub record Joins (r : Report) (s : Session) : Type 0 where
  pub session : SessionReport
  pub told : Contains r.sessions session
  pub session_is : session.session ≡ s
  pub joined : session.state ≡ states.Joined

-- the number 1 of a session, where all messages are numbered together
abbrev pub first_number : Session → Key
first_number s = record { session = s; group = record { sg = 0; spri = 0 }; number = 1 }

-- The octets are read as a log. Its review joins one session, and lists the text under the number 1 of it.
pub record HasLink (c : Check) (octets link : List ℕ) : Type 0 where
  pub in_range : InRange c.limits.max_len c.limits.max_messages
  pub log : List (List ℕ)
  pub end : End
  pub read : reads c.limits octets log end
  pub session : Session
  pub joined : Joins (report_on c octets log) session
  pub no_other : (other : Session) → Joins (report_on c octets log) other → other ≡ session
  pub place : ℕ
  pub listed : IsListed (report_on c octets log) (first_number session) place
  pub link_is : slice_get log place ≡ Some link
