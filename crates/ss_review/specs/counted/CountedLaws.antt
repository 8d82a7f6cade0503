-- Which signature blocks are there and which are missing, by membership, and what holds of them in every log.
use Rattle.std.specs.Prelude.{◌≡◌, ◌↔◌, ◌⊎◌, ℕ, ◌+◌, ◌<◌, ◌≤◌, true, List, All, Contains}
use Rattle.std.specs.List.{AllPairs}
use Rattle.std.specs.List.Sorted.{IsStrictlySortedBy}
use Rattle.std.specs.Ordering.{nat_cmp}
use Rattle.ss_block.specs.declared.session.Session.{Session}
use Rattle.ss_block.specs.Block as block
use Rattle.ss_block.specs.Ranges.{last_number, past_last_number}
use Rattle.ss_review.specs.keep.BlockMessage.{BlockMessage, Hashes}
use Rattle.ss_review.specs.declared.counted.counted_session.CountedSession.{CountedSession}
use Rattle.ss_review.specs.declared.counted.missing.MissingRun.{MissingRun}
use Rattle.ss_review.specs.declared.report.group_report.GroupReport.{GroupReport}
use Rattle.ss_review.specs.declared.report.session_report.SessionReport.{SessionReport}
use Rattle.ss_review.specs.keep.Notes.{notes}
use Rattle.ss_review.specs.keep.Contents.{blocks}
use Rattle.ss_review.specs.sessions.Verified.{Answers, is_verified}
use Rattle.ss_review.specs.announced.Announcing.{IsAnnounced}
use Rattle.ss_review.specs.report.Report.{report}
use Rattle.ss_review.specs.counted.Counted.{gbcs, counted_sessions, next_after, next_number, missing}

-- a verified signature block of the session states this GBC
pub record IsCounted (says : Answers) (bs : List BlockMessage) (s : Session) (gbc : ℕ) : Type 0 where
  pub message : BlockMessage
  pub stored : Contains bs message
  pub session_is : message.session ≡ s
  pub verified : is_verified says bs message ≡ true
  pub said : block.Signature
  pub says_so : message.said ≡ Hashes said
  pub gbc_is : said.gbc ≡ gbc

-- the value is in one of the runs
abbrev pub IsInRun : List MissingRun → ℕ → Type 0
IsInRun runs n = (r : MissingRun) × Contains runs r × (r.first ≤ n) × (n ≤ r.last)

-- Each value below the bound is there or in a run, and never both. No run is empty, they rise, and between two of them
-- stands a value that is there, so each is a greatest one.
pub record AreMissing (is_there : ℕ → Type 0) (next : ℕ) (runs : List MissingRun) : Type 0 where
  pub there_or_missing : (n : ℕ) → n < next → is_there n ⊎ IsInRun runs n
  pub never_both : (n : ℕ) → is_there n → ¬ IsInRun runs n
  pub within : (n : ℕ) → IsInRun runs n → n < next
  pub some_value : All (λ r. r.first ≤ r.last) runs
  pub apart : AllPairs (λ r q. r.last + 1 < q.first) runs

-- one more than the greatest that is there, or 0 where none is
pub record IsNext (is_there : ℕ → Type 0) (next : ℕ) : Type 0 where
  pub above : (n : ℕ) → is_there n → n < next
  pub behind : (next ≡ 0) ⊎ ((n : ℕ) × is_there n × (next ≡ n + 1))

-- the values of a session rise and have at most ten digits, so the next one is at most 10,000,000,000
pub record IsInRange (s : CountedSession) : Type 0 where
  pub rise : IsStrictlySortedBy nat_cmp s.gbcs
  pub within : All (λ g. g ≤ last_number) s.gbcs
  pub next : next_after s.gbcs ≤ past_last_number

-- the values of a session rise, and are those that its verified signature blocks state
abbrev pub CountedAreVerified : Type 0
CountedAreVerified =
    (says : Answers) (log : List (List ℕ)) (s : Session)
    → IsStrictlySortedBy nat_cmp (gbcs says (blocks (notes log)) s)
    × ((gbc : ℕ) → Contains (gbcs says (blocks (notes log)) s) gbc ↔ IsCounted says (blocks (notes log)) s gbc)

-- each value below a bound is that of a verified signature block of the session, or missing
abbrev pub CountedOrMissing : Type 0
CountedOrMissing =
    (says : Answers) (log : List (List ℕ)) (s : Session) (next : ℕ)
    → AreMissing (IsCounted says (blocks (notes log)) s) next (missing (gbcs says (blocks (notes log)) s) next)

-- the next GBC of a session comes after all that its verified signature blocks state
abbrev pub NextGbcFollows : Type 0
NextGbcFollows =
    (says : Answers) (log : List (List ℕ)) (s : Session)
    → IsNext (IsCounted says (blocks (notes log)) s) (next_after (gbcs says (blocks (notes log)) s))

-- the next number of a group comes after all that are announced in it
abbrev pub NextNumbersFollow : Type 0
NextNumbersFollow =
    (says : Answers) (log : List (List ℕ)) (s : SessionReport) (g : GroupReport)
    → Contains (report says log).sessions s → Contains s.groups g
    → IsNext (λ n.
    IsAnnounced says (blocks (notes log)) (record {
      session = s.session;
      group = g.group;
      number = n;
    })) (next_number g)

-- the values of each session are in range
abbrev pub CountedAreInRange : Type 0
CountedAreInRange = (says : Answers) (log : List (List ℕ)) → All IsInRange (counted_sessions says (blocks (notes log)))

-- the next number of each group is at most 10,000,000,000
abbrev pub NextNumbersAreInRange : Type 0
NextNumbersAreInRange =
    (says : Answers) (log : List (List ℕ))
    → All (λ s. All (λ g. next_number g ≤ past_last_number) s.groups) (report says log).sessions
