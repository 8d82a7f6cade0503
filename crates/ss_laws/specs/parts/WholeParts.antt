-- What is missing of a log (`ssign review --whole`), against what is missing of its parts.
use Rattle.std.specs.Prelude.{◌≡◌, ◌↔◌, ℕ, ◌<◌, ◌==◌, not, List, map, filter, flat_map, Option, Contains}
use Rattle.std.specs.List.{list_any, range_with_len}
use Rattle.ss_block.specs.declared.session.Session.{Session}
use Rattle.ss_block.specs.Order.{session_cmp}
use Rattle.ss_review.specs.declared.counted.counter.Counter.{Counter}
use Rattle.ss_review.specs.declared.counted.shortfall.LogShortfalls.{LogShortfalls}
use Rattle.ss_review.specs.keep.BlockMessage.{BlockMessage}
use Rattle.ss_review.specs.Ordered.{in_order}
use Rattle.ss_review.specs.keep.Notes.{notes}
use Rattle.ss_review.specs.keep.Contents.{blocks, contents}
use Rattle.ss_review.specs.sessions.Sessions.{same_session, sessions}
use Rattle.ss_review.specs.sessions.Verified.{Answers}
use Rattle.ss_review.specs.counted.KeptLaws.{NothingIsMissing}
use Rattle.ss_review.specs.pinned.Pinned.{blocks_by, report_by}
use Rattle.ss_review.specs.pinned.Stands.{shortfalls_by}
use Rattle.ss_laws.specs.parts.Parts.{SessionsStayWhole, AreParts, together, messages_of}
use Rattle.ss_laws.specs.parts.PartCounters.{AreBlockParts}
use Rattle.ss_laws.specs.parts.PinnedParts.{contents_by, report_of_part_by}

-- ---- the counters that each part is given

-- The review of each part is given some of the counters that the review of the whole is given.
pub record AreGiven (bs : List BlockMessage) (part : ℕ → ℕ) (parts : ℕ) (cs : List Counter) (own : ℕ → List Counter) :
    Type 0 where
  -- and no others
  pub within : (k : ℕ) (c : Counter) → k < parts → Contains (own k) c → Contains cs c
  -- the part with the blocks of a session is given all counters of the session
  pub its : (b : BlockMessage) (c : Counter) → Contains bs b → Contains cs c → c.session ≡ b.session
      → Contains (own (part b.place)) c
  -- a counter of a session without a block is given to some part
  pub some : (c : Counter) → Contains cs c → ¬ Contains (sessions bs) c.session
      → (k : ℕ) × (k < parts) × Contains (own k) c
  -- and each part that is given one of them is given all counters of its session
  pub all : (k : ℕ) (c d : Counter) → k < parts → ¬ Contains (sessions bs) c.session → Contains (own k) c
      → Contains cs d → d.session ≡ c.session → Contains (own k) d

-- No part is given a counter of a session that has its blocks in another part.
abbrev pub GivenOnlyIts : List BlockMessage → (ℕ → ℕ) → (parts : ℕ) → (ℕ → List Counter) → Type 0
GivenOnlyIts bs part parts own =
    (k : ℕ) (c : Counter) (b : BlockMessage) → k < parts → Contains (own k) c → Contains bs b → b.session ≡ c.session
    → part b.place ≡ k

-- A part for each session: the one with its blocks, if it has any.
pub record IsHome (bs : List BlockMessage) (part : ℕ → ℕ) (parts : ℕ) (home : Session → ℕ) : Type 0 where
  pub blocks : (b : BlockMessage) → Contains bs b → home b.session ≡ part b.place
  pub within : (s : Session) → home s < parts

-- the counters of the sessions that have this part
abbrev pub counters_at_home : (Session → ℕ) → List Counter → ℕ → List Counter
counters_at_home home cs k = filter (λ c. home c.session == k) cs

-- ---- what is missing, put together

-- Each session once, in the order of the whole. A session is absent if it is in some part, and no part has a block of it.
abbrev pub missing_together : List LogShortfalls → LogShortfalls
missing_together all =
    let known = flat_map (λ m. m.known) all
    in record {
      known = in_order (λ f g. session_cmp f.session g.session) known;
      absent = in_order (λ f g. session_cmp f.session g.session)
          (filter (λ f. not (list_any (same_session f.session) (map (λ g. g.session) known)))
          (flat_map (λ m. m.absent) all));
    }

-- what is missing of each part, with its own counters
abbrev pub missing_of_parts :
    Option (List (List ℕ)) → Answers → (ℕ → ℕ) → (parts : ℕ) → List (List ℕ) → (ℕ → List Counter) → List LogShortfalls
missing_of_parts known says part parts log own =
    map (λ k. shortfalls_by known says (messages_of part k log) (own k)) (range_with_len 0 parts)

-- ---- laws

-- What is missing of a log is what is missing of its parts put together.
abbrev pub MissingAddsUp : Type 0
MissingAddsUp =
    (known : Option (List (List ℕ))) (says : Answers) (log : List (List ℕ)) (part : ℕ → ℕ) (parts : ℕ)
    → AreBlockParts (blocks (notes log)) part parts
    → (cs : List Counter) (own : ℕ → List Counter)
    → AreGiven (blocks_by known says (blocks (notes log))) part parts cs own
    → shortfalls_by known says log cs ≡ missing_together (missing_of_parts known says part parts log own)

-- The report of a log and what is missing of it are those of its parts put together.
abbrev pub WholeReportsAddUp : Type 0
WholeReportsAddUp =
    (known : Option (List (List ℕ))) (says : Answers) (log : List (List ℕ)) (part : ℕ → ℕ) (parts : ℕ)
    → SessionsStayWhole part (blocks (notes log))
    → AreParts says (contents_by known says (contents (notes log))) part parts
    → (cs : List Counter) (own : ℕ → List Counter)
    → AreGiven (blocks_by known says (blocks (notes log))) part parts cs own
    → (report_by known says (contents (notes log))
    ≡ together (map (λ k. report_of_part_by known says part k log) (range_with_len 0 parts)))
    × (shortfalls_by known says log cs ≡ missing_together (missing_of_parts known says part parts log own))

-- Nothing is missing of a log exactly where nothing is missing of each part.
abbrev pub NothingMissingWhereOfParts : Type 0
NothingMissingWhereOfParts =
    (known : Option (List (List ℕ))) (says : Answers) (log : List (List ℕ)) (part : ℕ → ℕ) (parts : ℕ)
    → AreBlockParts (blocks (notes log)) part parts
    → (cs : List Counter) (own : ℕ → List Counter)
    → AreGiven (blocks_by known says (blocks (notes log))) part parts cs own
    → GivenOnlyIts (blocks_by known says (blocks (notes log))) part parts own
    → NothingIsMissing (shortfalls_by known says log cs)
    ↔ ((k : ℕ) → k < parts → NothingIsMissing (shortfalls_by known says (messages_of part k log) (own k)))

-- Two ways to give them: all counters to each part, or those of each session to one part.
abbrev pub CountersMayBeGiven : Type 0
CountersMayBeGiven =
    (bs : List BlockMessage) (part : ℕ → ℕ) (parts : ℕ) (cs : List Counter)
    → (0 < parts → AreGiven bs part parts cs (λ k. cs))
    × ((home : Session → ℕ) → IsHome bs part parts home
    → AreGiven bs part parts cs (counters_at_home home cs)
    × GivenOnlyIts bs part parts (counters_at_home home cs))
