-- What holds of every log up to counters that somebody kept: each number and each block below them is there, or it is
-- reported as missing.
use Rattle.std.specs.Prelude.{◌≡◌, ◌≢◌, ◌⊎◌, ℕ, ◌-◌, ◌<◌, ◌≤◌, true, if◌then◌else◌}
use Rattle.std.specs.Prelude.{List, [], ◌∷◌, length, map, flat_map, slice_get, All, Contains, Some}
use Rattle.std.specs.List.{zip}
use Rattle.ss_block.specs.declared.session.Session.{Session}
use Rattle.ss_block.specs.Hashes.{hash_of}
use Rattle.ss_origin.specs.declared.counters.NextNumber.{NextNumber}
use Rattle.ss_origin.specs.Groups.{group_of}
use Rattle.ss_origin.specs.Chain.{start_behind, given_to}
use Rattle.ss_review.specs.declared.counted.counted_session.CountedSession.{CountedSession}
use Rattle.ss_review.specs.declared.counted.counter.Counter.{Counter}
use Rattle.ss_review.specs.declared.counted.counter.Counts.TheVariants as counts
use Rattle.ss_review.specs.declared.counted.shortfall.GroupTail.{GroupTail}
use Rattle.ss_review.specs.declared.counted.shortfall.Shortfall.{Shortfall}
use Rattle.ss_review.specs.declared.counted.shortfall.LogShortfalls.{LogShortfalls}
use Rattle.ss_review.specs.declared.report.entry.Why.{Why}
use Rattle.ss_review.specs.declared.report.entry.Entry.TheVariants as entry
use Rattle.ss_review.specs.declared.report.group_report.GroupReport.{GroupReport}
use Rattle.ss_review.specs.declared.report.report.Report.{Report}
use Rattle.ss_review.specs.declared.report.session_report.SessionReport.{SessionReport}
use Rattle.ss_review.specs.keep.Notes.{note, notes}
use Rattle.ss_review.specs.keep.Contents.{blocks}
use Rattle.ss_review.specs.sessions.Verified.{Answers}
use Rattle.ss_review.specs.report.Verdict.{is_joined, is_clean}
use Rattle.ss_review.specs.announced.Announced.{Key}
use Rattle.ss_review.specs.announced.Announcing.{IsAnnounced}
use Rattle.ss_review.specs.report.Meaning.{Tells, IsListed, IsGap}
use Rattle.ss_review.specs.report.Report.{report}
use Rattle.ss_review.specs.counted.Counted.{counted_sessions, next_after, next_number, missing_blocks}
use Rattle.ss_review.specs.counted.CountedLaws.{IsCounted, IsInRun}
use Rattle.ss_review.specs.counted.CounterRange.{IsCounter}
use Rattle.ss_review.specs.deliveries.Delivery.{own_session, is_normal}
use Rattle.ss_review.specs.deliveries.Delivered.{own_number}
use Rattle.ss_review.specs.deliveries.DeliveryLaws.{Case, IsCase, says, report_in}
use Rattle.ss_review.specs.counted.Kept.{kept_gbc, kept_number, log_shortfalls, AreReviewed}

-- what is missing of a log up to these counters
abbrev pub shortfalls_of : Answers → List (List ℕ) → List Counter → LogShortfalls
shortfalls_of says log cs = log_shortfalls cs (report says log).sessions (counted_sessions says (blocks (notes log)))

-- the premises of what computes it hold of every log
abbrev pub LogsAreReviewed : Type 0
LogsAreReviewed =
    (says : Answers) (log : List (List ℕ))
    → AreReviewed (report says log).sessions (counted_sessions says (blocks (notes log)))

-- ---- messages

-- this is reported of a session, whether the log has a block of it or not
abbrev pub IsToldOf : LogShortfalls → Shortfall → Type 0
IsToldOf all f = Contains all.known f ⊎ Contains all.absent f

-- the number is reported as missing after the last announced one of its group
pub record IsInTail (all : LogShortfalls) (k : Key) : Type 0 where
  pub shortfall : Shortfall
  pub told : IsToldOf all shortfall
  pub session_is : shortfall.session ≡ k.session
  pub tail : GroupTail
  pub tail_told : Contains shortfall.tails tail
  pub group_is : tail.group ≡ k.group
  pub from : tail.first ≤ k.number
  pub to : k.number ≤ tail.last

-- the report has a hole of its group with the number
pub record IsInHole (r : Report) (k : Key) : Type 0 where
  pub first : ℕ
  pub last : ℕ
  pub told : Tells r k.session k.group (entry.Hole first last)
  pub from : first ≤ k.number
  pub to : k.number ≤ last

-- what became of the message with a number
pub data Fate : Type 0 where
  Listed : Fate
  Gap : Fate
  Hole : Fate
  Tail : Fate

abbrev pub HasFate : Report → LogShortfalls → Key → Fate → Type 0
HasFate r all k Listed = (place : ℕ) × IsListed r k place
HasFate r all k Gap = (why : Why) × IsGap r k why
HasFate r all k Hole = IsInHole r k
HasFate r all k Tail = IsInTail all k

-- A number below its group's counter is exactly one of listed, a gap, in a hole and in a tail. A number in a tail is
-- below its group's counter and not announced.
abbrev pub NumberIsTold : Answers → List (List ℕ) → List Counter → Key → Type 0
NumberIsTold says log cs k =
    (1 ≤ k.number → k.number < kept_number cs k.session k.group
    → (fate : Fate) × HasFate (report says log) (shortfalls_of says log cs) k fate
    × ((other : Fate) → HasFate (report says log) (shortfalls_of says log cs) k other → other ≡ fate))
    × (IsInTail (shortfalls_of says log cs) k
    → (k.number < kept_number cs k.session k.group) × ¬ IsAnnounced says (blocks (notes log)) k)

abbrev pub EveryNumberIsTold : Type 0
EveryNumberIsTold = (says : Answers) (log : List (List ℕ)) (cs : List Counter) (k : Key) → NumberIsTold says log cs k

-- ---- signature blocks

-- the value is in a run of missing blocks of the session
pub record IsInRunOf (all : LogShortfalls) (s : Session) (gbc : ℕ) : Type 0 where
  pub shortfall : Shortfall
  pub told : IsToldOf all shortfall
  pub session_is : shortfall.session ≡ s
  pub run : IsInRun shortfall.blocks gbc

-- A value below the session's counter is that of a verified signature block, or reported as missing. None is both.
abbrev pub BlockIsTold : Answers → List (List ℕ) → List Counter → Session → ℕ → Type 0
BlockIsTold says log cs s gbc =
    (gbc < kept_gbc cs s
    → IsCounted says (blocks (notes log)) s gbc ⊎ IsInRunOf (shortfalls_of says log cs) s gbc)
    × (IsCounted says (blocks (notes log)) s gbc → ¬ IsInRunOf (shortfalls_of says log cs) s gbc)

abbrev pub EveryBlockIsTold : Type 0
EveryBlockIsTold = (says : Answers) (log : List (List ℕ)) (cs : List Counter) (s : Session) (gbc : ℕ)
    → BlockIsTold says log cs s gbc

-- ---- nothing is missing

-- nothing of a session is reported as missing, and no session is
pub record NothingIsMissing (all : LogShortfalls) : Type 0 where
  pub tails : All (λ f. f.tails ≡ []) all.known
  pub blocks : All (λ f. f.blocks ≡ []) all.known
  pub sessions : all.absent ≡ []

-- If a report is clean and nothing is missing, each number below its group's counter is listed. Each value below its
-- session's counter is then that of a verified signature block.
abbrev pub CleanUpToCounters : Type 0
CleanUpToCounters =
    (says : Answers) (log : List (List ℕ)) (cs : List Counter)
    → is_clean (report says log) ≡ true
    → NothingIsMissing (shortfalls_of says log cs)
    → ((k : Key) → 1 ≤ k.number → k.number < kept_number cs k.session k.group
    → (place : ℕ) × IsListed (report says log) k place)
    × ((s : Session) (gbc : ℕ) → gbc < kept_gbc cs s → IsCounted says (blocks (notes log)) s gbc)

-- ---- the counters of the log itself

abbrev pub group_given : Session → GroupReport → Counter
group_given s g = record { session = s; counts = counts.Messages g.group; next = next_number g }

-- the GBC of a session's next signature block, then the number of the next message of each of its groups
abbrev pub session_given : SessionReport → CountedSession → List Counter
session_given s c =
    record { session = s.session; counts = counts.Blocks; next = next_after c.gbcs }
    ∷ map (group_given s.session) s.groups

-- a session that isn't joined has no verified block, and no counter
abbrev pub given_beside : SessionReport × CountedSession → List Counter
given_beside p = if is_joined p.0.state then session_given p.0 p.1 else []

-- the counters of a log, of each session of its report
unfoldable pub counters_given : List SessionReport → List CountedSession → List Counter
counters_given sessions counted = flat_map given_beside (zip sessions counted)

-- Up to its own counters nothing is missing of a log but what it shows by itself.
pub record AddNothing (counted : List CountedSession) (all : LogShortfalls) : Type 0 where
  pub tails : All (λ f. f.tails ≡ []) all.known
  pub sessions : all.absent ≡ []
  pub blocks : map (λ f. f.blocks) all.known ≡ map (λ c. missing_blocks c.gbcs) counted

-- the counters of a log
abbrev pub log_counters : Answers → List (List ℕ) → List Counter
log_counters says log = counters_given (report says log).sessions (counted_sessions says (blocks (notes log)))

abbrev pub CountersGivenBack : Type 0
CountersGivenBack =
    (says : Answers) (log : List (List ℕ))
    → AddNothing (counted_sessions says (blocks (notes log))) (shortfalls_of says log (log_counters says log))

-- What is missing of a log up to its own counters is what is missing of it without any.
abbrev pub LogCountersAddNothing : Type 0
LogCountersAddNothing =
    (says : Answers) (log : List (List ℕ)) → shortfalls_of says log (log_counters says log) ≡ shortfalls_of says log []

-- the counters of a log are in range, so each has a line
abbrev pub LogCountersAreInRange : Type 0
LogCountersAreInRange = (says : Answers) (log : List (List ℕ)) → All IsCounter (log_counters says log)

-- ---- the counters of originators that follow one another

-- The counters reach the end of each group: past the number of the last message that the chain gave it.
abbrev pub ReachTheEnd : Case → List Counter → Type 0
ReachTheEnd x cs = (spri : ℕ) → spri < 192
    → let given = length (given_to x.s.config spri x.chain) in
    1 ≤ given → given < kept_number cs (own_session x.s) (group_of x.s.config.grouping spri)

abbrev pub number_kept : Case → NextNumber → Counter
number_kept x n = record {
  session = own_session x.s;
  counts = counts.Messages (group_of x.s.config.grouping n.spri);
  next = n.number;
}

-- the counters that the newest originator of the chain ended with
unfoldable pub counters_kept : Case → List Counter
counters_kept x =
    let ended = (start_behind x.s.config x.chain).counters in
    record { session = own_session x.s; counts = counts.Blocks; next = ended.gbc } ∷ map (number_kept x) ended.groups

-- they reach the end of each group
abbrev pub OwnCountersReachTheEnd : Type 0
OwnCountersReachTheEnd = (x : Case) → ReachTheEnd x (counters_kept x)

-- no message without a block in the log has the hash of this one
abbrev pub IsLost : Case → List ℕ → Type 0
IsLost x m = (n : List ℕ) → Contains x.log n → is_normal (note n) ≡ true
    → hash_of x.s.config.alg n ≢ hash_of x.s.config.alg m

-- If the counters reach the end of each group, the number of each lost message is a gap, in a hole or in a tail.
abbrev pub LostAreTold : Type 0
LostAreTold = (x : Case) → IsCase x → (cs : List Counter) → ReachTheEnd x cs
    → (spri number : ℕ) (m : List ℕ) → spri < 192 → 1 ≤ number
    → slice_get (given_to x.s.config spri x.chain) (number - 1) ≡ Some m → IsLost x m
    → let k = own_number x spri number in
    ((why : Why) × IsGap (report_in x) k why)
    ⊎ (IsInHole (report_in x) k ⊎ IsInTail (shortfalls_of (says x) x.log cs) k)
