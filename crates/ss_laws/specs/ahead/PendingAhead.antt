-- Which numbers of originators that go on ahead are in no block.
use Rattle.std.specs.Prelude.{◌⊎◌, ℕ, ◌<◌, List}
use Rattle.ss_origin.specs.declared.config.Config.{Config}
use Rattle.ss_origin.specs.Groups.{group_of}
use Rattle.ss_origin.specs.Calls.{spri_in}
use Rattle.ss_origin.specs.Setting.{Setting}
use Rattle.ss_origin.specs.Ahead.{Life, IsChainAhead, sent_by}
use Rattle.ss_origin.specs.AheadLaws.{IsGiven, number_given}
use Rattle.ss_origin.specs.NoBlockLaws.{HaveNoBlock}
use Rattle.ss_origin.specs.SignedLaws.{IsPending}
use Rattle.ss_review.specs.declared.counted.counter.Counter.{Counter}
use Rattle.ss_review.specs.counted.Kept.{kept_number}
use Rattle.ss_review.specs.counted.KeptLaws.{shortfalls_of, IsInTail, IsInHole}
use Rattle.ss_review.specs.report.Meaning.{IsTold}
use Rattle.ss_review.specs.deliveries.Delivered.{own_number}
use Rattle.ss_review.specs.deliveries.DeliveryLaws.{Case, says, report_in}
use Rattle.ss_review.specs.deliveries.AheadDelivery.{IsCaseAhead}

-- the message is pending at the end of the originator that accepted it
abbrev pub IsLeftPending : {lives : List Life} {message : List ℕ} → Config → IsGiven lives message → Type 0
IsLeftPending {message = message} c g = IsPending c g.later g.turn g.earlier message

-- its number is in no block that one of the originators sent
abbrev pub IsInNoBlock : {lives : List Life} {message : List ℕ} → Config → IsGiven lives message → Type 0
IsInNoBlock {lives = lives} {message = message} c g =
    HaveNoBlock (sent_by lives) (group_of c.grouping (spri_in c.grouping message)) (number_given c g)

-- The number of a message that is pending at the end of its originator is in no block of a chain that goes on ahead. So
-- it is whether the originator is the last or others follow: these don't sign what one before them left.
abbrev pub PendingAheadAreInNoBlock : Type 0
PendingAheadAreInNoBlock = (s : Setting) (lives : List Life) → IsChainAhead s lives
    → (message : List ℕ) (g : IsGiven lives message) → IsLeftPending s.config g → IsInNoBlock s.config g

-- And the number of no other message.
abbrev pub OnlyPendingAheadAreInNoBlock : Type 0
OnlyPendingAheadAreInNoBlock = (s : Setting) (lives : List Life) → IsChainAhead s lives
    → (message : List ℕ) (g : IsGiven lives message) → IsInNoBlock s.config g → IsLeftPending s.config g

-- So in a report such a number is neither listed nor a gap. Below kept counters of its group it is in a hole or in a
-- tail.
abbrev pub PendingAheadAreMissing : Type 0
PendingAheadAreMissing = (x : Case) (lives : List Life) → IsCaseAhead x lives
    → (message : List ℕ) (g : IsGiven lives message) → IsLeftPending x.s.config g
    → let k = own_number x (spri_in x.s.config.grouping message) (number_given x.s.config g) in
    (¬ IsTold (report_in x) k)
    × ((cs : List Counter) → k.number < kept_number cs k.session k.group
    → IsInHole (report_in x) k ⊎ IsInTail (shortfalls_of (says x) x.log cs) k)
