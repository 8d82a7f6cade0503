-- What holds for chains that go on ahead.
use Rattle.std.specs.Prelude.{◌≡◌, ℕ, ◌+◌, ◌<◌, ◌≤◌, List, ◌∷◌, ◌++◌, length, Option}
use Rattle.ss_message.specs.Stamp.{Moment}
use Rattle.ss_origin.specs.declared.config.Config.{Config}
use Rattle.ss_origin.specs.Groups.{group_of}
use Rattle.ss_origin.specs.Counting.{number_in}
use Rattle.ss_origin.specs.Calls.{Submit, spri_in, messages_of}
use Rattle.ss_origin.specs.Setting.{Setting}
use Rattle.ss_origin.specs.Chain.{Turn, calls_of, IsChain}
use Rattle.ss_origin.specs.Ahead.{Life, ended_with, IsChainAhead, sent_by, lives_of}
use Rattle.ss_origin.specs.SignedLaws.{IsPending, IsSigned}
use Rattle.ss_origin.specs.NoBlockLaws.{HaveNoBlock}

-- A chain whose originators go on from exactly the last counters is one that goes on ahead.
abbrev pub ChainsGoOnAhead : Type 0
ChainsGoOnAhead = (s : Setting) (chain : List (List Turn)) → IsChain s chain → IsChainAhead s (lives_of s.config chain)

-- ---- numbers that are given

-- One of the originators accepted the message, after those before it and after its own earlier turns.
pub record IsGiven (lives : List Life) (message : List ℕ) : Type 0 where
  pub newer : List Life
  pub life : Life
  pub older : List Life
  pub lives_are : lives ≡ newer ++ life ∷ older
  pub later : List Turn
  pub turn : Turn
  pub earlier : List Turn
  pub turns_are : life.turns ≡ later ++ turn ∷ earlier
  pub stamp : Option Moment
  pub call : turn.call ≡ Submit message stamp

-- The number that it got in its group: the first one with which its originator began, and one more for each message of
-- the group that came before it.
abbrev pub number_given : {lives : List Life} {message : List ℕ} → Config → IsGiven lives message → ℕ
number_given {message = message} c g =
    let spri = spri_in c.grouping message
    in number_in g.life.start.counters.groups spri + length (messages_of c.grouping spri (calls_of g.earlier))

-- Each message that an originator of such a chain was given, and that isn't pending at its end, is signed under the
-- number that it got.
abbrev pub MessagesAheadAreSigned : Type 0
MessagesAheadAreSigned = (s : Setting) (lives : List Life) → IsChainAhead s lives
    → (message : List ℕ) (g : IsGiven lives message)
    → ¬ IsPending s.config g.later g.turn g.earlier message → IsSigned s g.life.turns message (number_given s.config g)

-- No number of a group is given twice: two messages that got one number are one, accepted in one call. It has as many
-- originators before it, and as many turns of its own originator.
abbrev pub NumbersAreGivenOnce : Type 0
NumbersAreGivenOnce = (s : Setting) (lives : List Life) → IsChainAhead s lives
    → (m n : List ℕ) (g : IsGiven lives m) (h : IsGiven lives n)
    → spri_in s.config.grouping m ≡ spri_in s.config.grouping n → number_given s.config g ≡ number_given s.config h
    → (m ≡ n) × (length g.older ≡ length h.older) × (length g.earlier ≡ length h.earlier)

-- The numbers that are left out between the last counters of an originator and those with which the next one began are
-- in no block.
abbrev pub SkippedNumbersAreInNoBlock : Type 0
SkippedNumbersAreInNoBlock = (s : Setting) (newer older : List Life) (next last : Life) (spri number : ℕ)
    → IsChainAhead s (newer ++ next ∷ last ∷ older) → spri < 192
    → number_in (ended_with s.config last).groups spri ≤ number → number < number_in next.start.counters.groups spri
    → HaveNoBlock (sent_by (newer ++ next ∷ last ∷ older)) (group_of s.config.grouping spri) number

-- Each number that an originator of such a chain gave is below the counters with which the newest one ended.
abbrev pub CountersGoPast : Type 0
CountersGoPast = (s : Setting) (newest : Life) (older : List Life) → IsChainAhead s (newest ∷ older)
    → (message : List ℕ) (g : IsGiven (newest ∷ older) message)
    → number_given s.config g < number_in (ended_with s.config newest).groups (spri_in s.config.grouping message)
