-- What holds for the numbers and counters of a chain.
use Rattle.std.specs.Prelude.{◌≡◌, ℕ, ◌+◌, ◌<◌, true, List, [], ◌∷◌, ◌++◌, length, Option}
use Rattle.ss_message.specs.Stamp.{Moment}
use Rattle.ss_origin.specs.declared.config.Config.{Config}
use Rattle.ss_origin.specs.Configs.{is_config}
use Rattle.ss_origin.specs.Counting.{Start, number_in, are_counters}
use Rattle.ss_origin.specs.Calls.{Begin}
use Rattle.ss_origin.specs.State.{state, counters_of}
use Rattle.ss_origin.specs.Setting.{Setting}
use Rattle.ss_origin.specs.Chain.{Turn, calls_of, AreTurns, start_behind, IsChain, given_to}

-- After the originators of a chain, the next number of a group is one more than how many messages they were given for
-- it.
abbrev pub NumbersGoOn : Type 0
NumbersGoOn = (c : Config) (chain : List (List Turn)) (spri : ℕ) → spri < 192
    → number_in (start_behind c chain).counters.groups spri ≡ 1 + length (given_to c spri chain)

-- Where an originator begins at counters in their ranges, it ends at such.
abbrev pub CountersStayInRange : Type 0
CountersStayInRange = (s : Setting) (start : Start) (turns : List Turn)
    → is_config s.config ≡ true → are_counters s.config.grouping start.counters ≡ true → AreTurns s start turns
    → are_counters s.config.grouping (counters_of (state s.config start (calls_of turns))) ≡ true

-- so a chain can be resumed
abbrev pub ChainsCanBeResumed : Type 0
ChainsCanBeResumed = (s : Setting) (chain : List (List Turn)) → IsChain s chain
    → are_counters s.config.grouping (start_behind s.config chain).counters ≡ true

-- `begin` is accepted only as the first call of the first originator.
abbrev pub BeginsFirst : Type 0
BeginsFirst =
    (s : Setting) (newer older : List (List Turn)) (later earlier : List Turn) (t : Turn) (stamp : Option Moment)
    → IsChain s (newer ++ (later ++ t ∷ earlier) ∷ older) → t.call ≡ Begin stamp → (older ≡ []) × (earlier ≡ [])
