-- Originators of one session that follow one another, where counters may have been saved ahead of what was sent.
use Rattle.std.specs.Prelude.{◌≡◌, ℕ, ◌<◌, ◌≤◌, List, [], ◌∷◌}
use Rattle.std.specs.List.{flat_map}
use Rattle.ss_origin.specs.declared.config.Config.{Config}
use Rattle.ss_origin.specs.declared.counters.Counters.{Counters}
use Rattle.ss_origin.specs.Counting.{Start, number_in, anew, resumed}
use Rattle.ss_origin.specs.State.{state, counters_of}
use Rattle.ss_origin.specs.Setting.{Setting, IsSetting}
use Rattle.ss_origin.specs.Chain.{Turn, calls_of, AreTurns, start_behind}

-- how an originator began, and its turns, the newest first
pub record Life : Type 0 where
  pub start : Start
  pub turns : List Turn

-- the counters with which it ended
abbrev pub ended_with : Config → Life → Counters
ended_with c l = counters_of (state c l.start (calls_of l.turns))

-- The next GBC, and the next number of each group, are no less than these.
pub record AreAtLeast (old new : Counters) : Type 0 where
  pub gbc : old.gbc ≤ new.gbc
  pub numbers : (spri : ℕ) → spri < 192 → number_in old.groups spri ≤ number_in new.groups spri

-- A new originator, where none came before; else one that goes on from the last counters of the one before, or from
-- greater ones.
abbrev pub BeginsBehind : Config → List Life → Start → Type 0
BeginsBehind c [] start = start ≡ anew
BeginsBehind c (l ∷ before) start = (k : Counters) × (start ≡ resumed k) × AreAtLeast (ended_with c l) k

-- the newest first
abbrev pub GoOnAhead : Setting → List Life → Type 0
GoOnAhead s [] = Unit {0}
GoOnAhead s (l ∷ before) = GoOnAhead s before × BeginsBehind s.config before l.start × AreTurns s l.start l.turns

pub record IsChainAhead (s : Setting) (lives : List Life) : Type 0 where
  pub setting : IsSetting s
  pub chained : GoOnAhead s lives

-- all that they emitted
abbrev pub sent_by : List Life → List (List ℕ)
sent_by lives = flat_map (λ l. flat_map (λ t. t.emitted) l.turns) lives

-- the originators of a chain, each with how it began
abbrev pub lives_of : Config → List (List Turn) → List Life
lives_of c [] = []
lives_of c (turns ∷ before) = record { start = start_behind c before; turns = turns } ∷ lives_of c before
