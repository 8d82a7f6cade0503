-- Runs of one session that follow one another: the first is new, and each other one goes on at counters that were saved.
use Rattle.std.specs.Prelude.{◌≡◌, ℕ, List, [], ◌∷◌, map, reverse, Option}
use Rattle.ss_message.specs.Stamp.{Moment}
use Rattle.ss_origin.specs.declared.counters.Counters.{Counters}
use Rattle.ss_origin.specs.Ahead.{Life, AreAtLeast, IsChainAhead}
use Rattle.ss_origin.specs.Counting.{Start, anew, resumed}
use Rattle.ss_origin.specs.Setting.{Setting, IsSetting}
use Rattle.ss_origin.specs.State.{state, counters_of}
use Rattle.ss_signing.specs.Accepted.{all_calls, Accepts}

-- A run that succeeded: how it started, the stamp, the messages that were submitted, and what it emitted for them.
pub record Sent (s : Setting) : Type 0 where
  pub start : Start
  pub stamp : Option Moment
  pub messages : List (List ℕ)
  pub emitted : List (List ℕ)
  pub accepted : Accepts s start (all_calls start stamp messages) emitted

-- the counters with which it ends, which `run_ahead` writes
abbrev pub told_ahead : {s : Setting} → Sent s → Counters
told_ahead {s} r = counters_of (state s.config r.start (reverse (all_calls r.start r.stamp r.messages)))

-- A new one, where none came before; else one that goes on at what was told of the one before, or at greater counters.
abbrev pub StartsAfter : {s : Setting} → List (Sent s) → Start → Type 0
StartsAfter [] start = start ≡ anew
StartsAfter (r ∷ before) start = (k : Counters) × (start ≡ resumed k) × AreAtLeast (told_ahead r) k

-- the newest first
abbrev pub GoOn : {s : Setting} → List (Sent s) → Type 0
GoOn [] = Unit {0}
GoOn (r ∷ before) = GoOn before × StartsAfter before r.start

-- the originator of a run
abbrev pub life_of : {s : Setting} → Sent s → Life
life_of r = record { start = r.start; turns = r.accepted.turns }

-- Such runs are the lives of a chain that goes on ahead. So what holds of these chains holds of what was written: no number
-- is given twice, and a review reports what is missing.
abbrev pub RunsGoOn : Type 0
RunsGoOn = (s : Setting) (runs : List (Sent s)) → IsSetting s → GoOn runs → IsChainAhead s (map life_of runs)
