-- Runs of one session that follow one another by files: each writes its counters ahead, and the next one goes on by a
-- counters file that has these lines and their end.
use Rattle.std.specs.Prelude.{◌≡◌, false, List, [], ◌∷◌, ◌++◌, map, All}
use Rattle.std.specs.List.{list_any}
use Rattle.ss_origin.specs.Ahead.{IsChainAhead}
use Rattle.ss_origin.specs.Counting.{Start, anew, resumed}
use Rattle.ss_origin.specs.Groups.{sg_of}
use Rattle.ss_origin.specs.Setting.{Setting, IsSetting}
use Rattle.ss_review.specs.declared.counted.counter.Counter.{Counter}
use Rattle.ss_review.specs.counted.CounterRange.{IsCounter}
use Rattle.ss_answers.specs.CounterFile.{HasCounters, together}
use Rattle.ss_answers.specs.Start.{is_of_other, start_of}
use Rattle.ss_signing.specs.GoingOn.{Sent, GoOn, life_of, told_ahead}
use Rattle.ss_laws.specs.plans.ReadBack.{session_of, text_among}

-- The originator started by a file that has what was told ahead of this run. Parts with other counters may stand before
-- and after: of other sessions, and of the groups of this one.
pub record StartsByFile {s : Setting} (r : Sent s) (start : Start) : Type 0 where
  pub before : List (List Counter)
  pub behind : List (List Counter)
  pub before_in_range : All IsCounter (together before)
  pub behind_in_range : All IsCounter (together behind)
  pub own_groups : list_any (is_of_other (session_of s.config) s.config.grouping)
      (together before ++ together behind) ≡ false
  pub counters : List Counter
  pub read : HasCounters (text_among (session_of s.config) (sg_of s.config.grouping) (told_ahead r) before behind)
      counters
  pub start_is : start ≡ resumed (start_of (session_of s.config) s.config.grouping counters)

-- a new one, where none came before
abbrev pub StartsBehind : {s : Setting} → List (Sent s) → Start → Type 0
StartsBehind [] start = start ≡ anew
StartsBehind (r ∷ before) start = StartsByFile r start

-- the newest first
abbrev pub GoOnByFiles : {s : Setting} → List (Sent s) → Type 0
GoOnByFiles [] = Unit {0}
GoOnByFiles (r ∷ before) = GoOnByFiles before × StartsBehind before r.start

-- Such runs go on at what was told ahead or at greater counters, and are the lives of a chain that goes on ahead. So no
-- number is given twice.
abbrev pub RunsByFilesGoOn : Type 0
RunsByFilesGoOn = (s : Setting) (runs : List (Sent s)) → IsSetting s → GoOnByFiles runs
    → GoOn runs × IsChainAhead s (map life_of runs)
