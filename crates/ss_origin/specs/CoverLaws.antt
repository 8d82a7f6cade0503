-- Which messages are in runs.
use Rattle.std.specs.Prelude.{◌≡◌, ℕ, ◌+◌, ◌<◌, ◌≤◌, ◌==◌, List, [], ◌∷◌, ◌++◌, length, map, filter}
use Rattle.std.specs.List.{Contains, flat_map}
use Rattle.ss_block.specs.Hashes.{hash_of}
use Rattle.ss_origin.specs.declared.config.Config.{Config}
use Rattle.ss_origin.specs.Calls.{Call, Run, messages_of, pending_of, pending_hashes}
use Rattle.ss_origin.specs.State.{runs_closed}

-- the runs of a group that calls closed, the oldest first
abbrev pub runs_of : Config → ℕ → List Call → List Run
runs_of c spri [] = []
runs_of c spri (call ∷ before) =
    runs_of c spri before ++ filter (λ r. r.spri == spri) (runs_closed c (pending_hashes c before) call)

-- The messages of a group are those of its runs, one after the other, and then those that are pending. So each is in
-- one run, or pending.
abbrev pub MessagesFallIntoRuns : Type 0
MessagesFallIntoRuns = (c : Config) (calls : List Call) (spri : ℕ) → 1 ≤ c.per_block → spri < 192
    → map (hash_of c.alg) (messages_of c.grouping spri calls) ≡ flat_map (λ r.
    r.hashes) (runs_of c spri calls) ++ pending_hashes c calls spri

-- One of the calls closes a run of the group in which the message number j, from 0, is.
pub record IsInRun (c : Config) (calls : List Call) (spri j : ℕ) : Type 0 where
  pub later : List Call
  pub call : Call
  pub earlier : List Call
  pub calls_are : calls ≡ later ++ call ∷ earlier
  pub run : Run
  pub closed : Contains (runs_closed c (pending_hashes c earlier) call) run
  pub group : run.spri ≡ spri
  pub front : ℕ
  pub before : front + length (pending_of c spri earlier) ≡ length (messages_of c.grouping spri earlier)
  pub low : front ≤ j
  pub high : j < front + length run.hashes

-- All messages except those that are pending are in runs.
abbrev pub OthersAreInRuns : Type 0
OthersAreInRuns = (c : Config) (calls : List Call) (spri j : ℕ) → 1 ≤ c.per_block → spri < 192
    → j + length (pending_of c spri calls) < length (messages_of c.grouping spri calls) → IsInRun c calls spri j
