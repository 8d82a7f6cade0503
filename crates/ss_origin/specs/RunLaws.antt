-- What holds for the runs that calls close.
use Rattle.std.specs.Prelude.{◌≡◌, ℕ, ◌<◌, ◌≤◌, true, List, ◌∷◌, ◌++◌, length, map}
use Rattle.std.specs.List.{AllByRecursion}
use Rattle.ss_block.specs.declared.hash.Hash.{Hash}
use Rattle.ss_block.specs.Hashes.{hash_of}
use Rattle.ss_origin.specs.declared.config.Config.{Config}
use Rattle.ss_origin.specs.Groups.{is_grouping}
use Rattle.ss_origin.specs.Calls.{Call, Run, messages_of, pending_of, pending_hashes}
use Rattle.ss_origin.specs.State.{runs_closed}

-- A run that a call closes: the last messages of its group, after those that weren't pending.
pub record IsLastRun (c : Config) (calls : List Call) (call : Call) (r : Run) : Type 0 where
  pub front : List (List ℕ)
  pub run : List (List ℕ)
  pub before : messages_of c.grouping r.spri calls ≡ front ++ pending_of c r.spri calls
  pub messages : messages_of c.grouping r.spri (call ∷ calls) ≡ front ++ run
  pub hashes : r.hashes ≡ map (hash_of c.alg) run

abbrev pub RunsAreLast : Type 0
RunsAreLast = (c : Config) (calls : List Call) (call : Call)
    → AllByRecursion (IsLastRun c calls call) (runs_closed c (pending_hashes c calls) call)

-- a run has 1 to `per_block` messages
abbrev pub RunsFitBlocks : Type 0
RunsFitBlocks = (c : Config) (calls : List Call) (call : Call) → 1 ≤ c.per_block
    → AllByRecursion (λ r.
    (1 ≤ length r.hashes) × (length r.hashes ≤ c.per_block)) (runs_closed c (pending_hashes c calls) call)

-- the SPRI of a run is below 192
abbrev pub RunsHaveSmallSpris : Type 0
RunsHaveSmallSpris = (c : Config) (pending : ℕ → List Hash) (call : Call) → is_grouping c.grouping ≡ true
    → AllByRecursion (λ r. r.spri < 192) (runs_closed c pending call)
