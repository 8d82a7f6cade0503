-- What the runs of a chain hold.
use Rattle.std.specs.Prelude.{◌≡◌, ℕ, ◌+◌, ◌<◌, List, ◌∷◌, ◌++◌, length, map}
use Rattle.std.specs.List.{AllByRecursion}
use Rattle.ss_block.specs.declared.hash.Hash.{Hash}
use Rattle.ss_block.specs.Hashes.{hash_of}
use Rattle.ss_origin.specs.declared.config.Config.{Config}
use Rattle.ss_origin.specs.State.{state, pending_in, first_pending, runs_closed}
use Rattle.ss_origin.specs.Chain.{Turn, calls_of, start_behind, given_to}

-- The hashes are those of the messages from this number on, counted from 1.
pub record AreNumbered (c : Config) (messages : List (List ℕ)) (first : ℕ) (hashes : List Hash) : Type 0 where
  pub front : List (List ℕ)
  pub run : List (List ℕ)
  pub behind : List (List ℕ)
  pub messages_are : messages ≡ front ++ (run ++ behind)
  pub hashes_are : hashes ≡ map (hash_of c.alg) run
  pub first_is : first ≡ 1 + length front

-- A run that a turn of a chain closes holds the hashes of the messages that the chain was given for its group, from its
-- block's FMN on.
abbrev pub RunsAreNumbered : Type 0
RunsAreNumbered = (c : Config) (newer older : List (List Turn)) (later earlier : List Turn) (t : Turn)
    → let s = state c (start_behind c older) (calls_of earlier) in
    AllByRecursion
    (λ r. r.spri < 192
    → AreNumbered c (given_to c r.spri (newer ++ (later ++ t ∷ earlier) ∷ older)) (first_pending s r.spri) r.hashes)
    (runs_closed c (pending_in s) t.call)
