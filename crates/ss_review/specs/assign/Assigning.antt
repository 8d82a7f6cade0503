-- The places of all announced keys at once, from what each is announced with.
use Rattle.std.specs.Prelude.{◌==◌, ℕ, Bool, false, List, [], ◌∷◌, ◌++◌, map, find, count_by, slice_get}
use Rattle.std.specs.Prelude.{Option, Some, None, option_and_then}
use Rattle.ss_block.specs.declared.hash.Hash.{Hash}
use Rattle.ss_block.specs.declared.hash.HashPair.{HashPair}
use Rattle.ss_review.specs.declared.keep.message.NormalMessage.{NormalMessage}
use Rattle.ss_review.specs.assign.Assigned.{has_hash, pair_of_bearer, places_with, is_pair}

-- the two hashes that a key wants which is announced with this hash, or with none that counts
abbrev pub pair_wanted : List NormalMessage → Option Hash → Option HashPair
pair_wanted ms h = option_and_then (pair_of_bearer ms) h

abbrev pub pairs_wanted : List NormalMessage → List (Option Hash) → List (Option HashPair)
pairs_wanted ms hs = map (pair_wanted ms) hs

-- the number of a place is how many wanted these two hashes before
abbrev pub place_after : List NormalMessage → List (Option HashPair) → Option HashPair → Option ℕ
place_after ms before None = None
place_after ms before (Some p) = slice_get (places_with ms p) (count_by (is_pair p) before)

abbrev pub assigned_after : List NormalMessage → List (Option HashPair) → List (Option HashPair) → List (Option ℕ)
assigned_after ms before [] = []
assigned_after ms before (p ∷ ps) = place_after ms before p ∷ assigned_after ms (before ++ p ∷ []) ps

unfoldable pub assigned_all : List NormalMessage → List (Option Hash) → List (Option ℕ)
assigned_all ms hs = assigned_after ms [] (pairs_wanted ms hs)

-- the bearer whose hashes a key wants
abbrev pub bearer_wanted : List NormalMessage → Option Hash → Option NormalMessage
bearer_wanted ms h = option_and_then (λ g. find (λ m. has_hash g m.pair) ms) h

abbrev pub bearers_wanted : List NormalMessage → List (Option Hash) → List (Option NormalMessage)
bearers_wanted ms hs = map (bearer_wanted ms) hs

abbrev pub is_at : ℕ → Option NormalMessage → Bool
is_at place None = false
is_at place (Some m) = m.place == place
