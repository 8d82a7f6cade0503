-- Which numbers the messages of a chain have, as one whose originators go on ahead.
use Rattle.std.specs.Prelude.{◌≡◌, ◌↔◌, ℕ, ◌-◌, ◌<◌, ◌≤◌, List, slice_get, Some}
use Rattle.ss_origin.specs.declared.config.Config.{Config}
use Rattle.ss_origin.specs.Ahead.{lives_of}
use Rattle.ss_origin.specs.Chain.{Turn, IsChain, given_to}
use Rattle.ss_origin.specs.Groups.{group_of}
use Rattle.ss_origin.specs.Setting.{Setting}
use Rattle.ss_review.specs.announced.Announced.{Key}
use Rattle.ss_review.specs.deliveries.AheadDelivery.{HasNumber}

-- the message stands at the place of the number, counted from 1, among those of its group that the chain was given
pub record IsPlaced (c : Config) (chain : List (List Turn)) (k : Key) (message : List ℕ) : Type 0 where
  pub group : k.group ≡ group_of c.grouping k.group.spri
  pub small : k.group.spri < 192
  pub some : 1 ≤ k.number
  pub given : slice_get (given_to c k.group.spri chain) (k.number - 1) ≡ Some message

-- If originators go on from exactly the last counters, a message has the number of its place, and no other.
abbrev pub NumbersOfChainsArePlaces : Type 0
NumbersOfChainsArePlaces = (s : Setting) (chain : List (List Turn)) → IsChain s chain → (k : Key) (message : List ℕ)
    → HasNumber s.config (lives_of s.config chain) k message ↔ IsPlaced s.config chain k message
