-- What holds of all that fragments can state.
use Rattle.std.specs.Prelude.{◌≡◌, ◌≤◌, ◌↔◌, ℕ, List, length, map}
use Rattle.std.specs.List.{Any, Contains}
use Rattle.ss_payload.specs.declared.joiner.JoinState.{JoinState}
use Rattle.ss_payload.specs.declared.joiner.JoinState.TheVariants.{Whole}
use Rattle.ss_payload.specs.declared.cuts.Cut.{Cut}
use Rattle.ss_payload.specs.Cuts.{AreCuts}
use Rattle.ss_payload.specs.Fragments.{Fragment, States, stated_by, fragment_of}
use Rattle.ss_payload.specs.Joining.{Stated, HasTotal, HasOctet, with_fragment, IsDisputed, HasState, IsPayload}

-- what is disputed stays so, whatever fragment comes
abbrev pub DisputesStay : Type 0
DisputesStay =
    (stated : Stated) (total index : ℕ) (octets : List ℕ) → IsDisputed stated
    → IsDisputed (with_fragment stated total index octets)

-- two fragments state the same in either order
abbrev pub OrderIsFree : Type 0
OrderIsFree =
    (stated : Stated) (total index other_total other_index : ℕ) (octets other_octets : List ℕ)
    → with_fragment (with_fragment stated total index octets) other_total other_index other_octets
    ≡ with_fragment (with_fragment stated other_total other_index other_octets) total index octets

-- a fragment that comes again states nothing more
abbrev pub RepeatsAreFree : Type 0
RepeatsAreFree =
    (stated : Stated) (total index : ℕ) (octets : List ℕ)
    → with_fragment (with_fragment stated total index octets) total index octets
    ≡ with_fragment stated total index octets

-- what is stated has one state
abbrev pub OneState : Type 0
OneState = (stated : Stated) (state other : JoinState) → HasState stated state → HasState stated other → state ≡ other

-- and one payload, unless it is disputed
abbrev pub OnePayload : Type 0
OnePayload =
    (stated : Stated) (text other : List ℕ) → ¬ IsDisputed stated → IsPayload stated text → IsPayload stated other
    → text ≡ other

-- fragments state a total exactly if some fragment states it
abbrev pub TotalsAreOfFragments : Type 0
TotalsAreOfFragments =
    (fragments : List Fragment) (total : ℕ) → HasTotal (stated_by fragments) total
    ↔ Any (λ f. f.total ≡ total) fragments

-- and an octet at an index exactly if some fragment has it there
abbrev pub OctetsAreOfFragments : Type 0
OctetsAreOfFragments =
    (fragments : List Fragment) (index octet : ℕ) → HasOctet (stated_by fragments) index octet
    ↔ Any (λ f. States f index octet) fragments

-- The pieces of a text, sent in any order and as often as one likes, are a whole payload, which is the text.
abbrev pub PiecesAreWhole : Type 0
PiecesAreWhole =
    (text : List ℕ) (size : ℕ) (cuts sent : List Cut)
    → 1 ≤ length text
    → 1 ≤ size
    → AreCuts (length text) size cuts
    → ((c : Cut) → Contains sent c ↔ Contains cuts c)
    → HasState (stated_by (map (fragment_of text) sent)) Whole
    × IsPayload (stated_by (map (fragment_of text) sent)) text
