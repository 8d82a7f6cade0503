-- The first call of the first originator is the one that begins.
use Rattle.std.proofs.Common.{◌≡◌, true, false, ◌||◌, not, List, [], ◌∷◌, ◌++◌, refl, subst}
use Rattle.std.specs.Prelude.{None}
use Rattle.std.proofs.lemmas.Bool.{both_ways, not-false, or_left, or_right}
use Rattle.ss_origin.specs.declared.config.Config.{Config}
use Rattle.ss_origin.specs.declared.fault.OriginFault.TheVariants.{NotBegun, AlreadyBegun}
use Rattle.ss_origin.specs.Counting.{Start}
use Rattle.ss_origin.specs.Calls.{Call, Begin, Submit, Flush, has_begin}
use Rattle.ss_origin.specs.State.{state}
use Rattle.ss_origin.specs.Setting.{Setting}
use Rattle.ss_origin.specs.Refusals.{fault_of}
use Rattle.ss_origin.specs.Chain.{Turn, calls_of, AreTurns, start_behind}
use Rattle.ss_origin.specs.ChainLaws.{BeginsFirst}
use Rattle.ss_origin.proofs.CountersInRange.{none_first}
use Rattle.ss_origin.proofs.Sent.{turn_of, turns_of}

-- after an accepted call an originator has begun
begun_behind : (c : Config) (start : Start) (calls : List Call) (call : Call) → fault_of c (state c start calls) call ≡ None → (state c start (call ∷ calls)).begun ≡ true
begun_behind c start calls (Begin stamp) e = or_right start.begun true refl
begun_behind c start calls (Submit message stamp) e =
    let begun = (state c start calls).begun in not-false begun (none_first (not begun) NotBegun _ e).0
begun_behind c start calls (Flush stamp) e =
    let begun = (state c start calls).begun in not-false begun (none_first (not begun) NotBegun _ e).0

first_turn : (s : Setting) (start : Start) (earlier : List Turn) → AreTurns s start earlier → (state s.config start (calls_of earlier)).begun ≡ false → earlier ≡ []
first_turn s start [] turned e = refl
first_turn s start (u ∷ before) turned e =
    absurd (both_ways (state s.config start (calls_of (u ∷ before))).begun e (begun_behind s.config start (calls_of before) u.call turned.1))

first_originator : (s : Setting) (older : List (List Turn)) (calls : List Call) → (state s.config (start_behind s.config older) calls).begun ≡ false → older ≡ []
first_originator s [] calls e = refl
first_originator s (turns ∷ before) calls e = absurd (both_ways (true || has_begin calls) e (or_left true (has_begin calls) refl))

turns_before : (s : Setting) (start : Start) (later earlier : List Turn) (t : Turn) → AreTurns s start (later ++ t ∷ earlier) → AreTurns s start earlier
turns_before s start [] earlier t turned = turned.0
turns_before s start (u ∷ later) earlier t turned = turns_before s start later earlier t turned.0

pub begins_first : BeginsFirst
begins_first s newer older later earlier t stamp is begins =
    let start = start_behind s.config older in
    let turned = turns_of s newer older (later ++ t ∷ earlier) is.chained in
    let old = state s.config start (calls_of earlier) in
    let accepted : fault_of s.config old (Begin stamp) ≡ None = subst (λ k. fault_of s.config old k ≡ None) begins (turn_of s start later earlier t turned).0 in
    let not_begun = none_first old.begun AlreadyBegun None accepted in
    (first_originator s older (calls_of earlier) not_begun.0, first_turn s start earlier (turns_before s start later earlier t turned) not_begun.0)
