-- What a sealer that lists what it is asked has listed after a call.
use Rattle.std.specs.Prelude.{◌≡◌, ℕ, List, [], ◌∷◌, ◌++◌, map, Result}
use Rattle.ss_origin.specs.declared.fault.OriginFault.{OriginFault}
use Rattle.ss_origin.specs.declared.sealer.SealFault.{SealFault}
use Rattle.ss_origin.specs.declared.unsigned.Unsigned.{Unsigned}
use Rattle.ss_origin.specs.Asked.{SealsDue, StopsDue}
use Rattle.ss_origin.specs.Asking.{Asking}
use Rattle.ss_origin.specs.Blocks.{unsigned_text}
use Rattle.ss_origin.specs.Calls.{Call, stamp_of}
use Rattle.ss_origin.specs.Emission.{AreDue}
use Rattle.ss_origin.specs.Setting.{Setting}
use Rattle.ss_origin.specs.State.{State}

-- whatever it answers, its list grows by the octets
abbrev pub Lists : {J : Type 0} → Asking J → (J → List (List ℕ)) → Type 0
Lists {J} asked list =
    (old new : J) (octets : List ℕ) (answer : Result (List ℕ) SealFault) → asked old octets answer new
    → list new ≡ list old ++ octets ∷ []

-- what is signed of these blocks, in order
abbrev pub texts_of : Setting → Call → List Unsigned → List (List ℕ)
texts_of s call blocks = map (unsigned_text s.config.head (stamp_of call)) blocks

-- After an accepted call it has listed what is signed of the blocks that are due, in order, each once.
abbrev pub ListsWhatIsDue : {J : Type 0} → Asking J → Type 0
ListsWhatIsDue {J} asked =
    (list : J → List (List ℕ)) → Lists asked list
    → (s : Setting) (state : State) (call : Call) (emitted : List (List ℕ)) (old new : J)
    → SealsDue s asked state call emitted old new
    → (due : List Unsigned) × AreDue s state call due × (list new ≡ list old ++ texts_of s call due)

-- After a refused call it has listed that of the first of them, or nothing.
abbrev pub ListsTheFirstDue : {J : Type 0} → Asking J → Type 0
ListsTheFirstDue {J} asked =
    (list : J → List (List ℕ)) → Lists asked list
    → (s : Setting) (state : State) (call : Call) (fault : OriginFault) (old new : J)
    → StopsDue s asked state call fault old new
    → (first behind : List Unsigned) × AreDue s state call (first ++ behind)
    × (list new ≡ list old ++ texts_of s call first)
