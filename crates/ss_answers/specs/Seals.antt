-- Which signatures an answers file gives.
use Rattle.std.specs.Prelude.{◌≡◌, ◌≢◌, ℕ, Bool, false, List, Option, Some, None, Result, Ok, Err}
use Rattle.std.specs.Str.{bytes_eq}
use Rattle.ss_origin.specs.declared.sealer.SealFault.{SealFault}
use Rattle.ss_origin.specs.declared.sealer.SealFault.TheVariants.{Refused, Memory}
use Rattle.ss_origin.specs.Sealing.{Answers}
use Rattle.ss_payload.specs.Payload.{PayloadValue}
use Rattle.ss_answers.specs.declared.seals.GivenSeals.{GivenSeals}
use Rattle.ss_answers.specs.Answers.{Answer, seal_of}

-- the answers file that a sealer has its signatures from, if there is one
abbrev pub file_of : GivenSeals → Option (List Answer)
file_of s = s.answers

-- its key
abbrev pub key_of : GivenSeals → PayloadValue
key_of s = s.payload

-- Without a file everything is refused. With one a signature is that of the first `seal` line with these octets, and
-- octets are refused where there is none. Memory is wanted only for a signature that is there.
abbrev pub seals_of : Option (List Answer) → Answers
seals_of None octets answer = answer ≡ Err Refused
seals_of (Some lines) octets (Ok signature) = seal_of lines octets ≡ Some signature
seals_of (Some lines) octets (Err Refused) = seal_of lines octets ≡ None
seals_of (Some lines) octets (Err Memory) = seal_of lines octets ≢ None

-- asked for octets, a sealer with these lines answers so, and is the same then
abbrev pub asked_of : {J : Type 0} → Option (List Answer) → List ℕ → Result (List ℕ) SealFault → (old new : J) → Type 0
asked_of lines octets answer old new = (new ≡ old) × seals_of lines octets answer

-- the octets are given this signature: the first `seal` line with them has it
abbrev pub is_signature : List ℕ → Option (List ℕ) → Bool
is_signature signature None = false
is_signature signature (Some given) = bytes_eq given signature

abbrev pub is_given : Option (List Answer) → List ℕ → List ℕ → Bool
is_given None octets signature = false
is_given (Some lines) octets signature = is_signature signature (seal_of lines octets)
