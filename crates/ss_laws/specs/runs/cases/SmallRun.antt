-- A small run that fails: memory runs out after the sealer signed the last block, and nothing of it is written. And blocks
-- that no run asks for together.
use Rattle.std.specs.Prelude.{◌≡◌, ℕ, false, List, [], ◌∷◌, ◌++◌, map, Some, None, Result, Ok, Err}
use Rattle.std.specs.List.{AllPairs}
use Rattle.ss_payload.specs.Payload.{payload_text}
use Rattle.ss_frame.specs.Frame.{units_in}
use Rattle.ss_frame.specs.Limits.{Allowance}
use Rattle.ss_frame.specs.Watched.{Source, Sink}
use Rattle.ss_frame.specs.declared.limits.Form.TheVariants.{Frames}
use Rattle.ss_block.specs.declared.hash.Alg.TheVariants as algs
use Rattle.ss_block.specs.Block as block
use Rattle.ss_block.specs.Hashes.{hash_of}
use Rattle.ss_origin.specs.declared.unsigned.Unsigned.{Unsigned}
use Rattle.ss_origin.specs.declared.unsigned.Unsigned.TheVariants.{Signature}
use Rattle.ss_origin.specs.Asking.{Asking}
use Rattle.ss_origin.specs.AskedLaws.{Lists}
use Rattle.ss_origin.specs.Blocks.{unsigned_text}
use Rattle.ss_origin.specs.Counting.{anew}
use Rattle.ss_origin.specs.Emission.{certificate_of, signature_in}
use Rattle.ss_origin.specs.Sealing.{Answers}
use Rattle.ss_report.specs.declared.fault.RunFault.TheVariants as run
use Rattle.ss_review.specs.deliveries.SmallChains.{mark, small, message}
use Rattle.ss_signing.specs.declared.fault.SignFault.{SignFault}
use Rattle.ss_signing.specs.declared.fault.SignFault.TheVariants as faults
use Rattle.ss_signing.specs.AskedRun.{AskedRun}
use Rattle.ss_signing.specs.Jobs.{signing_from}
use Rattle.ss_signing.specs.Run.{Job}
use Rattle.ss_laws.specs.runs.SignedOnce.{AreSignedOnce, HasListed, ShareNoGbc, ShareNoNumber}

-- ---- the sealer

-- It is the list of what it was asked to sign. Asked to sign anything, it gives the mark.
abbrev pub Marker : Type 0
Marker = List (List ℕ)

abbrev pub gives_mark : Marker → Answers
gives_mark sealer octets answer = answer ≡ Ok mark

abbrev pub lists_mark : Asking Marker
lists_mark old octets answer new = (answer ≡ Ok mark) × (new ≡ old ++ octets ∷ [])

abbrev pub as_listed : Marker → List (List ℕ)
as_listed sealer = sealer

-- ---- the run

-- of a new originator, as frames
abbrev pub small_job : Job
small_job = signing_from anew small (gives_mark []) None false Frames

-- two messages, which fill a block, and one more
abbrev pub small_log : List (List ℕ)
small_log = message 49 ∷ message 50 ∷ message 51 ∷ []

abbrev pub small_limits : Allowance
small_limits = record { max_len = 100; max_messages = 3; form = Frames }

abbrev pub whole_log : Source
whole_log = record { left = Some (units_in Frames small_log); failed = false }

abbrev pub no_log : Source
no_log = record { left = Some []; failed = false }

abbrev pub nothing_written : Sink
nothing_written = record { written = Some []; failed = false }

abbrev pub out_of_memory : Result (Unit {0}) SignFault
out_of_memory = Err (faults.Run run.Memory)

-- ---- what is asked

-- a signature block with this GBC, of these messages, the first of which has this number
abbrev pub block_of : ℕ → ℕ → List (List ℕ) → block.Signature
block_of gbc first messages = signature_in small.config 0 gbc first (map (hash_of algs.Sha256) messages)

-- of the first two messages, which `submit` has signed, and of the third one, which `flush` has signed
abbrev pub first_block : block.Signature
first_block = block_of 0 1 (message 49 ∷ message 50 ∷ [])

abbrev pub last_block : block.Signature
last_block = block_of 1 3 (message 51 ∷ [])

abbrev pub certificate_due : Unsigned
certificate_due = certificate_of small.config (payload_text small.payload) (record { index = 1; len = 3 })

-- what is signed of the payload's one piece and of these two
abbrev pub small_octets : Marker
small_octets = map (unsigned_text small.config.head None) (certificate_due ∷ Signature first_block ∷ Signature last_block ∷ [])

-- A run that asked for three blocks, though it failed, and the law of it. Not all blocks share nothing: two of these have a
-- hash for the number 2, and two the GBC 0.
pub record SmallRunIsThis : Type 0 where
  pub lists : Lists lists_mark as_listed
  pub asked : AskedRun small_job lists_mark small_limits whole_log no_log nothing_written nothing_written [] small_octets
      out_of_memory
  pub once : HasListed as_listed [] small_octets (AreSignedOnce small.config.head None)
  pub one_number_twice : ¬ AllPairs ShareNoNumber (Signature first_block ∷ Signature (block_of 1 2 (message 51 ∷ [])) ∷ [])
  pub one_gbc_twice : ¬ AllPairs ShareNoGbc (Signature first_block ∷ Signature (block_of 0 3 (message 51 ∷ [])) ∷ [])
