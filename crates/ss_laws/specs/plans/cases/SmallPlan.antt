-- A small log, its plan, and the counters that were written ahead for it: the premises of the laws are met.
use Rattle.std.specs.Prelude.{◌≡◌, ℕ, false, List, [], ◌∷◌, length, Some, None}
use Rattle.ss_frame.specs.Frame.{frames}
use Rattle.ss_frame.specs.Limits.{Allowance, InRange}
use Rattle.ss_frame.specs.declared.limits.Form.TheVariants.{Frames}
use Rattle.ss_origin.specs.declared.fault.OriginFault.TheVariants.{SealRefused}
use Rattle.ss_origin.specs.Counting.{anew}
use Rattle.ss_review.specs.deliveries.SmallChains.{block, certificate, message, small}
use Rattle.ss_answers.specs.Seals.{seals_of}
use Rattle.ss_signing.specs.Accepted.{all_calls, Accepts}
use Rattle.ss_signing.specs.GoingOn.{Sent}
use Rattle.ss_signing.specs.Jobs.{planned, signing_from}
use Rattle.ss_signing.specs.PlanLaws.{signed_among}
use Rattle.ss_signing.specs.Run.{RefusesAt}
use Rattle.ss_signing.specs.Wants.{want_lines}
use Rattle.ss_laws.specs.plans.FileStarts.{StartsByFile}
use Rattle.ss_laws.specs.plans.SealedPlans.{IsPlanOfLog}

abbrev pub limits : Allowance
limits = record { max_len = 2048; max_messages = 10; form = Frames }

-- one message, and what a new originator emits for it
abbrev pub log : List ℕ
log = frames (message 49 ∷ [])

abbrev pub emitted : List (List ℕ)
emitted = certificate ∷ message 49 ∷ block 0 1 (message 49 ∷ []) ∷ []

-- A plan of the log was accepted, and was written by a run. It has two lines. So a file has a seal for each, as of each plan
-- that was accepted. Without a file's line for the first block, `begin` is refused for its seal.
--
-- A run was new, and another one started by the file that the first one wrote ahead.
pub record SmallPlanIsThis : Type 0 where
  pub range : InRange limits.max_len limits.max_messages
  pub accepted : Accepts (planned small.config small.payload) anew (all_calls anew None (message 49 ∷ [])) emitted
  pub of_log : IsPlanOfLog small anew None false limits log (want_lines emitted)
  pub two_lines : length (signed_among emitted) ≡ 2
  pub unsealed : RefusesAt (signing_from anew small (seals_of (Some [])) None false Frames) (message 49 ∷ []) None SealRefused
  pub first : Sent small
  pub first_is_new : first.start ≡ anew
  pub next : Sent small
  pub next_by_file : StartsByFile first next.start
