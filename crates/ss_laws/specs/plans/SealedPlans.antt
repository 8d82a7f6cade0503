-- A plan whose lines all have a seal: where the same log is signed with these seals, none is refused.
use Rattle.std.specs.Prelude.{◌≡◌, ◌⊎◌, ◌↔◌, ℕ, ◌≤◌, Bool, List, [], ◌∷◌, ◌++◌, length, map, Option, Some}
use Rattle.std.specs.Prelude.{Result, Ok, Err, Contains}
use Rattle.base64.specs.GeneralPurpose.{IsBytes}
use Rattle.ss_octets.specs.Ascii.{lf}
use Rattle.ss_message.specs.Stamp.{Moment}
use Rattle.ss_frame.specs.Limits.{Allowance, InRange}
use Rattle.ss_frame.specs.declared.limits.Form.{Form}
use Rattle.ss_frame.specs.Watched.{Source, Sink}
use Rattle.ss_origin.specs.declared.fault.OriginFault.{OriginFault}
use Rattle.ss_origin.specs.declared.fault.OriginFault.TheVariants.{SealRefused, SignatureLength}
use Rattle.ss_origin.specs.declared.sealer.SealFault.{SealFault}
use Rattle.ss_origin.specs.declared.sealer.SealFault.TheVariants.{Refused, Memory}
use Rattle.ss_origin.specs.Calls.{Call}
use Rattle.ss_origin.specs.Counting.{Start}
use Rattle.ss_origin.specs.Sealing.{Answers}
use Rattle.ss_origin.specs.Setting.{Setting}
use Rattle.ss_answers.specs.Answers.{Answer, Seal, HasLines, SaysTheSame, line_text}
use Rattle.ss_answers.specs.Lines.{ended}
use Rattle.ss_answers.specs.Seals.{seals_of}
use Rattle.ss_signing.specs.declared.fault.SignFault.TheVariants.{Origin}
use Rattle.ss_signing.specs.Accepted.{all_calls, Accepts}
use Rattle.ss_signing.specs.Jobs.{planned, planning_from, signing_from}
use Rattle.ss_signing.specs.PlanLaws.{signed_among}
use Rattle.ss_signing.specs.Run.{RefusesAt, Signs, Stops}
use Rattle.ss_signing.specs.Wants.{want_line, want_lines}
use Rattle.ss_laws.specs.plans.Known.{Shows, Wrote}

-- ---- the lines of a plan

-- what stands before a line: nothing, or lines
abbrev pub AreLinesBefore : List ℕ → Type 0
AreLinesBefore before = (before ≡ []) ⊎ ((front : List ℕ) × (before ≡ front ++ lf ∷ []))

-- a plan has a line `want` with these octets, each below 256
pub record IsWanted (plan octets : List ℕ) : Type 0 where
  pub bytes : IsBytes octets
  pub before : List ℕ
  pub behind : List ℕ
  pub lines_before : AreLinesBefore before
  pub there : plan ≡ before ++ (want_line octets ++ behind)

-- ---- seals that are taken

-- an answer that an originator takes, or by which it runs out of memory
abbrev pub IsSeal : Result (List ℕ) SealFault → Type 0
IsSeal (Ok signature) = (1 ≤ length signature) × (length signature ≤ 1024)
IsSeal (Err Refused) = ⊥
IsSeal (Err Memory) = Unit {0}

-- For each line of the plan, whatever the sealer may answer for its octets is such an answer.
abbrev pub SealsPlan : Answers → (plan : List ℕ) → Type 0
SealsPlan answers plan =
    (octets : List ℕ) → IsWanted plan octets → (answer : Result (List ℕ) SealFault) → answers octets answer → IsSeal answer

-- O6: octets have no seal; O7: it isn't 1 to 1,024 octets
abbrev pub IsOfSeal : OriginFault → Type 0
IsOfSeal fault = (fault ≡ SealRefused) ⊎ (fault ≡ SignatureLength)

-- ---- the laws

-- The calls for some messages were accepted where a plan was made. If this sealer seals its lines, signing the same
-- messages isn't refused for a seal: no call, and not at the start. The start, the stamp and the payload are the same, and
-- so is the configuration except `copies`. The scheme is any, and so is the form in which messages are written.
abbrev pub RefusesNoSealOfMessages : Answers → Type 0
RefusesNoSealOfMessages answers =
    (s : Setting) (start : Start) (stamp : Option Moment) (messages for_plan : List (List ℕ))
    → Accepts (planned s.config s.payload) start (all_calls start stamp messages) for_plan
    → SealsPlan answers (want_lines for_plan)
    → (wraps : Bool) (form : Form) (place : Option ℕ) (fault : OriginFault)
    → RefusesAt (signing_from start s answers stamp wraps form) messages place fault → ¬ IsOfSeal fault

-- so it is of each sealer of a type
abbrev pub SealedMessagesAreNotRefused : {J : Type 0} → (J → Answers) → Type 0
SealedMessagesAreNotRefused {J} answers = (sealer : J) → RefusesNoSealOfMessages (answers sealer)

-- A plan was written of a log: by a run that succeeded, whose reader showed the log, and whose writer shows the plan.
pub record IsPlanOfLog (s : Setting) (start : Start) (stamp : Option Moment) (wraps : Bool) (limits : Allowance)
    (log plan : List ℕ) : Type 0 where
  pub before : Source
  pub after : Source
  pub was : Sink
  pub is : Sink
  pub log_shown : Shows before log
  pub run : Signs (planning_from start s.config s.payload stamp wraps) limits before after was is
  pub plan_written : Wrote was is plan

-- A run that signs the log, with this sealer and the same choice of wraps, isn't refused for a seal.
abbrev pub RefusesNoSeal : Setting → Start → Option Moment → (wraps : Bool) → Allowance → Answers → (log : List ℕ)
    → Type 0
RefusesNoSeal s start stamp wraps limits answers log =
    (form : Form) (before after : Source) (was is : Sink) (place : Option ℕ) (fault : OriginFault)
    → Shows before log
    → Stops (signing_from start s answers stamp wraps form) limits before after was is (Origin fault place)
    → ¬ IsOfSeal fault

-- The same from octets to octets, for the same log and limits.
abbrev pub RefusesNoSealOfPlans : Answers → Type 0
RefusesNoSealOfPlans answers =
    (s : Setting) (start : Start) (stamp : Option Moment) (wraps : Bool) (limits : Allowance) (log plan : List ℕ)
    → InRange limits.max_len limits.max_messages
    → IsPlanOfLog s start stamp wraps limits log plan
    → SealsPlan answers plan
    → RefusesNoSeal s start stamp wraps limits answers log

abbrev pub SealedPlansAreNotRefused : {J : Type 0} → (J → Answers) → Type 0
SealedPlansAreNotRefused {J} answers = (sealer : J) → RefusesNoSealOfPlans (answers sealer)

-- ---- the sealer of the program, which has its seals from an answers file

-- each line `want` of the plan has a line `seal`, and none that has more than 1,024 octets
pub record HasSeals (lines : List Answer) (plan : List ℕ) : Type 0 where
  pub there : (octets : List ℕ) → IsWanted plan octets → (signature : List ℕ) × Contains lines (Seal octets signature)
  pub short : (octets signature : List ℕ) → IsWanted plan octets → Contains lines (Seal octets signature)
      → length signature ≤ 1024

-- A text is read as these lines. The sealer has them as answers, in any order that says the same. If they have a seal
-- for each line of the plan, the run that signs isn't refused for a seal.
abbrev pub PlansWithSealsAreNotRefused : Type 0
PlansWithSealsAreNotRefused =
    (s : Setting) (start : Start) (stamp : Option Moment) (wraps : Bool) (limits : Allowance) (log plan : List ℕ)
    (file : List ℕ) (lines answers : List Answer)
    → InRange limits.max_len limits.max_messages
    → IsPlanOfLog s start stamp wraps limits log plan
    → HasLines file lines
    → SaysTheSame lines answers
    → HasSeals lines plan
    → RefusesNoSeal s start stamp wraps limits (seals_of (Some answers)) log

-- ---- the premises can be met

-- The lines of a plan have the octets that are signed of its block messages, and no others. Whatever signature of 1 to
-- 1,024 octets each of them is given, the file that gives it is read as its lines, and has a seal for each line.
pub record CanBeSealed (for_plan : List (List ℕ)) : Type 0 where
  pub lines : (octets : List ℕ) → IsWanted (want_lines for_plan) octets ↔ Contains (signed_among for_plan) octets
  pub file : (signature : List ℕ) → IsBytes signature → 1 ≤ length signature → length signature ≤ 1024
      → let seals = map (λ octets. Seal octets signature) (signed_among for_plan) in
      HasLines (ended line_text seals) seals × HasSeals seals (want_lines for_plan)

-- so it is of each plan that was accepted
abbrev pub EachPlanCanBeSealed : Type 0
EachPlanCanBeSealed = (s : Setting) (start : Start) (calls : List Call) (for_plan : List (List ℕ))
    → Accepts s start calls for_plan → CanBeSealed for_plan
