-- Runs of one session that follow one another, whatever came of each. Each begins past all that the one before it may have
-- had signed.
use Rattle.std.specs.Prelude.{◌≡◌, ℕ, Bool, List, [], ◌∷◌, ◌++◌, map, reverse, Option, Result}
use Rattle.std.specs.List.{AllPairs, AllZip, flat_map}
use Rattle.ss_message.specs.Stamp.{Moment}
use Rattle.ss_frame.specs.Limits.{Allowance}
use Rattle.ss_frame.specs.Watched.{Source, Sink}
use Rattle.ss_frame.specs.declared.limits.Form.{Form}
use Rattle.ss_origin.specs.declared.counters.Counters.{Counters}
use Rattle.ss_origin.specs.declared.unsigned.Unsigned.{Unsigned}
use Rattle.ss_origin.specs.Ahead.{AreAtLeast}
use Rattle.ss_origin.specs.Asking.{Asking}
use Rattle.ss_origin.specs.AskedLaws.{Lists}
use Rattle.ss_origin.specs.Blocks.{unsigned_text}
use Rattle.ss_origin.specs.Counting.{Start, resumed}
use Rattle.ss_origin.specs.Sealing.{Answers}
use Rattle.ss_origin.specs.Setting.{Setting}
use Rattle.ss_origin.specs.State.{state, counters_of}
use Rattle.ss_signing.specs.declared.fault.SignFault.{SignFault}
use Rattle.ss_signing.specs.Accepted.{all_calls}
use Rattle.ss_signing.specs.AskedRun.{AskedRun}
use Rattle.ss_signing.specs.Jobs.{signing_from}
use Rattle.ss_signing.specs.Run.{Job, ReadsWhole, submitted}
use Rattle.ss_laws.specs.runs.SignedOnce.{ShareNoGbc, ShareNoNumber}

-- the counters with which a run ends that signs these messages, as `run_ahead` writes them
abbrev pub ends_with : Job → List (List ℕ) → Counters
ends_with job messages =
    counters_of (state job.setting.config job.start (reverse (all_calls job.start job.stamp (submitted job messages))))

-- Counters past all that a run may have signed: no less than those at its start, and than those with which it ends where
-- its log is read.
pub record IsPast (job : Job) (limits : Allowance) (before after : Source) (k : Counters) : Type 0 where
  pub from_start : AreAtLeast job.start.counters k
  pub from_log : (messages : List (List ℕ)) → ReadsWhole limits before after messages → AreAtLeast (ends_with job messages) k

-- A run, from its sealer to the one that it gave back, and what its clause `asked` says.
pub record Ran {J : Type 0} (s : Setting) (answers : J → Answers) (asked : Asking J) : Type 0 where
  pub start : Start
  pub stamp : Option Moment
  pub wraps : Bool
  pub out : Form
  pub limits : Allowance
  pub before : Source
  pub after : Source
  pub was : Sink
  pub is : Sink
  pub first : J
  pub last : J
  pub result : Result (Unit {0}) SignFault
  pub asks : AskedRun (signing_from start s (answers first) stamp wraps out) asked limits before after was is first last
      result

-- the first one may begin anywhere
abbrev pub BeginsPast : {J : Type 0} {s : Setting} {answers : J → Answers} {asked : Asking J} → List (Ran s answers asked)
    → Start → Type 0
BeginsPast [] start = Unit {0}
BeginsPast {s = s} {answers = answers} (r ∷ before) start =
    (k : Counters) × (start ≡ resumed k)
    × IsPast (signing_from r.start s (answers r.first) r.stamp r.wraps r.out) r.limits r.before r.after k

-- the newest first
abbrev pub GoOnPast : {J : Type 0} {s : Setting} {answers : J → Answers} {asked : Asking J} → List (Ran s answers asked)
    → Type 0
GoOnPast [] = Unit {0}
GoOnPast (r ∷ before) = GoOnPast before × BeginsPast before r.start

-- the blocks of all runs, one after another
abbrev pub together : List (List Unsigned) → List Unsigned
together blocks = flat_map (λ (own : List Unsigned). own) blocks

-- Each run has, in order, what is signed of its blocks asked for. Of the blocks of all runs, no two places have a hash for
-- one number of a group, or one GBC.
abbrev pub AreAskedOnce : {J : Type 0} {s : Setting} {answers : J → Answers} {asked : Asking J} → (J → List (List ℕ))
    → List (Ran s answers asked) → List (List Unsigned) → Type 0
AreAskedOnce {s = s} {answers = answers} {asked = asked} list runs blocks =
    AllZip
    (λ (r : Ran s answers asked) (own : List Unsigned). list r.last
    ≡ list r.first ++ map (unsigned_text s.config.head r.stamp) own)
    runs blocks
    × AllPairs ShareNoNumber (together blocks) × AllPairs ShareNoGbc (together blocks)

-- of the runs of a chain, with some blocks for each
abbrev pub RunsAheadSignOnce : {J : Type 0} → (J → Answers) → Asking J → Type 0
RunsAheadSignOnce {J} answers asked = (list : J → List (List ℕ)) → Lists asked list
    → (s : Setting) (runs : List (Ran s answers asked)) → GoOnPast runs
    → (blocks : List (List Unsigned)) × AreAskedOnce list runs blocks
