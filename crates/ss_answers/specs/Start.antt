-- Where an originator of a session goes on by counters: of several that count the same, the greatest is right, as it is
-- for a review. Those of other sessions are left alone.
use Rattle.std.specs.Prelude.{◌≡◌, ℕ, ◌+◌, Bool, true, false, ◌&&◌, not, ◌==◌, if◌then◌else◌}
use Rattle.std.specs.Prelude.{List, [], ◌∷◌, ◌++◌, length}
use Rattle.std.specs.List.{flat_map, list_any}
use Rattle.ss_block.specs.declared.session.Session.{Session}
use Rattle.ss_origin.specs.declared.counters.Counters.{Counters}
use Rattle.ss_origin.specs.declared.counters.NextNumber.{NextNumber}
use Rattle.ss_origin.specs.declared.grouping.Grouping.{Grouping}
use Rattle.ss_origin.specs.Groups.{has_group, sg_of}
use Rattle.ss_origin.specs.State.{spris}
use Rattle.ss_review.specs.declared.counted.counter.Counter.{Counter}
use Rattle.ss_review.specs.declared.counted.counter.Counts.{Counts}
use Rattle.ss_review.specs.declared.counted.counter.Counts.TheVariants.{Blocks, Messages}
use Rattle.ss_review.specs.counted.Kept.{counters_of, kept_gbc, number_in}
use Rattle.ss_review.specs.sessions.Sessions.{same_session}
use Rattle.ss_answers.specs.declared.counters.start_fault.StartFault.{StartFault}
use Rattle.ss_answers.specs.declared.counters.start_fault.StartFault.TheVariants.{NoSession, OtherGroup, Memory}

-- ---- one counter

-- signature blocks are counted
abbrev pub counts_blocks : Counts → Bool
counts_blocks Blocks = true
counts_blocks (Messages g) = false

-- the counter is of this session's signature blocks
abbrev pub is_of_blocks : Session → Counter → Bool
is_of_blocks s c = same_session c.session s && counts_blocks c.counts

-- the grouping has what is counted
abbrev pub is_in : Grouping → Counts → Bool
is_in grouping Blocks = true
is_in grouping (Messages g) = (g.sg == sg_of grouping) && has_group grouping g.spri

-- the counter is of this session, and of a group that the grouping hasn't
abbrev pub is_of_other : Session → Grouping → Counter → Bool
is_of_other s grouping c = same_session c.session s && not (is_in grouping c.counts)

-- ---- where an originator goes on

-- the next number of a group, unless it is 0, which stands for none
abbrev pub number_if_said : ℕ → ℕ → List NextNumber
number_if_said spri number = if number == 0 then [] else record { spri = spri; number = number } ∷ []

-- the greatest next number of each group of this SG that the counters of a session say, by rising SPRI
abbrev pub numbers_in : List Counter → ℕ → List NextNumber
numbers_in own sg = flat_map (λ spri. number_if_said spri (number_in own (record { sg = sg; spri = spri }))) spris

abbrev pub start_of : Session → Grouping → List Counter → Counters
start_of s grouping cs =
    record { gbc = kept_gbc cs s; groups = numbers_in (counters_of cs s) (sg_of grouping) }

-- ---- why it doesn't

-- the counter with this number, from 1, is the first of the session whose group the grouping hasn't
pub record IsFirstOther (s : Session) (grouping : Grouping) (cs : List Counter) (number : ℕ) : Type 0 where
  pub before : List Counter
  pub other : Counter
  pub behind : List Counter
  pub counters_are : cs ≡ before ++ other ∷ behind
  pub none_before : list_any (is_of_other s grouping) before ≡ false
  pub is_other : is_of_other s grouping other ≡ true
  pub number_is : number ≡ length before + 1

-- what each fault says
abbrev pub IsStartFault : Session → Grouping → List Counter → StartFault → Type 0
IsStartFault s grouping cs NoSession = list_any (is_of_blocks s) cs ≡ false
IsStartFault s grouping cs (OtherGroup number) =
    (list_any (is_of_blocks s) cs ≡ true) × IsFirstOther s grouping cs number
IsStartFault s grouping cs Memory = Unit {0}
