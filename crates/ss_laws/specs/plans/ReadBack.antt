-- What `run_ahead` writes, read as a counters file: which counters these are, and where an originator goes on by them.
use Rattle.std.specs.Prelude.{◌≡◌, ◌⊎◌, ℕ, ◌<◌, ◌≤◌, ◌==◌, Bool, true, false, max, if◌then◌else◌}
use Rattle.std.specs.Prelude.{List, [], ◌∷◌, ◌++◌, map, flat_map, reverse, All, Option, Some}
use Rattle.std.specs.List.{list_any}
use Rattle.ss_message.specs.Stamp.{Moment}
use Rattle.ss_frame.specs.Limits.{Allowance}
use Rattle.ss_frame.specs.Watched.{Source, Sink}
use Rattle.ss_payload.specs.Payload.{PayloadValue}
use Rattle.ss_block.specs.declared.session.Session.{Session}
use Rattle.ss_block.specs.Writing.{head_session}
use Rattle.ss_origin.specs.declared.config.Config.{Config}
use Rattle.ss_origin.specs.declared.counters.Counters.{Counters}
use Rattle.ss_origin.specs.declared.counters.NextNumber.{NextNumber}
use Rattle.ss_origin.specs.declared.grouping.Grouping.{Grouping}
use Rattle.ss_origin.specs.Counting.{Start, are_counters}
use Rattle.ss_origin.specs.Groups.{group_of, is_grouping, sg_of}
use Rattle.ss_origin.specs.State.{state, counters_of, spris}
use Rattle.ss_review.specs.declared.counted.counter.Counter.{Counter}
use Rattle.ss_review.specs.declared.counted.counter.Counts.TheVariants.{Blocks, Messages}
use Rattle.ss_review.specs.counted.CounterRange.{IsSession, IsCounter}
use Rattle.ss_review.specs.counted.Kept.{kept_gbc, kept_number}
use Rattle.ss_answers.specs.declared.counters.fault.CounterFault.{CounterFault}
use Rattle.ss_answers.specs.declared.counters.fault.CounterFault.TheVariants as reads
use Rattle.ss_answers.specs.declared.counters.start_fault.StartFault.{StartFault}
use Rattle.ss_answers.specs.declared.counters.start_fault.StartFault.TheVariants as starts
use Rattle.ss_answers.specs.CounterInput.{IsCounterFault}
use Rattle.ss_answers.specs.CounterFile.{HasCounters, HasOnly, text_of_parts, together}
use Rattle.ss_answers.specs.Start.{IsStartFault, is_of_other, number_if_said, start_of}
use Rattle.ss_signing.specs.Accepted.{all_calls}
use Rattle.ss_signing.specs.Ahead.{counters_text}
use Rattle.ss_signing.specs.Jobs.{going_ahead}
use Rattle.ss_signing.specs.Run.{Signs, submitted}
use Rattle.ss_laws.specs.plans.Known.{Wrote}

-- ---- the counters of the lines

-- that of a group of this SG
abbrev pub number_saved : Session → (sg : ℕ) → NextNumber → Counter
number_saved s sg n =
    record { session = s; counts = Messages (record { sg = sg; spri = n.spri }); next = n.number }

-- that of the next GBC, and that of each next number
abbrev pub saved : Session → (sg : ℕ) → Counters → List Counter
saved s sg k = record { session = s; counts = Blocks; next = k.gbc } ∷ map (number_saved s sg) k.groups

-- ---- where an originator goes on by a text

-- The text is read as these counters and no others, none of its lines is refused, and it is whole. It isn't too long for
-- a file. So a file with it is refused only if a read fails, or if memory runs out.
pub record IsReadAs (text : List ℕ) (counters : List Counter) : Type 0 where
  pub only : HasOnly text counters
  pub faults : (after : Option (List ℕ)) (fault : CounterFault)
      → IsCounterFault (Some text) after 4294967295 fault → (fault ≡ reads.Read) ⊎ (fault ≡ reads.Memory)

-- An originator of this session and grouping goes on exactly at these counters, whatever counters the text is read as.
-- It is refused only if memory runs out.
pub record GoesOnAt (s : Session) (grouping : Grouping) (text : List ℕ) (k : Counters) : Type 0 where
  pub there : (counters : List Counter) → HasCounters text counters → start_of s grouping counters ≡ k
  pub refused : (counters : List Counter) (fault : StartFault)
      → HasCounters text counters → IsStartFault s grouping counters fault → fault ≡ starts.Memory

pub record IsReadBack (s : Session) (grouping : Grouping) (k : Counters) (text : List ℕ) : Type 0 where
  pub read : IsReadAs text (saved s (sg_of grouping) k)
  pub goes_on : GoesOnAt s grouping text k

-- What is written ahead of counters in their ranges is read back as them, whatever the session and the grouping.
abbrev pub AheadIsReadBack : Type 0
AheadIsReadBack =
    (s : Session) (grouping : Grouping) (k : Counters)
    → IsSession s → is_grouping grouping ≡ true → are_counters grouping k ≡ true
    → IsReadBack s grouping k (counters_text s (sg_of grouping) k)

-- ---- among other counters

-- parts with other counters stand before and after, as where files are put together
abbrev pub text_among : Session → (sg : ℕ) → Counters → (before behind : List (List Counter)) → List ℕ
text_among s sg k before behind = text_of_parts before ++ (counters_text s sg k ++ text_of_parts behind)

abbrev pub saved_among : Session → (sg : ℕ) → Counters → (before behind : List Counter) → List Counter
saved_among s sg k before behind = before ++ (saved s sg k ++ behind)

-- the number that counters have for a group's next message, or 0 where they don't name the group
abbrev pub number_of : List NextNumber → ℕ → ℕ
number_of [] spri = 0
number_of (n ∷ numbers) spri = if n.spri == spri then n.number else number_of numbers spri

-- the greater one of what these counters have and what the others say of the session: of the next GBC, and of the next
-- number of each group, unless neither says one
abbrev pub greater : Session → Grouping → Counters → (others : List Counter) → Counters
greater s grouping k others = record {
  gbc = max k.gbc (kept_gbc others s);
  groups = flat_map (λ spri.
      number_if_said spri (max (number_of k.groups spri) (kept_number others s (group_of grouping spri)))) spris;
}

-- A text with other counters too, before and after, is read as all of them. An originator goes on at the greater ones.
-- It is refused only if one of the others is of a group that it hasn't, or if memory runs out.
pub record IsReadAmong (s : Session) (grouping : Grouping) (k : Counters) (before behind : List (List Counter))
    : Type 0 where
  pub read : HasOnly (text_among s (sg_of grouping) k before behind)
      (saved_among s (sg_of grouping) k (together before) (together behind))
  pub goes_on : start_of s grouping (saved_among s (sg_of grouping) k (together before) (together behind))
      ≡ greater s grouping k (together before ++ together behind)
  pub refused : (fault : StartFault)
      → IsStartFault s grouping (saved_among s (sg_of grouping) k (together before) (together behind)) fault
      → (fault ≡ starts.Memory) ⊎ (list_any (is_of_other s grouping) (together before ++ together behind) ≡ true)

abbrev pub AheadIsReadAmongOthers : Type 0
AheadIsReadAmongOthers =
    (s : Session) (grouping : Grouping) (k : Counters) (before behind : List (List Counter))
    → IsSession s → is_grouping grouping ≡ true → are_counters grouping k ≡ true
    → All IsCounter (together before) → All IsCounter (together behind) → IsReadAmong s grouping k before behind

-- The others are of other sessions, or of the groups of this one and no greater.
pub record AreNoGreater (s : Session) (grouping : Grouping) (k : Counters) (others : List Counter) : Type 0 where
  pub gbc : kept_gbc others s ≤ k.gbc
  pub numbers : (spri : ℕ) → spri < 192
      → kept_number others s (group_of grouping spri) ≤ number_of k.groups spri
  pub own_groups : list_any (is_of_other s grouping) others ≡ false

-- such counters change nothing
abbrev pub OlderCountersChangeNothing : Type 0
OlderCountersChangeNothing =
    (s : Session) (grouping : Grouping) (k : Counters) (before behind : List (List Counter))
    → IsSession s → is_grouping grouping ≡ true → are_counters grouping k ≡ true
    → All IsCounter (together before) → All IsCounter (together behind)
    → AreNoGreater s grouping k (together before ++ together behind)
    → GoesOnAt s grouping (text_among s (sg_of grouping) k before behind) k

-- ---- what a run writes ahead

-- the session of an originator with this configuration
abbrev pub session_of : Config → Session
session_of c = head_session c.head c.rsid

-- What the run writes of accepted calls is read back as the counters of the state in which they end. The premise is that
-- the originator started at counters in their ranges, as a new one does.
abbrev pub RunsAheadAreReadBack : Type 0
RunsAheadAreReadBack =
    (config : Config) (payload : PayloadValue) (start : Start) (stamp : Option Moment) (wraps : Bool) (limits : Allowance)
    (before after : Source) (was is : Sink) (text : List ℕ)
    → are_counters config.grouping start.counters ≡ true
    → (run : Signs (going_ahead start config payload stamp wraps) limits before after was is)
    → Wrote was is text
    → IsReadBack (session_of config) config.grouping
    (counters_of (state config start (reverse
    (all_calls start stamp (submitted (going_ahead start config payload stamp wraps) run.sends.messages))))) text
