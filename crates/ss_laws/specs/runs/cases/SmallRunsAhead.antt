-- Two small runs of one key that follow one another, both with blocks that were signed. The first is the one that fails.
-- The second goes on at the counters with which the first ends if each call is accepted, and succeeds.
use Rattle.std.specs.Prelude.{◌≡◌, ℕ, true, false, List, [], ◌∷◌, ◌++◌, Some, None, Result, Ok, Err, refl}
use Rattle.std.specs.List.{AllPairs}
use Rattle.ss_frame.specs.Frame.{units_in}
use Rattle.ss_frame.specs.Watched.{Source, Sink}
use Rattle.ss_frame.specs.declared.fault.FrameFault.TheVariants as frame
use Rattle.ss_frame.specs.declared.limits.Form.TheVariants.{Frames}
use Rattle.ss_block.specs.Block as block
use Rattle.ss_origin.specs.declared.counters.Counters.{Counters}
use Rattle.ss_origin.specs.declared.unsigned.Unsigned.{Unsigned}
use Rattle.ss_origin.specs.declared.unsigned.Unsigned.TheVariants.{Signature}
use Rattle.ss_origin.specs.Blocks.{unsigned_text}
use Rattle.ss_origin.specs.Counting.{anew, resumed}
use Rattle.ss_report.specs.declared.fault.RunFault.TheVariants as run
use Rattle.ss_review.specs.deliveries.SmallChains.{small, message}
use Rattle.ss_review.specs.deliveries.SmallChains as chains
use Rattle.ss_signing.specs.declared.fault.SignFault.{SignFault}
use Rattle.ss_signing.specs.declared.fault.SignFault.TheVariants as faults
use Rattle.ss_signing.specs.AskedRun.{AskedRun}
use Rattle.ss_signing.specs.Jobs.{signing_from}
use Rattle.ss_signing.specs.Run.{Job}
use Rattle.ss_laws.specs.runs.OnceAhead.{ends_with, IsPast, Ran, GoOnPast, AreAskedOnce}
use Rattle.ss_laws.specs.runs.SignedOnce.{ShareNoGbc, ShareNoNumber}
use Rattle.ss_laws.specs.runs.cases.SmallRun.{
  Marker,
  gives_mark,
  lists_mark,
  as_listed,
  small_job,
  small_log,
  small_limits,
  whole_log,
  no_log,
  nothing_written,
  out_of_memory,
  block_of,
  first_block,
  last_block,
  certificate_due,
  small_octets,
}

-- ---- where the second run begins

abbrev pub counters_with : ℕ → ℕ → Counters
counters_with gbc number = record { gbc = gbc; groups = record { spri = 0; number = number } ∷ [] }

-- after two blocks and three messages; the block of the third message was signed, and not written
abbrev pub next_counters : Counters
next_counters = counters_with 2 4

-- ---- the second run

-- The sealer is the one that the first run gave back.
abbrev pub next_job : Job
next_job = signing_from (resumed next_counters) small (gives_mark small_octets) None false Frames

abbrev pub next_log : List (List ℕ)
next_log = message 52 ∷ []

abbrev pub next_whole : Source
next_whole = record { left = Some (units_in Frames next_log); failed = false }

-- the block of its message
abbrev pub next_block : block.Signature
next_block = block_of 2 4 (message 52 ∷ [])

abbrev pub both_octets : Marker
both_octets = small_octets ++ unsigned_text small.config.head None (Signature next_block) ∷ []

abbrev pub next_sent : List (List ℕ)
next_sent = message 52 ∷ chains.block 2 4 (message 52 ∷ []) ∷ []

abbrev pub next_written : Sink
next_written = record { written = Some (units_in Frames next_sent); failed = false }

abbrev pub succeeded : Result (Unit {0}) SignFault
succeeded = Ok tt

-- ---- runs that follow one another

abbrev pub FirstAsks : Type 0
FirstAsks =
    AskedRun small_job lists_mark small_limits whole_log no_log nothing_written nothing_written [] small_octets
    out_of_memory

abbrev pub NextAsks : Type 0
NextAsks =
    AskedRun next_job lists_mark small_limits next_whole no_log nothing_written next_written small_octets
    both_octets succeeded

abbrev pub first_run : FirstAsks → Ran small gives_mark lists_mark
first_run asks = record {
  start = anew;
  stamp = None;
  wraps = false;
  out = Frames;
  limits = small_limits;
  before = whole_log;
  after = no_log;
  was = nothing_written;
  is = nothing_written;
  first = [];
  last = small_octets;
  result = out_of_memory;
  asks = asks;
}

abbrev pub next_run : NextAsks → Ran small gives_mark lists_mark
next_run asks = record {
  start = resumed next_counters;
  stamp = None;
  wraps = false;
  out = Frames;
  limits = small_limits;
  before = next_whole;
  after = no_log;
  was = nothing_written;
  is = next_written;
  first = small_octets;
  last = both_octets;
  result = succeeded;
  asks = asks;
}

-- a run that begins like the second, and whose log can't be read: its sealer is asked for nothing
abbrev pub unread_log : Source
unread_log = record { left = Some (units_in Frames next_log); failed = true }

abbrev pub unread_run : Ran small gives_mark lists_mark
unread_run = record {
  start = resumed next_counters;
  stamp = None;
  wraps = false;
  out = Frames;
  limits = small_limits;
  before = next_whole;
  after = unread_log;
  was = nothing_written;
  is = nothing_written;
  first = small_octets;
  last = small_octets;
  result = Err (faults.Run (run.Frame frame.Read));
  asks = refl;
}

-- what they asked for
abbrev pub first_blocks : List Unsigned
first_blocks = certificate_due ∷ Signature first_block ∷ Signature last_block ∷ []

abbrev pub next_blocks : List Unsigned
next_blocks = Signature next_block ∷ []

pub record SmallRunsAheadAreThis : Type 0 where
  pub first : FirstAsks
  pub next : NextAsks
  -- the counters with which the first run ends are those at which the second begins
  pub ends : ends_with small_job small_log ≡ next_counters
  -- so the second goes on past it, and this is what the law gives for both, with the blocks
  pub go_on : GoOnPast (next_run next ∷ first_run first ∷ [])
  pub once : AreAskedOnce as_listed (next_run next ∷ first_run first ∷ []) (next_blocks ∷ first_blocks ∷ [])
  -- the same if a run that reads nothing lies between them
  pub go_on_after_unread : GoOnPast (next_run next ∷ unread_run ∷ first_run first ∷ [])
  pub once_after_unread : AreAskedOnce as_listed (next_run next ∷ unread_run ∷ first_run first ∷ [])
      (next_blocks ∷ [] ∷ first_blocks ∷ [])
  -- counters that are less by one aren't past the first run, nor past the one that reads nothing
  pub gbc_not_past : ¬ IsPast small_job small_limits whole_log no_log (counters_with 1 4)
  pub number_not_past : ¬ IsPast small_job small_limits whole_log no_log (counters_with 2 3)
  pub unread_not_past : ¬ IsPast next_job small_limits next_whole unread_log (counters_with 1 4)
  -- a block of a run that begins at them shares its GBC or its number with the one that was signed and not written
  pub gbc_twice : ¬ AllPairs ShareNoGbc (Signature (block_of 1 4 (message 52 ∷ [])) ∷ Signature last_block ∷ [])
  pub number_twice : ¬ AllPairs ShareNoNumber (Signature (block_of 2 3 (message 52 ∷ [])) ∷ Signature last_block ∷ [])
