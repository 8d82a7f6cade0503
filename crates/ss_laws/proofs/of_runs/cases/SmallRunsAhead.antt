-- The two small runs: the second begins past the first, and their blocks share nothing.
use Rattle.std.proofs.Common.{◌≡◌, inl, inr, ℕ, zero, suc, ◌+◌, ◌<◌, ◌≤◌, Bool, true, false, not, List, [], ◌∷◌, ◌++◌, length, refl, sym, ap, ◌∙◌, subst, arith, append-nil}
use Rattle.std.specs.Prelude.{None, nat_le, if◌then◌else◌}
use Rattle.std.specs.List.{AllPairs}
use Rattle.ss_frame.specs.End.{Clean}
use Rattle.ss_frame.specs.Frame.{units_in}
use Rattle.ss_frame.specs.Laws.{OneReading}
use Rattle.ss_frame.specs.Stream.{reads}
use Rattle.ss_frame.specs.declared.limits.Form.TheVariants.{Frames}
use Rattle.ss_block.specs.declared.reading.Reading.{Reading}
use Rattle.ss_block.specs.declared.reading.Reading.TheVariants as readings
use Rattle.ss_block.specs.Block as block
use Rattle.ss_block.specs.Reading.{reading}
use Rattle.ss_block.specs.ReadingLaws.{ReadingsAreOfValues}
use Rattle.ss_block.specs.WritingLaws.{SignaturesAreRead}
use Rattle.ss_origin.specs.declared.fault.OriginFault.{OriginFault}
use Rattle.ss_origin.specs.declared.fault.OriginFault.TheVariants.{NotBegun, NotSyslog, HasBlock, NumbersSpent, CounterSpent}
use Rattle.ss_origin.specs.declared.unsigned.Unsigned.{Unsigned}
use Rattle.ss_origin.specs.declared.unsigned.Unsigned.TheVariants.{Signature}
use Rattle.ss_origin.specs.Ahead.{AreAtLeast, IsChainAhead}
use Rattle.ss_origin.specs.Calls.{Submit, spri_in, pending_of}
use Rattle.ss_origin.specs.Chain.{AreTurns}
use Rattle.ss_origin.specs.Counting.{Start, number_in, anew, resumed}
use Rattle.ss_origin.specs.Emission.{IsSealed}
use Rattle.ss_origin.specs.Refusals.{first_fault, is_unparsed, is_plain, is_counter_spent, fault_of}
use Rattle.ss_origin.specs.State.{State, state}
use Rattle.ss_octets.proofs.Members.{Has}
use Rattle.ss_review.specs.deliveries.SmallChains.{mark, small, message, ahead_lives, next_turns}
use Rattle.ss_review.specs.deliveries.SmallChains as chains
use Rattle.ss_review.proofs.of_deliveries.SmallChains.{is_setting, plain_message}
use Rattle.ss_signing.specs.Asked.{AskedAlong}
use Rattle.ss_signing.specs.Run.{ReadsWhole}
use Rattle.ss_laws.specs.runs.OnceAhead.{ends_with, IsPast}
use Rattle.ss_laws.specs.runs.SignedOnce.{ShareNoGbc, ShareNoNumber}
use Rattle.ss_laws.specs.runs.cases.SmallRun.{lists_mark, small_job, small_log, small_limits, whole_log, no_log, block_of, first_block, last_block, small_octets}
use Rattle.ss_laws.specs.runs.cases.SmallRunsAhead.{counters_with, next_counters, next_log, next_block, both_octets, next_whole, next_job, next_sent, NextAsks, unread_log, first_blocks, next_blocks, SmallRunsAheadAreThis}
use Rattle.ss_laws.proofs.of_runs.SignedOnce.{Pairs, all_pairs, ShareNothing}
use Rattle.ss_laws.proofs.of_runs.cases.SmallRun.{allowed, all_allowed, frames_read, read_whole, run_asked}
use Rattle.ss_laws.proofs.of_ahead.cases.LostLog.{other_group}
use Rattle.ss_laws.proofs.of_ahead.cases.SmallBlocks.{block_read}

-- ---- where the first run ends

ends_there : ends_with small_job small_log ≡ next_counters
unfolding pending_of
ends_there = refl

from_anew : AreAtLeast anew.counters next_counters
from_anew = record { gbc = omega arith; numbers = each }
  where
    each : (spri : ℕ) → spri < 192 → number_in anew.counters.groups spri ≤ number_in next_counters.groups spri
    each zero low = omega arith
    each (suc n) low =
        let unnamed : number_in next_counters.groups (suc n) ≡ 1 = ap (λ (b : Bool). if b then 4 else 1) (other_group n) in
        omega (arith, unnamed)

at_end : AreAtLeast (ends_with small_job small_log) next_counters
at_end = subst (λ k. AreAtLeast k next_counters) (sym ends_there) (record { gbc = omega arith; numbers = λ spri low. omega arith })

-- ---- its log has no other reading

small_read : ReadsWhole small_limits whole_log no_log small_log
small_read = read_whole small_log all_allowed (omega arith)

the_log : OneReading → (messages : List (List ℕ)) → ReadsWhole small_limits whole_log no_log messages → small_log ≡ messages
the_log one messages whole =
    let stream_is : units_in Frames small_log ≡ whole.reading.stream = whole.reading.consumes ∙ append-nil whole.reading.stream in
    (one small_limits (units_in Frames small_log) small_log messages Clean Clean
    (record { some_octet = omega arith; at_most_a_mebibyte = omega arith; some_message = omega arith; at_most_ten_million = omega arith })
    (frames_read small_log all_allowed (omega arith)) (subst (λ octets. reads small_limits octets messages Clean) (sym stream_is) whole.reading.reading.0)).0

is_past : OneReading → IsPast small_job small_limits whole_log no_log next_counters
is_past one = record {
  from_start = from_anew;
  from_log = λ messages whole. subst (λ log. AreAtLeast (ends_with small_job log) next_counters) (the_log one messages whole) at_end;
}

gbc_not_past : ¬ IsPast small_job small_limits whole_log no_log (counters_with 1 4)
gbc_not_past past =
    let least : AreAtLeast next_counters (counters_with 1 4) = subst (λ k. AreAtLeast k (counters_with 1 4)) ends_there (past.from_log small_log small_read) in
    let gbc : 2 ≤ 1 = least.gbc in
    omega (arith, gbc)

number_not_past : ¬ IsPast small_job small_limits whole_log no_log (counters_with 2 3)
number_not_past past =
    let least : AreAtLeast next_counters (counters_with 2 3) = subst (λ k. AreAtLeast k (counters_with 2 3)) ends_there (past.from_log small_log small_read) in
    let number : 4 ≤ 3 = least.numbers 0 (omega arith) in
    omega (arith, number)

-- ---- a run that reads nothing

past_unread : IsPast next_job small_limits next_whole unread_log next_counters
past_unread = record {
  from_start = record { gbc = omega arith; numbers = λ spri low. omega arith };
  from_log = λ messages whole. absurd (let no : true ≡ false = whole.no_read_failed in cc);
}

unread_not_past : ¬ IsPast next_job small_limits next_whole unread_log (counters_with 1 4)
unread_not_past past =
    let gbc : 2 ≤ 1 = past.from_start.gbc in
    omega (arith, gbc)

-- ---- the second run

abbrev next_start : Start
next_start = resumed next_counters

next_sealed : SignaturesAreRead → IsSealed small None (Signature next_block) (chains.block 2 4 (message 52 ∷ []))
next_sealed read = record {
  signature = mark;
  some_octet = omega arith;
  at_most_1024 = omega arith;
  valid = refl;
  text = refl;
  read = block_read read 2 4 (message 52) (omega arith) (omega arith) (omega arith);
}

-- the faults of the message if it is read so
abbrev faults_at : State → List ℕ → Reading → List (Bool × OriginFault)
faults_at s m r =
    (not s.begun, NotBegun)
    ∷ (is_unparsed r, NotSyslog)
    ∷ (not (is_plain r), HasBlock)
    ∷ (nat_le 10000000000 (s.groups (spri_in small.config.grouping m)).number, NumbersSpent)
    ∷ (is_counter_spent small.config s (Submit m None), CounterSpent)
    ∷ []

accepted : (s : State) (m : List ℕ) → reading m ≡ readings.Plain → first_fault (faults_at s m readings.Plain) ≡ None → fault_of small.config s (Submit m None) ≡ None
accepted s m plain e = ap (λ r. first_fault (faults_at s m r)) plain ∙ e

next_are : ReadingsAreOfValues → SignaturesAreRead → AreTurns small next_start (next_turns 2 4)
unfolding pending_of
next_are values signatures = (
  (
    tt,
    accepted (state small.config next_start []) (message 52) (plain_message values 52 refl) refl,
    record { due = []; are_due = refl; sent = record { messages = []; sealed = tt; sent_are = refl } },
  ),
  refl,
  record {
    due = Signature next_block ∷ [];
    are_due = refl;
    sent = record { messages = chains.block 2 4 (message 52 ∷ []) ∷ []; sealed = (next_sealed signatures, tt); sent_are = refl };
  },
)

next_asked : AskedAlong small next_start lists_mark small_octets (next_turns 2 4) both_octets
unfolding pending_of
next_asked = (
  small_octets,
  (
    small_octets,
    refl,
    record { due = []; are_due = refl; seals = record { all = []; blocks_are = refl; gives = refl; sent_are = refl } },
  ),
  record {
    due = Signature next_block ∷ [];
    are_due = refl;
    seals = record {
      all = record { block = Signature next_block; signature = mark } ∷ [];
      blocks_are = refl;
      gives = (both_octets, record { answered = (refl, refl); some_octet = omega arith; at_most_1024 = omega arith }, refl);
      sent_are = refl;
    };
  },
)

next_asks : ReadingsAreOfValues → SignaturesAreRead → NextAsks
next_asks values signatures = record {
  messages = next_log;
  read = read_whole next_log (allowed 52, tt) (omega arith);
  fit = refl;
  emitted = next_sent;
  seals = record {
    accepted = record { turns = next_turns 2 4; setting = is_setting; taken = next_are values signatures; calls_are = refl; emitted_are = refl };
    asked_along = next_asked;
  };
  written = (refl, refl);
}

-- ---- the blocks of both

lower : (a b : block.Signature) → a.gbc < b.gbc → a.first + length a.hashes ≤ b.first → ShareNothing (Signature a) (Signature b)
lower a b gbc numbers = (
  (λ group number one two. omega (arith, one.below, two.least, numbers)),
  (λ same one two. omega (arith, gbc, one, two)),
)

higher : (a b : block.Signature) → b.gbc < a.gbc → b.first + length b.hashes ≤ a.first → ShareNothing (Signature a) (Signature b)
higher a b gbc numbers = (
  (λ group number one two. omega (arith, one.least, two.below, numbers)),
  (λ same one two. omega (arith, gbc, one, two)),
)

of_next : (u : Unsigned) → Has first_blocks u → ShareNothing (Signature next_block) u
of_next u (inl e) = subst (ShareNothing (Signature next_block)) e ((λ group number one two. two), (λ same one two. two))
of_next u (inr (inl e)) = subst (ShareNothing (Signature next_block)) e (higher next_block first_block (omega arith) (omega arith))
of_next u (inr (inr (inl e))) = subst (ShareNothing (Signature next_block)) e (higher next_block last_block (omega arith) (omega arith))
of_next u (inr (inr (inr h))) = absurd h

of_first : (u : Unsigned) → Has (Signature last_block ∷ []) u → ShareNothing (Signature first_block) u
of_first u (inl e) = subst (ShareNothing (Signature first_block)) e (lower first_block last_block (omega arith) (omega arith))
of_first u (inr h) = absurd h

pairs : Pairs ShareNothing (next_blocks ++ first_blocks)
pairs = (of_next, ((λ u h. ((λ group number one two. one), (λ same one two. one))), (of_first, ((λ u h. absurd h), tt))))

numbers_once : AllPairs ShareNoNumber (next_blocks ++ first_blocks)
numbers_once i j d less below = (all_pairs ShareNothing (next_blocks ++ first_blocks) pairs i j d less below).0

gbcs_once : AllPairs ShareNoGbc (next_blocks ++ first_blocks)
gbcs_once i j d less below = (all_pairs ShareNothing (next_blocks ++ first_blocks) pairs i j d less below).1

-- ---- blocks of runs that begin at counters that are less

gbc_twice : ¬ AllPairs ShareNoGbc (Signature (block_of 1 4 (message 52 ∷ [])) ∷ Signature last_block ∷ [])
gbc_twice pairs = pairs 0 1 (Signature last_block) (omega arith) (omega arith) 1 refl refl

number_twice : ¬ AllPairs ShareNoNumber (Signature (block_of 2 3 (message 52 ∷ [])) ∷ Signature last_block ∷ [])
number_twice pairs =
    pairs 0 1 (Signature last_block) (omega arith) (omega arith) last_block.group 3
    (record { own = refl; least = omega arith; below = omega arith }) (record { own = refl; least = omega arith; below = omega arith })

pub small_runs_are : IsChainAhead small ahead_lives → OneReading → ReadingsAreOfValues → SignaturesAreRead → SmallRunsAheadAreThis
small_runs_are chain one values signatures = record {
  first = run_asked chain;
  next = next_asks values signatures;
  ends = ends_there;
  go_on = ((tt, tt), (next_counters, refl, is_past one));
  once = ((refl, (refl, tt)), numbers_once, gbcs_once);
  go_on_after_unread = (((tt, tt), (next_counters, refl, is_past one)), (next_counters, refl, past_unread));
  once_after_unread = ((refl, (refl, (refl, tt))), numbers_once, gbcs_once);
  gbc_not_past = gbc_not_past;
  number_not_past = number_not_past;
  unread_not_past = unread_not_past;
  gbc_twice = gbc_twice;
  number_twice = number_twice;
}
