-- The small run: what its originator accepted, and what its sealer was asked.
use Rattle.std.proofs.Common.{◌≡◌, inl, inr, ℕ, ◌+◌, ◌≤◌, List, [], ◌∷◌, ◌++◌, length, refl, sym, ap, ◌∙◌, arith, append-nil}
use Rattle.std.specs.Prelude.{false, None, Some, Ok}
use Rattle.std.specs.Fmt.{digits}
use Rattle.std.specs.List.{AllByRecursion, AllPairs}
use Rattle.ss_message.specs.Message.{text}
use Rattle.ss_payload.specs.declared.cuts.Cut.{Cut}
use Rattle.ss_payload.specs.Cuts.{AreCuts, octet_count}
use Rattle.ss_payload.specs.Payload.{payload_text}
use Rattle.ss_frame.specs.End.{Clean}
use Rattle.ss_frame.specs.Frame.{units_in, IsAllowed}
use Rattle.ss_frame.specs.Stream.{reads}
use Rattle.ss_frame.specs.declared.limits.Form.TheVariants.{Frames}
use Rattle.ss_origin.specs.declared.fault.OriginFault.TheVariants.{Memory}
use Rattle.ss_origin.specs.declared.unsigned.Unsigned.{Unsigned}
use Rattle.ss_origin.specs.declared.unsigned.Unsigned.TheVariants.{Signature}
use Rattle.ss_origin.specs.Ahead.{IsChainAhead}
use Rattle.ss_origin.specs.Blocks.{unsigned_text}
use Rattle.ss_origin.specs.Calls.{Begin, Submit, Flush, pending_of}
use Rattle.ss_origin.specs.Chain.{AreTurns}
use Rattle.ss_origin.specs.Counting.{anew}
use Rattle.ss_origin.specs.Setting.{IsSetting}
use Rattle.ss_review.specs.deliveries.SmallChains.{mark, small, message, begun, turns_before, first_turns, ahead_lives, certificate}
use Rattle.ss_review.specs.deliveries.SmallChains as chains
use Rattle.ss_signing.specs.Asked.{AskedAlong, StopsCalls}
use Rattle.ss_signing.specs.AskedRun.{AskedRun, SealsInPart}
use Rattle.ss_signing.specs.Run.{ReadsWhole}
use Rattle.ss_laws.specs.runs.SignedOnce.{ShareNoGbc, ShareNoNumber, RunsSignOnce}
use Rattle.ss_laws.specs.runs.cases.SmallRun.{Marker, gives_mark, lists_mark, as_listed, small_job, small_log, small_limits, whole_log, no_log, nothing_written, out_of_memory, block_of, first_block, last_block, certificate_due, small_octets, SmallRunIsThis}

-- ---- the one piece of the payload's text

abbrev whole_cut : Cut
whole_cut = record { index = 1; len = 3 }

nothing_behind : {X : Type 0} (before : List X) (c : X) (after : List X) → [] ≡ before ++ c ∷ after → ⊥
nothing_behind [] c after e = cc
nothing_behind (b ∷ before) c after e = cc

only_one : {X : Type 0} (x : X) (before : List X) (c : X) (after : List X) → x ∷ [] ≡ before ++ c ∷ after → (before ≡ []) × (x ≡ c)
only_one x [] c after e = (refl, cc)
only_one x (b ∷ before) c after e =
    let tail : [] ≡ before ++ c ∷ after = cc in
    absurd (nothing_behind before c after tail)

not_two : {X : Type 0} (x : X) (before : List X) (c next : X) (after : List X) → x ∷ [] ≡ before ++ c ∷ next ∷ after → ⊥
not_two x [] c next after e = cc
not_two x (b ∷ before) c next after e =
    let tail : [] ≡ before ++ c ∷ next ∷ after = cc in
    nothing_behind before c (next ∷ after) tail

one_cut : AreCuts (length (payload_text small.payload)) 20 (whole_cut ∷ [])
unfolding payload_text
one_cut = record {
  follow = λ before c after e. (let o = only_one whole_cut before c after e in
      sym (ap (λ (d : Cut). d.index) o.1) ∙ ap (λ (ds : List Cut). 1 + octet_count ds) (sym o.0));
  end = refl;
  full = λ before c next after e. absurd (not_two whole_cut before c next after e);
  last = λ before c e. (let same = (only_one whole_cut before c [] e).1 in
      let len : 3 ≡ c.len = ap (λ (d : Cut). d.len) same in
      (omega (arith, len), omega (arith, len)));
}

-- ---- what the sealer was asked

abbrev octets_of : Unsigned → List ℕ
octets_of due = unsigned_text small.config.head None due

-- after `begin`, and after the block of the first two messages
abbrev at_begin : Marker
at_begin = octets_of certificate_due ∷ []

abbrev at_block : Marker
at_block = octets_of certificate_due ∷ octets_of (Signature first_block) ∷ []

begin_asked : AskedAlong small anew lists_mark [] (begun ∷ []) at_begin
begin_asked = (
  [],
  refl,
  record {
    due = certificate_due ∷ [];
    are_due = (whole_cut ∷ [], one_cut, refl);
    seals = record {
      all = record { block = certificate_due; signature = mark } ∷ [];
      blocks_are = refl;
      gives = (at_begin, record { answered = (refl, refl); some_octet = omega arith; at_most_1024 = omega arith }, refl);
      sent_are = refl;
    };
  },
)

block_asked : AskedAlong small anew lists_mark [] turns_before at_block
unfolding pending_of
block_asked = (
  at_begin,
  (
    at_begin,
    begin_asked,
    record { due = []; are_due = refl; seals = record { all = []; blocks_are = refl; gives = refl; sent_are = refl } },
  ),
  record {
    due = Signature first_block ∷ [];
    are_due = refl;
    seals = record {
      all = record { block = Signature first_block; signature = mark } ∷ [];
      blocks_are = refl;
      gives = (at_block, record { answered = (refl, refl); some_octet = omega arith; at_most_1024 = omega arith }, refl);
      sent_are = refl;
    };
  },
)

turns_asked : AskedAlong small anew lists_mark [] first_turns at_block
unfolding pending_of
turns_asked = (
  at_block,
  block_asked,
  record { due = []; are_due = refl; seals = record { all = []; blocks_are = refl; gives = refl; sent_are = refl } },
)

calls_asked : IsSetting small → AreTurns small anew first_turns
    → StopsCalls small anew lists_mark (Begin None ∷ Submit (message 49) None ∷ Submit (message 50) None ∷ Submit (message 51) None ∷ Flush None ∷ []) [] small_octets
unfolding pending_of
calls_asked is turns = record {
  accepted = Begin None ∷ Submit (message 49) None ∷ Submit (message 50) None ∷ Submit (message 51) None ∷ [];
  behind = Flush None ∷ [];
  calls_are = refl;
  emitted = certificate ∷ message 49 ∷ message 50 ∷ chains.block 0 1 (message 49 ∷ message 50 ∷ []) ∷ message 51 ∷ [];
  sealer = at_block;
  seals = record {
    accepted = record { turns = first_turns; setting = is; taken = turns; calls_are = refl; emitted_are = refl };
    asked_along = turns_asked;
  };
  stops = inr (
    Memory,
    record {
      no_other = refl;
      due = Signature last_block ∷ [];
      are_due = refl;
      stops = record {
        before = [];
        block = Signature last_block;
        behind = [];
        due_are = refl;
        last = at_block;
        gives = refl;
        stops = inr (record { answer = Ok mark; answered = (refl, refl); why = inl (refl, (omega arith, omega arith)) });
      };
    },
  );
}

-- ---- the run

pub allowed : (octet : ℕ) → IsAllowed small_limits (message octet)
unfolding text digits
allowed octet = record { some_octet = omega arith; not_too_long = omega arith; fits = tt }

-- frames of allowed messages, and of no more than three, are read as these messages
pub frames_read : (log : List (List ℕ)) → AllByRecursion (IsAllowed small_limits) log → length log ≤ 3 → reads small_limits (units_in Frames log) log Clean
frames_read log all few = record { rest = []; is = sym (append-nil (units_in Frames log)); allowed = all; few = omega (arith, few); ends = refl }

pub read_whole : (log : List (List ℕ)) → AllByRecursion (IsAllowed small_limits) log → length log ≤ 3
    → ReadsWhole small_limits (record { left = Some (units_in Frames log); failed = false }) no_log log
read_whole log all few = record {
  reading = record {
    stream = units_in Frames log;
    consumes = sym (append-nil (units_in Frames log));
    at_end = refl;
    reading = (frames_read log all few, refl);
  };
  no_read_failed = refl;
}

pub all_allowed : AllByRecursion (IsAllowed small_limits) small_log
all_allowed = (allowed 49, (allowed 50, (allowed 51, tt)))

in_part : IsSetting small → AreTurns small anew first_turns → SealsInPart small_job lists_mark small_limits whole_log no_log [] small_octets
in_part is turns = record {
  messages = small_log;
  read = read_whole small_log all_allowed (omega arith);
  fit = refl;
  stops = calls_asked is turns;
}

-- ---- blocks that no run asks for together

number_twice : ¬ AllPairs ShareNoNumber (Signature first_block ∷ Signature (block_of 1 2 (message 51 ∷ [])) ∷ [])
number_twice pairs =
    pairs 0 1 (Signature first_block) (omega arith) (omega arith) first_block.group 2
    (record { own = refl; least = omega arith; below = omega arith }) (record { own = refl; least = omega arith; below = omega arith })

gbc_twice : ¬ AllPairs ShareNoGbc (Signature first_block ∷ Signature (block_of 0 3 (message 51 ∷ [])) ∷ [])
gbc_twice pairs = pairs 0 1 (Signature first_block) (omega arith) (omega arith) 0 refl refl

pub run_asked : IsChainAhead small ahead_lives → AskedRun small_job lists_mark small_limits whole_log no_log nothing_written nothing_written [] small_octets out_of_memory
run_asked chain = inr (in_part chain.setting chain.chained.0.2)

pub small_run_is : IsChainAhead small ahead_lives → RunsSignOnce gives_mark lists_mark → SmallRunIsThis
small_run_is chain law = record {
  lists = λ old new octets answer asks. asks.1;
  asked = run_asked chain;
  once = law as_listed (λ old new octets answer asks. asks.1) anew small None false Frames small_limits whole_log no_log nothing_written nothing_written [] small_octets out_of_memory (run_asked chain);
  one_number_twice = number_twice;
  one_gbc_twice = gbc_twice;
}
