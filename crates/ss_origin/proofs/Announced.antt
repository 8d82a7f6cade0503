-- The messages that aren't pending have a hash in a block that is sent.
use Rattle.std.proofs.Common.{◌≡◌, inl, ℕ, ◌+◌, ◌<◌, ◌≤◌, true, List, [], ◌∷◌, ◌++◌, length, replicate, refl, sym, ap, subst, arith}
use Rattle.std.specs.List.{Contains, flat_map, enumerate_from}
use Rattle.std.proofs.lemmas.List.{length-map}
use Rattle.ss_block.specs.Hashes.{hash_of}
use Rattle.ss_origin.specs.declared.unsigned.Unsigned.{Unsigned}
use Rattle.ss_origin.specs.Groups.{group_of}
use Rattle.ss_origin.specs.Configs.{is_config}
use Rattle.ss_origin.specs.Counting.{Start, number_in}
use Rattle.ss_origin.specs.Calls.{Call, Begin, Submit, Flush, Run, stamp_of, messages_of, pending_of, pending_hashes}
use Rattle.ss_origin.specs.State.{State, state, pending_in, first_pending, runs_closed}
use Rattle.ss_origin.specs.Setting.{Setting}
use Rattle.ss_origin.specs.Emission.{block_of, AreDue, IsSealed, sent_first, EmitsFrom}
use Rattle.ss_origin.specs.Chain.{Turn, calls_of, AreTurns, start_behind, given_to}
use Rattle.ss_origin.specs.CoverLaws.{IsInRun}
use Rattle.ss_origin.specs.SentLaws.{HasSentBlock, OthersAreSent}
use Rattle.ss_origin.proofs.Configs.{has_ranges}
use Rattle.ss_origin.proofs.Covered.{others_are_in_runs}
use Rattle.ss_octets.proofs.Members.{Has, has_from_contains, contains_from_has, has-append_right, has-map, has-enumerated, has-zipped, has-copies}
use Rattle.ss_origin.proofs.Numbering.{numbers_go_on}
use Rattle.ss_origin.proofs.Sent.{turn_of, turns_of}

-- ---- the turn of a call

record IsTurn (turns : List Turn) (call : Call) (earlier : List Call) : Type 0 where
  turn : Turn
  later : List Turn
  before : List Turn
  turns_are : turns ≡ later ++ turn ∷ before
  call_is : turn.call ≡ call
  earlier_are : calls_of before ≡ earlier

behind : (t : Turn) {turns : List Turn} {call : Call} {earlier : List Call} → IsTurn turns call earlier → IsTurn (t ∷ turns) call earlier
behind t w = record { turn = w.turn; later = t ∷ w.later; before = w.before; turns_are = ap (λ l. t ∷ l) w.turns_are; call_is = w.call_is; earlier_are = w.earlier_are }

turn_in : (turns : List Turn) (later : List Call) (call : Call) (earlier : List Call) → calls_of turns ≡ later ++ call ∷ earlier → IsTurn turns call earlier
turn_in [] [] call earlier e = absurd (cc)
turn_in [] (u ∷ later) call earlier e = absurd (cc)
turn_in (t ∷ turns) [] call earlier e = record { turn = t; later = []; before = turns; turns_are = refl; call_is = cc; earlier_are = cc }
turn_in (t ∷ turns) (u ∷ later) call earlier e =
    let rest : calls_of turns ≡ later ++ call ∷ earlier = cc in
    behind t (turn_in turns later call earlier rest)

-- ---- the message of a run

module _ (s : Setting) (old : State) where
  due_block : (call : Call) (due : List Unsigned) (run : Run) → AreDue s old call due → Has (runs_closed s.config (pending_in old) call) run → (gbc : ℕ) × Has due (block_of s.config old (gbc, run))
  due_block (Begin stamp) due run are has = absurd has
  due_block (Submit message stamp) due run are has =
      let w = has-enumerated old.gbc (runs_closed s.config (pending_in old) (Submit message stamp)) run has in
      (w.0, subst (λ l. Has l (block_of s.config old (w.0, run))) (sym are) (has-map (block_of s.config old) (enumerate_from old.gbc (runs_closed s.config (pending_in old) (Submit message stamp))) (w.0, run) w.1))
  due_block (Flush stamp) due run are has =
      let w = has-enumerated old.gbc (runs_closed s.config (pending_in old) (Flush stamp)) run has in
      (w.0, subst (λ l. Has l (block_of s.config old (w.0, run))) (sym are) (has-map (block_of s.config old) (enumerate_from old.gbc (runs_closed s.config (pending_in old) (Flush stamp))) (w.0, run) w.1))

  sent_message : (call : Call) (emitted : List (List ℕ)) (d : Unsigned) → 1 ≤ s.config.copies → (e : EmitsFrom s old call emitted) → Has e.due d → (m : List ℕ) × Contains emitted m × IsSealed s (stamp_of call) d m
  sent_message call emitted d some e has =
      let w = has-zipped (IsSealed s (stamp_of call)) e.due e.sent.messages d e.sent.sealed has in
      let copies = flat_map (λ m. replicate s.config.copies m) e.sent.messages in
      let sent : Has emitted w.0 = subst (λ l. Has l w.0) (sym e.sent.sent_are) (has-append_right (sent_first call) copies w.0 (has-copies s.config.copies e.sent.messages w.0 some w.1)) in
      (w.0, contains_from_has emitted w.0 sent, w.2)

-- the block of a run stands in what a turn sent
sent_run : (s : Setting) (start : Start) (turns : List Turn) (t : Turn) (later earlier : List Turn) (run : Run) (spri number : ℕ)
    → let old = state s.config start (calls_of earlier) in
    1 ≤ s.config.copies → turns ≡ later ++ t ∷ earlier → EmitsFrom s old t.call t.emitted → Contains (runs_closed s.config (pending_in old) t.call) run → run.spri ≡ spri
    → first_pending old spri ≤ number → number < first_pending old spri + length run.hashes → HasSentBlock s turns spri number
sent_run s start turns t later earlier run spri number some turns_are emits closed own least below =
    let old = state s.config start (calls_of earlier) in
    let d = due_block s old t.call emits.due run emits.are_due (has_from_contains (runs_closed s.config (pending_in old) t.call) run closed) in
    let m = sent_message s old t.call t.emitted (block_of s.config old (d.0, run)) some emits d.1 in
    let first : first_pending old run.spri ≡ first_pending old spri = ap (first_pending old) own in
    record {
      turn = t;
      of_turns = subst (λ l. Contains l t) (sym turns_are) (contains_from_has (later ++ t ∷ earlier) t (has-append_right later (t ∷ earlier) t (inl refl)));
      message = m.0;
      sent = m.1;
      block = record {
        alg = s.config.alg;
        rsid = s.config.rsid;
        group = group_of s.config.grouping run.spri;
        gbc = d.0;
        first = first_pending old run.spri;
        hashes = run.hashes;
        signature = m.2.signature;
      };
      read = m.2.read.read;
      group = ap (group_of s.config.grouping) own;
      least = omega (arith, first, least);
      below = omega (arith, first, below);
    }

pub in_turns : (s : Setting) (start : Start) (turns : List Turn) (spri j : ℕ) → is_config s.config ≡ true → AreTurns s start turns
    → IsInRun s.config (calls_of turns) spri j → HasSentBlock s turns spri (number_in start.counters.groups spri + j)
in_turns s start turns spri j is turned r =
    let w = turn_in turns r.later r.call r.earlier r.calls_are in
    let old = state s.config start (calls_of w.before) in
    let turn = turn_of s start w.later w.before w.turn (subst (AreTurns s start) w.turns_are turned) in
    let closed : Contains (runs_closed s.config (pending_hashes s.config (calls_of w.before)) w.turn.call) r.run
    = subst (λ k. Contains (runs_closed s.config (pending_hashes s.config (calls_of w.before)) k) r.run) (sym w.call_is)
    (subst (λ l. Contains (runs_closed s.config (pending_hashes s.config l) r.call) r.run) (sym w.earlier_are) r.closed) in
    let before : r.front + length (pending_of s.config spri (calls_of w.before)) ≡ length (messages_of s.config.grouping spri (calls_of w.before))
    = subst (λ l. r.front + length (pending_of s.config spri l) ≡ length (messages_of s.config.grouping spri l)) (sym w.earlier_are) r.before in
    let hashes = length-map (pending_of s.config spri (calls_of w.before)) (hash_of s.config.alg) in
    let low = r.low in
    let high = r.high in
    sent_run s start turns w.turn w.later w.before r.run spri (number_in start.counters.groups spri + j) (has_ranges s.config is).some_copy w.turns_are turn.1 closed r.group
    (omega (arith, hashes, before, low)) (omega (arith, hashes, before, high))

pub others_are_sent : OthersAreSent
others_are_sent s newer older turns is spri j small others =
    let config = is.setting.fit.config in
    let goes_on : number_in (start_behind s.config older).counters.groups spri ≡ 1 + length (given_to s.config spri older) = numbers_go_on s.config older spri small in
    subst (λ n. HasSentBlock s turns spri (n + j)) goes_on
    (in_turns s (start_behind s.config older) turns spri j config (turns_of s newer older turns is.chained)
    (others_are_in_runs s.config (calls_of turns) spri j (has_ranges s.config config).some small others))
