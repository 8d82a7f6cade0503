-- Each message that isn't pending is signed under the number that it got, however its originator began.
use Rattle.std.proofs.Common.{◌≡◌, ℕ, ◌+◌, ◌<◌, ◌≤◌, true, List, ◌∷◌, ◌++◌, length, map, sym, ap, ◌∙◌, subst, arith, append_assoc, length-append}
use Rattle.std.specs.Prelude.{Option}
use Rattle.std.proofs.lemmas.List.{length-map, map-append}
use Rattle.ss_message.specs.Stamp.{Moment}
use Rattle.ss_message.specs.Laws.{FaultsAreOfNoMessage}
use Rattle.ss_payload.specs.Payload.{payload_text}
use Rattle.ss_block.specs.declared.hash.Hash.{Hash}
use Rattle.ss_block.specs.declared.reading.Reading.TheVariants as readings
use Rattle.ss_block.specs.Block as block
use Rattle.ss_block.specs.Hashes.{hash_of}
use Rattle.ss_block.specs.Reading.{reading}
use Rattle.ss_origin.specs.declared.config.Config.{Config}
use Rattle.ss_origin.specs.Configs.{is_config}
use Rattle.ss_origin.specs.Counting.{Start, number_in}
use Rattle.ss_origin.specs.Calls.{Submit, Run, spri_in, messages_of, pending_of, stamp_of}
use Rattle.ss_origin.specs.State.{State, state, pending_in, first_pending, runs_closed}
use Rattle.ss_origin.specs.Blocks.{unsigned_text}
use Rattle.ss_origin.specs.Setting.{Setting}
use Rattle.ss_origin.specs.Emission.{signature_in, block_of, IsSealed}
use Rattle.ss_origin.specs.Chain.{Turn, calls_of, AreTurns}
use Rattle.ss_origin.specs.RunLaws.{IsLastRun}
use Rattle.ss_origin.specs.SentLaws.{HasSentBlock}
use Rattle.ss_origin.specs.SignedLaws.{IsPending, IsSigned}
use Rattle.ss_origin.specs.Ahead.{GoOnAhead}
use Rattle.ss_origin.specs.AheadLaws.{number_given, MessagesAheadAreSigned}
use Rattle.ss_origin.proofs.Announced.{in_turns}
use Rattle.ss_origin.proofs.ChainsAhead.{older_of}
use Rattle.ss_origin.proofs.Configs.{has_ranges}
use Rattle.ss_origin.proofs.Covered.{others_are_in_runs}
use Rattle.ss_origin.proofs.Frontiers.{same_spri, from_has-enumerated, says}
use Rattle.ss_origin.proofs.Groups.{spris_are_small}
use Rattle.ss_octets.proofs.Members.{Has, has_from_contains, has_split, all-has}
use Rattle.ss_origin.proofs.RunsClosed.{runs_are_last}
use Rattle.ss_origin.proofs.Sent.{turn_of}
use Rattle.ss_origin.proofs.SentRuns.{sent_run_of}
use Rattle.ss_origin.proofs.SignedMessages.{in_run, map_cut, messages-append, among_own, few_pending}

-- the block has the message's hash under the number
record Holds (c : Config) (message : List ℕ) (b : block.Signature) (number : ℕ) : Type 0 where
  front : List Hash
  behind : List Hash
  hashes : b.hashes ≡ front ++ hash_of c.alg message ∷ behind
  number_is : b.first + length front ≡ number

-- a run of the originator's messages that covers the message's place
holds : (c : Config) (base : ℕ) (b : block.Signature) (front run more before after : List (List ℕ)) (message : List ℕ) → front ++ (run ++ more) ≡ before ++ message ∷ after
    → b.hashes ≡ map (hash_of c.alg) run → b.first ≡ base + length front → b.first ≤ base + length before → base + length before < b.first + length b.hashes → Holds c message b (base + length before)
holds c base b front run more before after message e hashes first least below =
    let h = hash_of c.alg in
    let many : length b.hashes ≡ length run = ap length hashes ∙ length-map run h in
    let w = in_run front run more before after message e (omega (arith, first, least)) (omega (arith, first, many, below)) in
    let same = length-map w.0 h in
    let place = w.3 in
    record { front = map h w.0; behind = map h w.1; hashes = hashes ∙ map_cut h run w.0 w.1 message w.2; number_is = omega (arith, first, same, place) }

-- the run that a turn closed, among all messages of its group
record IsRunOf (c : Config) (start : Start) (turns : List Turn) (spri : ℕ) (b : block.Signature) : Type 0 where
  front : List (List ℕ)
  run : List (List ℕ)
  more : List (List ℕ)
  messages : messages_of c.grouping spri (calls_of turns) ≡ front ++ (run ++ more)
  hashes : b.hashes ≡ map (hash_of c.alg) run
  first : b.first ≡ number_in start.counters.groups spri + length front

run_of : (c : Config) (start : Start) (later earlier : List Turn) (t : Turn) (r : Run) (b : block.Signature) → IsLastRun c (calls_of earlier) t.call r
    → b.hashes ≡ r.hashes → b.first ≡ first_pending (state c start (calls_of earlier)) r.spri → IsRunOf c start (later ++ t ∷ earlier) r.spri b
run_of c start later earlier t r b last hashes first =
    let more = messages_of c.grouping r.spri (calls_of later) in
    let before = ap length last.before ∙ length-append last.front (pending_of c r.spri (calls_of earlier)) in
    let pending = length-map (pending_of c r.spri (calls_of earlier)) (hash_of c.alg) in
    record {
      front = last.front;
      run = last.run;
      more = more;
      messages =
          ap (messages_of c.grouping r.spri) (map-append (λ (u : Turn). u.call) later (t ∷ earlier))
          ∙ messages-append c.grouping r.spri (calls_of later) (calls_of (t ∷ earlier))
          ∙ ap (λ ms. ms ++ more) last.messages
          ∙ append_assoc last.front last.run more;
      hashes = hashes ∙ last.hashes;
      first = omega (arith, first, before, pending);
    }

-- what the sealed block of a run says about itself
parts : (s : Setting) (old : State) (stamp : Option Moment) (gbc : ℕ) (r : Run) (m : List ℕ) (b : block.Signature) → (sealed : IsSealed s stamp (block_of s.config old (gbc, r)) m) → reading m ≡ readings.Signature b
    → (sealed.signature ≡ b.signature) × (b.alg ≡ s.config.alg) × (b.rsid ≡ s.config.rsid)
parts s old stamp gbc r m b sealed read =
    let own : readings.Signature (record (signature_in s.config r.spri gbc (first_pending old r.spri) r.hashes) { signature = sealed.signature }) ≡ readings.Signature b
    = sym sealed.read.read ∙ read in
    (cc, cc, cc)

module _ (read : FaultsAreOfNoMessage) (s : Setting) (is : is_config s.config ≡ true) (start : Start) (later earlier : List Turn) (t : Turn) (message : List ℕ) (stamp : Option Moment)
    (call : t.call ≡ Submit message stamp) (turned : AreTurns s start (later ++ t ∷ earlier)) where
  abbrev spri : ℕ
  spri = spri_in s.config.grouping message

  abbrev turns : List Turn
  turns = later ++ t ∷ earlier

  abbrev own : List (List ℕ)
  own = messages_of s.config.grouping spri (calls_of earlier)

  abbrev number : ℕ
  number = number_in start.counters.groups spri + length own

  covered : ¬ IsPending s.config later t earlier message → HasSentBlock s turns spri number
  covered not_pending =
      let small : spri < 192 = spris_are_small read s.config.grouping message (has_ranges s.config is).grouping in
      in_turns s start turns spri (length own) is turned
      (others_are_in_runs s.config (calls_of turns) spri (length own) (has_ranges s.config is).some small (few_pending s.config later earlier t message stamp call not_pending))

  signed_by : (w : HasSentBlock s turns spri number) (front behind : List Turn) → turns ≡ front ++ w.turn ∷ behind → IsSigned s turns message number
  signed_by w front behind cut =
      let c = s.config in
      let old = state c start (calls_of behind) in
      let runs = runs_closed c (pending_in old) w.turn.call in
      let here : Has w.turn.emitted w.message = has_from_contains w.turn.emitted w.message w.sent in
      let turn = turn_of s start front behind w.turn (subst (AreTurns s start) cut turned) in
      let sent = sent_run_of s old w.message w.block w.read w.turn.call w.turn.emitted turn.0 turn.1 here in
      let of_sent = says s old (stamp_of w.turn.call) sent.gbc sent.run w.message w.block sent.sealed w.read in
      let entry = from_has-enumerated old.gbc runs sent.gbc sent.run sent.closed in
      let last = all-has (IsLastRun c (calls_of behind) w.turn.call) runs sent.run (runs_are_last c (calls_of behind) w.turn.call) entry.2 in
      let own_spri : sent.run.spri ≡ spri = same_spri c.grouping sent.run.spri spri (sym of_sent.group ∙ w.group) in
      let run : IsRunOf c start turns spri w.block
      = subst (λ k. IsRunOf c start turns k w.block) own_spri
      (subst (λ ts. IsRunOf c start ts sent.run.spri w.block) (sym cut) (run_of c start front behind w.turn sent.run w.block last of_sent.hashes of_sent.first)) in
      let has = holds c (number_in start.counters.groups spri) w.block run.front run.run run.more own (messages_of c.grouping spri (calls_of later)) message
      (sym run.messages ∙ among_own c later earlier t message stamp call) run.hashes run.first w.least w.below in
      let own_parts = parts s old (stamp_of w.turn.call) sent.gbc sent.run w.message w.block sent.sealed w.read in
      let octets = unsigned_text c.head (stamp_of w.turn.call) (block_of c old (sent.gbc, sent.run)) in
      record {
        turn = w.turn;
        of_turns = w.of_turns;
        text = w.message;
        sent = w.sent;
        block = w.block;
        read = w.read;
        session = sent.sealed.read.session;
        alg = own_parts.1;
        rsid = own_parts.2;
        group = w.group;
        octets = octets;
        signed = sent.sealed.read.signed;
        valid = subst (λ x. s.valid (payload_text s.payload) octets x ≡ true) own_parts.0 sent.sealed.valid;
        before = has.front;
        behind = has.behind;
        hashes = has.hashes;
        number_is = has.number_is;
      }

  pub signed_in : ¬ IsPending s.config later t earlier message → IsSigned s turns message number
  signed_in not_pending =
      let w = covered not_pending in
      let cut = has_split turns w.turn (has_from_contains turns w.turn w.of_turns) in
      signed_by w cut.0 cut.1 cut.2

pub messages_ahead_are_signed : FaultsAreOfNoMessage → MessagesAheadAreSigned
messages_ahead_are_signed read s lives is message g not_pending =
    let fits = is.setting.fit.config in
    let are : GoOnAhead s (g.life ∷ g.older) = older_of read s fits g.newer (g.life ∷ g.older) (subst (GoOnAhead s) g.lives_are is.chained) in
    subst (λ ts. IsSigned s ts message (number_given s.config g)) (sym g.turns_are)
    (signed_in read s fits g.life.start g.later g.earlier g.turn message g.stamp g.call (subst (AreTurns s g.life.start) g.turns_are are.2) not_pending)
