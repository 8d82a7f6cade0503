-- Each message that a chain was given, and that isn't pending, is signed under its number.
use Rattle.std.proofs.Common.{◌≡◌, inl, inr, ℕ, ◌+◌, ◌<◌, ◌≤◌, true, List, [], ◌∷◌, ◌++◌, length, map, sym, ap, ◌∙◌, subst, arith, append-nil, append_assoc, length-append}
use Rattle.std.specs.Prelude.{Option}
use Rattle.std.proofs.lemmas.Bool.{cases_lt}
use Rattle.std.proofs.lemmas.List.{length-map, map-append}
use Rattle.ss_message.specs.Stamp.{Moment}
use Rattle.ss_message.specs.Laws.{FaultsAreOfNoMessage}
use Rattle.ss_payload.specs.Payload.{payload_text}
use Rattle.ss_block.specs.declared.reading.Reading.TheVariants as readings
use Rattle.ss_block.specs.declared.hash.Hash.{Hash}
use Rattle.ss_block.specs.Block as block
use Rattle.ss_block.specs.Hashes.{hash_of}
use Rattle.ss_block.specs.Reading.{reading}
use Rattle.ss_origin.specs.declared.config.Config.{Config}
use Rattle.ss_origin.specs.declared.grouping.Grouping.{Grouping}
use Rattle.ss_origin.specs.Groups.{group_of}
use Rattle.ss_origin.specs.Calls.{Call, Begin, Submit, Flush, spri_in, if_in, messages_of, pending_of, stamp_of}
use Rattle.ss_origin.specs.State.{State, state, first_pending}
use Rattle.ss_origin.specs.Blocks.{unsigned_text}
use Rattle.ss_origin.specs.Setting.{Setting}
use Rattle.ss_origin.specs.Emission.{signature_in, block_of}
use Rattle.ss_origin.specs.Chain.{Turn, calls_of, AreTurns, start_behind, IsChain, given_to}
use Rattle.ss_origin.specs.SentLaws.{IsOfChain, HasSentBlock}
use Rattle.ss_origin.specs.BlockLaws.{AreNumbered}
use Rattle.ss_origin.specs.SignedLaws.{IsPending, IsSigned, MessagesAreSigned}
use Rattle.ss_origin.proofs.Announced.{others_are_sent}
use Rattle.ss_origin.proofs.Configs.{has_ranges}
use Rattle.ss_origin.proofs.Groups.{spris_are_small}
use Rattle.ss_octets.proofs.Members.{Has, has_from_contains, has_split, all-has}
use Rattle.ss_origin.proofs.Numbered.{given_behind}
use Rattle.ss_origin.proofs.RunsClosed.{own_message}
use Rattle.ss_origin.proofs.Sent.{turn_of, turns_of, sent_blocks_are_numbered}
use Rattle.ss_origin.proofs.SentRuns.{IsSentRun, sent_run_of}

-- ---- lists

-- a run of a list that has the place of an item holds the item there
pub in_run : {X : Type 0} (front run behind before after : List X) (x : X) → front ++ (run ++ behind) ≡ before ++ x ∷ after
    → length front ≤ length before → length before < length front + length run
    → (least : List X) × (rest : List X) × (run ≡ least ++ x ∷ rest) × (length front + length least ≡ length before)
in_run [] [] behind before after x e low high = absurd (omega arith)
in_run [] (r ∷ run) behind [] after x e low high = let same : r ≡ x = cc in ([], run, ap (λ y. y ∷ run) same, omega arith)
in_run [] (r ∷ run) behind (p ∷ before) after x e low high =
    let same : r ≡ p = cc in
    let tail : run ++ behind ≡ before ++ x ∷ after = cc in
    let w = in_run [] run behind before after x tail (omega arith) (omega arith) in
    (p ∷ w.0, w.1, (λ i. same i ∷ w.2 i), omega (arith, w.3))
in_run (f ∷ front) run behind [] after x e low high = absurd (omega arith)
in_run (f ∷ front) run behind (p ∷ before) after x e low high =
    let tail : front ++ (run ++ behind) ≡ before ++ x ∷ after = cc in
    let w = in_run front run behind before after x tail (omega arith) (omega arith) in
    (w.0, w.1, w.2, omega (arith, w.3))

pub map_cut : {X Y : Type 0} (f : X → Y) (run least rest : List X) (x : X) → run ≡ least ++ x ∷ rest → map f run ≡ map f least ++ f x ∷ map f rest
map_cut f run least rest x e = ap (map f) e ∙ map-append f least (x ∷ rest)

-- ---- messages

-- the messages of earlier calls stand in front of those of later ones
pub messages-append : (grouping : Grouping) (spri : ℕ) (later earlier : List Call) → messages_of grouping spri (later ++ earlier) ≡ messages_of grouping spri earlier ++ messages_of grouping spri later
messages-append grouping spri [] earlier = sym (append-nil (messages_of grouping spri earlier))
messages-append grouping spri (Begin stamp ∷ later) earlier = messages-append grouping spri later earlier
messages-append grouping spri (Submit message stamp ∷ later) earlier =
    ap (λ ms. ms ++ if_in grouping spri message) (messages-append grouping spri later earlier)
    ∙ append_assoc (messages_of grouping spri earlier) (messages_of grouping spri later) (if_in grouping spri message)
messages-append grouping spri (Flush stamp ∷ later) earlier = messages-append grouping spri later earlier

module _ (c : Config) (later earlier : List Turn) (t : Turn) (message : List ℕ) (stamp : Option Moment) (call : t.call ≡ Submit message stamp) where
  abbrev own : ℕ
  own = spri_in c.grouping message

  abbrev of_calls : List Turn → List (List ℕ)
  of_calls turns = messages_of c.grouping own (calls_of turns)

  -- the message among those of its originator
  pub among_own : of_calls (later ++ t ∷ earlier) ≡ of_calls earlier ++ message ∷ of_calls later
  among_own =
      ap (messages_of c.grouping own) (map-append (λ (u : Turn). u.call) later (t ∷ earlier))
      ∙ messages-append c.grouping own (calls_of later) (calls_of (t ∷ earlier))
      ∙ ap (λ k. messages_of c.grouping own (k ∷ calls_of earlier) ++ of_calls later) call
      ∙ ap (λ ms. (of_calls earlier ++ ms) ++ of_calls later) (own_message c.grouping message)
      ∙ append_assoc (of_calls earlier) (message ∷ []) (of_calls later)

  -- and among those of the chain
  pub among_given : (newer older : List (List Turn)) → (after : List (List ℕ)) × (given_to c own (newer ++ (later ++ t ∷ earlier) ∷ older) ≡ given_to c own (earlier ∷ older) ++ message ∷ after)
  among_given newer older =
      let w = given_behind c own newer ((later ++ t ∷ earlier) ∷ older) in (
        of_calls later ++ w.0,
        w.1
            ∙ ap (λ ms. (given_to c own older ++ ms) ++ w.0) among_own
            ∙ regrouped (given_to c own older) (of_calls earlier) (of_calls later) w.0,
      )
    where
      regrouped : (given front back others : List (List ℕ)) → (given ++ (front ++ message ∷ back)) ++ others ≡ (given ++ front) ++ message ∷ (back ++ others)
      regrouped given front back others = simp append_assoc

  pub few_pending : ¬ IsPending c later t earlier message → length (of_calls earlier) + length (pending_of c own (calls_of (later ++ t ∷ earlier))) < length (of_calls (later ++ t ∷ earlier))
  few_pending not_pending =
      let all = ap length among_own ∙ length-append (of_calls earlier) (message ∷ of_calls later) in
      elim (cases_lt (length (of_calls later)) (length (pending_of c own (calls_of (later ++ t ∷ earlier))))) [
        | inl pending ↦ absurd (not_pending pending)
        | inr others ↦ omega (arith, all, others)
      ]

-- ---- the block

same_group : (grouping : Grouping) (a b : ℕ) → group_of grouping a ≡ group_of grouping b → a ≡ b
same_group grouping a b e = ap (λ g. g.spri) e

-- a signature block that covers the message's number, with the hashes of the messages from its first number on, has
-- this message's hash there
module _ (s : Setting) (chain : List (List Turn)) (message : List ℕ) (before after : List (List ℕ)) where
  abbrev group : ℕ
  group = spri_in s.config.grouping message

  pub record HasHash (b : block.Signature) : Type 0 where
    pub front : List Hash
    pub behind : List Hash
    pub hashes : b.hashes ≡ front ++ hash_of s.config.alg message ∷ behind
    pub number_is : b.first + length front ≡ 1 + length before

  has_hash : (b : block.Signature) → given_to s.config group chain ≡ before ++ message ∷ after → AreNumbered s.config (given_to s.config group chain) b.first b.hashes
      → b.first ≤ 1 + length before → 1 + length before < b.first + length b.hashes → HasHash b
  has_hash b given numbered least below =
      let h = hash_of s.config.alg in
      let many : length b.hashes ≡ length numbered.run = ap length numbered.hashes_are ∙ length-map numbered.run h in
      let first = numbered.first_is in
      let w = in_run numbered.front numbered.run numbered.behind before after message (sym numbered.messages_are ∙ given) (omega (arith, first, least)) (omega (arith, first, many, below)) in
      let same = length-map w.0 h in
      let place = w.3 in
      record {
        front = map h w.0;
        behind = map h w.1;
        hashes = numbered.hashes_are ∙ map_cut h numbered.run w.0 w.1 message w.2;
        number_is = omega (arith, first, same, place);
      }

  of_chain : (b : block.Signature) → IsOfChain s chain b → b.group ≡ group_of s.config.grouping group → given_to s.config group chain ≡ before ++ message ∷ after
      → b.first ≤ 1 + length before → 1 + length before < b.first + length b.hashes → HasHash b
  of_chain b is own given least below =
      let spri : is.spri ≡ group = same_group s.config.grouping is.spri group (sym is.group ∙ own) in
      has_hash b given (subst (λ k. AreNumbered s.config (given_to s.config k chain) b.first b.hashes) spri is.numbered) least below

-- what a block has by its seal, and what by its hashes
signed_by : (s : Setting) (chain : List (List Turn)) (turns : List Turn) (message : List ℕ) (before after : List (List ℕ)) (old : State) (call : Call)
    → (w : HasSentBlock s turns (spri_in s.config.grouping message) (1 + length before)) → IsSentRun s old call w.message → IsOfChain s chain w.block → HasHash s chain message before after w.block
    → IsSigned s turns message (1 + length before)
signed_by s chain turns message before after old call w sent is has =
    let own : readings.Signature (record (signature_in s.config sent.run.spri sent.gbc (first_pending old sent.run.spri) sent.run.hashes) { signature = sent.sealed.signature }) ≡ readings.Signature w.block
    = sym sent.sealed.read.read ∙ w.read in
    let same : sent.sealed.signature ≡ w.block.signature = cc in
    let octets = unsigned_text s.config.head (stamp_of call) (block_of s.config old (sent.gbc, sent.run)) in
    record {
      turn = w.turn;
      of_turns = w.of_turns;
      text = w.message;
      sent = w.sent;
      block = w.block;
      read = w.read;
      session = sent.sealed.read.session;
      alg = is.alg;
      rsid = is.rsid;
      group = w.group;
      octets = octets;
      signed = sent.sealed.read.signed;
      valid = subst (λ x. s.valid (payload_text s.payload) octets x ≡ true) same sent.sealed.valid;
      before = has.front;
      behind = has.behind;
      hashes = has.hashes;
      number_is = has.number_is;
    }

pub messages_are_signed : FaultsAreOfNoMessage → MessagesAreSigned
messages_are_signed read s newer older later earlier t message stamp is call not_pending =
    let c = s.config in
    let spri = spri_in c.grouping message in
    let turns = later ++ t ∷ earlier in
    let chain = newer ++ turns ∷ older in
    let before = given_to c spri (earlier ∷ older) in
    let own = messages_of c.grouping spri (calls_of earlier) in
    let small : spri < 192 = spris_are_small read c.grouping message (has_ranges c is.setting.fit.config).grouping in
    let sent = others_are_sent s newer older turns is spri (length own) small (few_pending c later earlier t message stamp call not_pending) in
    let number : 1 + length (given_to c spri older) + length own ≡ 1 + length before = (let e = length-append (given_to c spri older) own in omega (arith, e)) in
    let w : HasSentBlock s turns spri (1 + length before) = subst (HasSentBlock s turns spri) number sent in
    let cut = has_split turns w.turn (has_from_contains turns w.turn w.of_turns) in
    let here : Has w.turn.emitted w.message = has_from_contains w.turn.emitted w.message w.sent in
    let start = start_behind c older in
    let turn = turn_of s start cut.0 cut.1 w.turn (subst (AreTurns s start) cut.2 (turns_of s newer older turns is.chained)) in
    let run = sent_run_of s (state c start (calls_of cut.1)) w.message w.block w.read w.turn.call w.turn.emitted turn.0 turn.1 here in
    let given = among_given c later earlier t message stamp call newer older in
    let whole : newer ++ (cut.0 ++ w.turn ∷ cut.1) ∷ older ≡ chain = ap (λ ts. newer ++ ts ∷ older) (sym cut.2) in
    let of_sent : IsOfChain s (newer ++ (cut.0 ++ w.turn ∷ cut.1) ∷ older) w.block
    = all-has (λ m. (b : block.Signature) → reading m ≡ readings.Signature b → IsOfChain s (newer ++ (cut.0 ++ w.turn ∷ cut.1) ∷ older) b) w.turn.emitted w.message
    (sent_blocks_are_numbered read s newer older cut.0 cut.1 w.turn (subst (IsChain s) (sym whole) is)) here w.block w.read in
    let block_is : IsOfChain s chain w.block = subst (λ l. IsOfChain s l w.block) whole of_sent in
    signed_by s chain turns message before given.0 (state c start (calls_of cut.1)) w.turn.call w run block_is
    (of_chain s chain message before given.0 w.block block_is w.group given.1 w.least w.below)
