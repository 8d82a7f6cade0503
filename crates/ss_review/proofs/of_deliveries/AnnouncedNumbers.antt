-- Which numbers of the session are announced, and with which hash.
use Rattle.std.proofs.Common.{◌≡◌, inl, inr, ℕ, zero, suc, ◌+◌, ◌-◌, ◌<◌, ◌≤◌, true, List, [], ◌∷◌, ◌++◌, length, refl, sym, ap, ◌∙◌, subst, arith}
use Rattle.std.specs.Prelude.{Some, Result, Ok, slice_get}
use Rattle.std.specs.List.{Contains}
use Rattle.std.specs.List.Sorted.{IsStrictlySortedBy}
use Rattle.std.specs.declared.cmp.Ordering.TheVariants.{Less}
use Rattle.std.proofs.lemmas.List.Elements.{All-contains}
use Rattle.std.proofs.lemmas.Option.{same_Some, slice_get_within}
use Rattle.ss_block.specs.declared.block.Group.{Group}
use Rattle.ss_block.specs.declared.hash.Hash.{Hash}
use Rattle.ss_block.specs.declared.reading.Reading.TheVariants as readings
use Rattle.ss_block.specs.Block as block
use Rattle.ss_block.specs.Hashes.{hash_of}
use Rattle.ss_block.specs.Order.{hash_cmp}
use Rattle.ss_block.specs.OrderLaws.{hash_cmp_total}
use Rattle.ss_block.specs.Reading.{reading}
use Rattle.ss_payload.specs.Payload.{payload_text}
use Rattle.ss_origin.specs.declared.config.Config.{Config}
use Rattle.ss_origin.specs.Groups.{sg_of, group_of}
use Rattle.ss_origin.specs.Setting.{Setting}
use Rattle.ss_origin.specs.Chain.{Turn, IsChain, emitted_by, given_to}
use Rattle.ss_origin.specs.BlockLaws.{AreNumbered}
use Rattle.ss_origin.specs.SentLaws.{IsOfChain, SentBlocksAreNumbered}
use Rattle.ss_review.specs.keep.BlockMessage.{BlockMessage, BlockContent, Hashes}
use Rattle.ss_review.specs.declared.report.session_report.SessionReport.{SessionReport}
use Rattle.ss_review.specs.declared.report.session_report.SessionState.{SessionState}
use Rattle.ss_review.specs.declared.report.session_report.SessionState.TheVariants as states
use Rattle.ss_review.specs.announced.Announced.{Key, keys, hashes_for}
use Rattle.ss_review.specs.announced.Announcing.{Announces, IsAnnounced}
use Rattle.ss_review.specs.keep.Contents.{said_in, blocks}
use Rattle.ss_review.specs.deliveries.Delivered.{IsSentBlock, OwnBlocksAreSent, SentBlocksAreStored, JoinsOwnPayload, HasOneHash, KeysHaveBlocks}
use Rattle.ss_review.specs.deliveries.Delivery.{own_session}
use Rattle.ss_review.specs.deliveries.DeliveryLaws.{Case, says, report_in, rows_in, IsListedAsJoined, HasBlock, message_of}
use Rattle.ss_review.specs.keep.Notes.{notes}
use Rattle.ss_review.specs.sessions.Sessions.{of_session}
use Rattle.ss_review.specs.sessions.Verified.{joined, state_in, is_valid_in, is_verified}
use Rattle.ss_review.proofs.of_numbers.Announcements.{announced_row, announced_key, has-announced_key, from_has-hashes_for, has-hashes_for, hashes_for-rise, rows-rise, has-rows}
use Rattle.ss_octets.proofs.Members.{Has, has_from_contains, contains_from_has, all-has}
use Rattle.ss_review.proofs.of_deliveries.Deliveries.{IsDelivery, of_case}
use Rattle.ss_review.proofs.of_kept_messages.NotesTold.{block_read}
use Rattle.ss_review.proofs.of_reports.OneReport.{is_report}
use Rattle.ss_review.proofs.of_lists.Rising.{not_less_itself}
use Rattle.ss_review.proofs.of_deliveries.OwnPayload.{JoinsPayload}
use Rattle.ss_review.proofs.of_lists.Paired.{parted}
use Rattle.ss_review.proofs.of_deliveries.SentMessages.{sent_by}
use Rattle.ss_review.proofs.of_deliveries.StoredBlocks.{block_not_normal}
use Rattle.ss_review.proofs.of_reports.Witnesses.{got_map, said_signature, verified_cases}

-- ---- elements by index

at_front : {X : Type 0} (xs ys : List X) (i : ℕ) (x : X) → slice_get xs i ≡ Some x → slice_get (xs ++ ys) i ≡ Some x
at_front [] ys i x e = absurd (cc)
at_front (y ∷ xs) ys zero x e = e
at_front (y ∷ xs) ys (suc i) x e = at_front xs ys i x e

at_behind : {X : Type 0} (xs ys : List X) (i j : ℕ) (x : X) → j ≡ length xs + i → slice_get ys i ≡ Some x → slice_get (xs ++ ys) j ≡ Some x
at_behind [] ys i j x at e = let same : j ≡ i = omega (arith, at) in ap (slice_get ys) same ∙ e
at_behind (y ∷ xs) ys i zero x at e = absurd (omega (arith, at))
at_behind (y ∷ xs) ys i (suc j) x at e = at_behind xs ys i j x (omega (arith, at)) e

some_at : {X : Type 0} (xs : List X) (i : ℕ) → i < length xs → (x : X) × (slice_get xs i ≡ Some x)
some_at [] i below = absurd (omega (arith, below))
some_at (x ∷ xs) zero below = (x, refl)
some_at (x ∷ xs) (suc i) below = some_at xs i (omega (arith, below))

-- ---- the message of a number

-- the hash at an index of numbered messages is that of the message with the number
pub numbered_message : (c : Config) (messages : List (List ℕ)) (first : ℕ) (hashes : List Hash) → AreNumbered c messages first hashes → (i : ℕ) (h : Hash) → slice_get hashes i ≡ Some h
    → (m : List ℕ) × (slice_get messages (first + i - 1) ≡ Some m) × (h ≡ hash_of c.alg m)
numbered_message c messages first hashes are i h e =
    let w = got_map (hash_of c.alg) are.run i h (ap (λ hs. slice_get hs i) (sym are.hashes_are) ∙ e) in
    let at : first + i - 1 ≡ length are.front + i = omega (arith, are.first_is) in (
      w.0,
      ap (λ ms. slice_get ms (first + i - 1)) are.messages_are
          ∙ at_behind are.front (are.run ++ are.behind) i (first + i - 1) w.0 at (at_front are.run are.behind i w.0 w.1),
      sym w.2,
    )

-- a signature block that the chain sent is of the chain
pub of_chain : SentBlocksAreNumbered → (s : Setting) (chain : List (List Turn)) → IsChain s chain → (m : List ℕ) → Contains (emitted_by chain) m → (b : block.Signature) → reading m ≡ readings.Signature b → IsOfChain s chain b
of_chain numbered s chain is m c b read =
    let sent = sent_by chain m c in
    let o = parted chain sent.turns sent.of_chain in
    let t = parted sent.turns sent.turn sent.of_originator in
    let whole : chain ≡ o.front ++ (t.front ++ sent.turn ∷ t.behind) ∷ o.behind = o.parts ∙ ap (λ turns. o.front ++ turns ∷ o.behind) t.parts in
    let all = numbered s o.front o.behind t.front t.behind sent.turn (subst (IsChain s) whole is) in
    subst (λ ts. IsOfChain s ts b) (sym whole)
    (all-has (λ n. (d : block.Signature) → reading n ≡ readings.Signature d → IsOfChain s (o.front ++ (t.front ++ sent.turn ∷ t.behind) ∷ o.behind) d) sent.turn.emitted m all sent.sent b read)

-- ---- one hash

-- a list that rises has one member where each is the same
one_only : (hs : List Hash) (h : Hash) → IsStrictlySortedBy hash_cmp hs → Has hs h → ((g : Hash) → Has hs g → g ≡ h) → hs ≡ h ∷ []
unfolding IsStrictlySortedBy
one_only [] h up i f = absurd i
one_only (x ∷ []) h up i f = ap (λ y. y ∷ []) (f x (inl refl))
one_only (x ∷ y ∷ hs) h up i f =
    let same : x ≡ y = f x (inl refl) ∙ sym (f y (inr (inl refl))) in
    absurd (not_less_itself hash_cmp_total y (subst (λ z. hash_cmp z y ≡ Less) same up.0.0))

-- ---- announced numbers

no_state : states.Incomplete ≡ states.Joined → ⊥
no_state e = cc

module _ (x : Case) (is : IsDelivery x) where
  abbrev stored_blocks : List BlockMessage
  stored_blocks = blocks (notes x.log)

  abbrev own_joined : Result (List ℕ) SessionState
  own_joined = joined (says x) (of_session stored_blocks (own_session x.s))

  -- ---- the state of the session

  -- a session with a block is listed, as joined where it is
  listed_as_joined : (b : BlockMessage) → Contains stored_blocks b → b.session ≡ own_session x.s → state_in own_joined ≡ states.Joined → IsListedAsJoined x
  listed_as_joined b c own e =
      let r = is_report (says x) (notes x.log) in
      let w = (r.sessions (own_session x.s)).1 (b, c, own) in
      record {
        entry = w.0;
        of_report = w.1;
        own = w.2;
        joined = All-contains (λ (t : SessionReport). t.state ≡ state_in (joined (says x) (of_session stored_blocks t.session))) (report_in x).sessions w.0 r.states w.1
            ∙ ap (λ s. state_in (joined (says x) (of_session stored_blocks s))) w.2
            ∙ e;
      }

  state_listed : IsListedAsJoined x → state_in own_joined ≡ states.Joined
  state_listed l =
      let r = is_report (says x) (notes x.log) in
      let told = All-contains (λ (t : SessionReport). t.state ≡ state_in (joined (says x) (of_session stored_blocks t.session))) (report_in x).sessions l.entry r.states l.of_report in
      ap (λ s. state_in (joined (says x) (of_session stored_blocks s))) (sym l.own) ∙ sym told ∙ l.joined

  -- ---- the block of an announced number

  module _ (k : Key) (own : k.session ≡ own_session x.s) (h : Hash) (a : Announces (says x) stored_blocks k h) where
    abbrev pub block_sent : IsSentBlock x a.message
    block_sent = is.sent a.message a.stored (a.session_is ∙ own)

    pub read_said : reading block_sent.message ≡ readings.Signature a.said
    read_said =
        said_signature (reading block_sent.message) a.said
        ((block_read a.message.place block_sent.message a.message block_sent.read).said_is ∙ ap (λ (s : BlockContent). Some s) a.says_so)

    has_block : HasBlock x k
    has_block = record {
      message = block_sent.message;
      block = a.said;
      stored = block_sent.stored;
      sent = block_sent.sent;
      read = read_said;
      group = a.group_is;
      first = omega (arith, a.number);
      last = omega (arith, a.number, slice_get_within a.said.hashes a.index h a.hash);
    }

    is_joined : state_in own_joined ≡ states.Joined
    is_joined =
        let v = verified_cases (says x) stored_blocks a.message a.verified in
        ap (λ s. state_in (joined (says x) (of_session stored_blocks s))) (sym (a.session_is ∙ own)) ∙ ap state_in v.1

    is_listed_as_joined : IsListedAsJoined x
    is_listed_as_joined = listed_as_joined a.message a.stored (a.session_is ∙ own) is_joined

  -- the chain gave a message the number, and the hash is that message's
  pub record IsNumbered (k : Key) (h : Hash) : Type 0 where
    pub message : List ℕ
    pub given : message_of x k ≡ Some message
    pub hash : h ≡ hash_of x.s.config.alg message
    pub number : 1 ≤ k.number
    pub group : k.group.sg ≡ sg_of x.s.config.grouping

  pub numbered : IsChain x.s x.chain → SentBlocksAreNumbered → (k : Key) (h : Hash) → k.session ≡ own_session x.s → Announces (says x) stored_blocks k h → IsNumbered k h
  numbered chained of k h own a =
      let b = block_sent k own h a in
      let o = of_chain of x.s x.chain chained b.message b.sent a.said (read_said k own h a) in
      let group : k.group ≡ group_of x.s.config.grouping o.spri = sym a.group_is ∙ o.group in
      let spri : k.group.spri ≡ o.spri = ap (λ (g : Group). g.spri) group in
      let m = numbered_message x.s.config (given_to x.s.config o.spri x.chain) a.said.first a.said.hashes o.numbered a.index h a.hash in
      record {
        message = m.0;
        given = (λ i. slice_get (given_to x.s.config (spri i) x.chain) (a.number i - 1)) ∙ m.1;
        hash = m.2;
        number = omega (arith, a.number, o.numbered.first_is);
        group = ap (λ (g : Group). g.sg) group;
      }

  -- ---- the number of a block

  -- a block of the session is verified where the session is joined under the originators' payload
  pub verified_by : (b : BlockMessage) → Contains stored_blocks b → b.session ≡ own_session x.s → own_joined ≡ Ok (payload_text x.s.payload) → is_verified (says x) stored_blocks b ≡ true
  unfolding is_verified
  verified_by b c own e =
      ap (λ s. is_valid_in (says x) (joined (says x) (of_session stored_blocks s)) b) own
      ∙ ap (λ r. is_valid_in (says x) r b) e
      ∙ (is.sent b c own).valid

  joined_under : JoinsPayload x → IsListedAsJoined x → own_joined ≡ Ok (payload_text x.s.payload)
  joined_under joins l =
      elim joins [
        | inl all ↦ all.1
        | inr some ↦ absurd (no_state (sym (ap state_in some.1) ∙ state_listed l))
      ]

  pub announced_by : JoinsPayload x → (k : Key) → k.session ≡ own_session x.s → IsListedAsJoined x → HasBlock x k → IsAnnounced (says x) stored_blocks k
  announced_by joins k own l b =
      let t = is.stored b.message b.stored b.sent (block_not_normal b.message (Hashes b.block) (ap said_in b.read)) in
      let said : Hashes b.block ≡ t.stored_block.said
      = same_Some _ _ (sym (ap said_in b.read) ∙ (block_read t.stored_block.place b.message t.stored_block t.read).said_is) in
      let at : k.number ≡ b.block.first + (k.number - b.block.first) = omega (arith, b.first) in
      let h = some_at b.block.hashes (k.number - b.block.first) (omega (arith, b.first, b.last)) in (
        h.0,
        record {
          message = t.stored_block;
          stored = t.stored;
          verified = verified_by t.stored_block t.stored t.own (joined_under joins l);
          session_is = t.own ∙ sym own;
          said = b.block;
          says_so = sym said;
          group_is = b.group;
          index = k.number - b.block.first;
          number = at;
          hash = h.1;
        },
      )

  -- ---- both ways

  pub announced_has_block : (k : Key) → k.session ≡ own_session x.s → IsAnnounced (says x) stored_blocks k → IsListedAsJoined x × HasBlock x k
  announced_has_block k own a = (is_listed_as_joined k own a.0 a.1, has_block k own a.0 a.1)

  announced : (k : Key) → Contains (keys (rows_in x)) k → IsAnnounced (says x) stored_blocks k
  announced k c = announced_key (says x) stored_blocks k (has_from_contains (keys (rows_in x)) k c)

  its_hash : IsChain x.s x.chain → SentBlocksAreNumbered → (k : Key) → k.session ≡ own_session x.s → Contains (keys (rows_in x)) k → HasOneHash x k
  its_hash chained of k own c =
      let a = announced k c in
      let n = numbered chained of k a.0 own a.1 in
      let all_one : (g : Hash) → Has (hashes_for (rows_in x) k) g → g ≡ a.0
      = λ g i.
      (let m = numbered chained of k g own (announced_row (says x) stored_blocks (record { key = k; hash = g }) (from_has-hashes_for (rows_in x) k g i)) in
      let same : m.message ≡ n.message = same_Some m.message n.message (sym m.given ∙ n.given) in
      m.hash ∙ ap (hash_of x.s.config.alg) same ∙ sym n.hash) in
      record {
        message = n.message;
        given = n.given;
        hashes = one_only (hashes_for (rows_in x) k) a.0 (hashes_for-rise (rows_in x) k (rows-rise (says x) stored_blocks))
            (has-hashes_for (rows_in x) k a.0 (has-rows (says x) stored_blocks k a.0 a.1)) all_one
            ∙ ap (λ g. g ∷ []) n.hash;
        number = n.number;
        group = n.group;
      }

-- a number is announced exactly where the session is joined and a block has a hash for it, and then with its message's
pub keys_have_blocks : OwnBlocksAreSent → SentBlocksAreStored → JoinsOwnPayload → SentBlocksAreNumbered → KeysHaveBlocks
keys_have_blocks sent stored joins of x is k own =
    let d = of_case sent stored x is in (
      (
        λ c. announced_has_block x d k own (announced x d k c),
        λ b. contains_from_has (keys (rows_in x)) k (has-announced_key (says x) (blocks (notes x.log)) k (announced_by x d (joins x is) k own b.0 b.1)),
      ),
      its_hash x d is.chain of k own,
    )
