-- The next GBC of a whole delivery is how many signature blocks its originators sent.
use Rattle.std.proofs.Common.{◌≡◌, inl, inr, ℕ, ◌+◌, ◌<◌, ◌≤◌, Bool, false, List, [], ◌∷◌, length, filter, refl, sym, ap, ◌∙◌, subst, arith}
use Rattle.std.specs.Prelude.{Some, Contains}
use Rattle.std.specs.List.{flat_map, enumerate_from}
use Rattle.std.proofs.lemmas.Bool.{cases_lt}
use Rattle.std.proofs.lemmas.Option.{same_Some}
use Rattle.ss_block.specs.declared.reading.Reading.TheVariants as readings
use Rattle.ss_block.specs.Block as block
use Rattle.ss_block.specs.Reading.{reading}
use Rattle.ss_origin.specs.Chain.{Turn, start_behind, emitted_by}
use Rattle.ss_origin.specs.CountedLaws.{sent_in_turns, sent_in_order, is_signature, HasGbc, AreCounted, SentBlocksAreCounted}
use Rattle.ss_origin.proofs.Configs.{has_ranges}
use Rattle.ss_review.specs.keep.BlockMessage.{BlockContent, Hashes}
use Rattle.ss_review.specs.keep.Notes.{note, notes}
use Rattle.ss_review.specs.keep.Contents.{said_in, blocks}
use Rattle.ss_review.specs.counted.Counted.{gbcs, next_after}
use Rattle.ss_review.specs.counted.CountedLaws.{IsCounted, IsNext, NextGbcFollows}
use Rattle.ss_review.specs.deliveries.Delivery.{own_session, is_normal}
use Rattle.ss_review.specs.deliveries.DeliveryLaws.{Case, says}
use Rattle.ss_review.specs.deliveries.Delivered.{IsStoredBlock}
use Rattle.ss_review.specs.deliveries.Whole.{IsWhole, BlocksAreVerified}
use Rattle.ss_review.proofs.of_deliveries.StoredBlocks.{block_not_normal, own_blocks_are_sent, sent_blocks_are_stored}
use Rattle.ss_review.proofs.of_kept_messages.NotesTold.{block_read}
use Rattle.ss_review.proofs.of_reports.Witnesses.{said_signature}
use Rattle.ss_octets.proofs.Members.{Has, has_from_contains, contains_from_has, has-append_left, has-append_right, has-append_cases, has-copies, from_has-copies, has-filter, from_has-filter, all-has}

-- ---- what was sent, in order

abbrev of_turns : List Turn → List (List ℕ)
of_turns turns = flat_map (λ (t : Turn). t.emitted) turns

turns_sent : (turns : List Turn) (m : List ℕ) → Has (of_turns turns) m → Has (sent_in_turns turns) m
turns_sent [] m h = h
turns_sent (t ∷ before) m h =
    elim (has-append_cases t.emitted (of_turns before) m h) [
      | inl l ↦ has-append_right (sent_in_turns before) t.emitted m l
      | inr r ↦ has-append_left (sent_in_turns before) t.emitted m (turns_sent before m r)
    ]

turns_emitted : (turns : List Turn) (m : List ℕ) → Has (sent_in_turns turns) m → Has (of_turns turns) m
turns_emitted [] m h = h
turns_emitted (t ∷ before) m h =
    elim (has-append_cases (sent_in_turns before) t.emitted m h) [
      | inl l ↦ has-append_right t.emitted (of_turns before) m (turns_emitted before m l)
      | inr r ↦ has-append_left t.emitted (of_turns before) m r
    ]

chain_sent : (chain : List (List Turn)) (m : List ℕ) → Has (emitted_by chain) m → Has (sent_in_order chain) m
chain_sent [] m h = h
chain_sent (turns ∷ before) m h =
    elim (has-append_cases (of_turns turns) (emitted_by before) m h) [
      | inl l ↦ has-append_right (sent_in_order before) (sent_in_turns turns) m (turns_sent turns m l)
      | inr r ↦ has-append_left (sent_in_order before) (sent_in_turns turns) m (chain_sent before m r)
    ]

chain_emitted : (chain : List (List Turn)) (m : List ℕ) → Has (sent_in_order chain) m → Has (emitted_by chain) m
chain_emitted [] m h = h
chain_emitted (turns ∷ before) m h =
    elim (has-append_cases (sent_in_order before) (sent_in_turns turns) m h) [
      | inl l ↦ has-append_right (of_turns turns) (emitted_by before) m (chain_emitted before m l)
      | inr r ↦ has-append_left (of_turns turns) (emitted_by before) m (turns_emitted turns m r)
    ]

-- ---- numbered members

numbered : {X : Type 0} (n : ℕ) (xs : List X) (x : X) → Has xs x → (k : ℕ) × Has (enumerate_from n xs) (k, x) × (k < n + length xs)
numbered n [] x h = absurd h
numbered n (y ∷ ys) x (inl e) = (n, inl (λ i. (n, e i)), omega arith)
numbered n (y ∷ ys) x (inr h) = let w = numbered (n + 1) ys x h in let below = w.2 in (w.0, inr w.1, omega (arith, below))

-- the last one
last_numbered : {X : Type 0} (n : ℕ) (xs : List X) → 0 < length xs → (k : ℕ) × (x : X) × Has xs x × Has (enumerate_from n xs) (k, x) × (k + 1 ≡ n + length xs)
last_numbered n [] some = absurd (omega (arith, some))
last_numbered n (x ∷ []) some = (n, x, inl refl, inl refl, omega arith)
last_numbered n (x ∷ y ∷ ys) some =
    let w = last_numbered (n + 1) (y ∷ ys) (omega arith) in
    let end = w.4 in
    (w.0, w.1, inr w.2, inr w.3, omega (arith, end))

-- ---- the next GBC

module _ (x : Case) (w : IsWhole x) (a : AreCounted x.s x.chain) where
  abbrev ended : ℕ
  ended = (start_behind x.s.config x.chain).counters.gbc

  abbrev next : ℕ
  next = next_after (gbcs (says x) (blocks (notes x.log)) (own_session x.s))

  abbrev follows_all : Type 0
  follows_all = IsNext (IsCounted (says x) (blocks (notes x.log)) (own_session x.s)) next

  abbrev is_block : List ℕ → Bool
  is_block m = is_signature (reading m)

  -- a block that was sent has a GBC below the last counter
  sent_below : (m : List ℕ) (b : block.Signature) → Has (emitted_by x.chain) m → reading m ≡ readings.Signature b → b.gbc < ended
  sent_below m b h read =
      let kept : Has (filter is_block (sent_in_order x.chain)) m = has-filter is_block (sent_in_order x.chain) m (chain_sent x.chain m h) (ap is_signature read) in
      let among : Has a.messages m = from_has-copies x.s.config.copies a.messages m (subst (λ (ms : List (List ℕ)). Has ms m) a.sent kept) in
      let at = numbered 0 a.messages m among in
      let own : HasGbc (at.0, m) = all-has HasGbc (enumerate_from 0 a.messages) (at.0, m) a.counted at.1 in
      let said : readings.Signature own.0 ≡ readings.Signature b = sym own.1 ∙ read in
      let same : own.0 ≡ b = cc in
      let gbc : b.gbc ≡ at.0 = ap (λ (s : block.Signature). s.gbc) (sym same) ∙ own.2 in
      let below = at.2 in
      let end = a.next in
      omega (arith, gbc, below, end)

  at_most : follows_all → next ≤ ended
  at_most follows =
      elim follows.behind [
        | inl none ↦ omega (arith, none)
        | inr v ↦ (
            let c = v.1 in
            let sent = own_blocks_are_sent x w.case c.message c.stored c.session_is in
            let told = block_read c.message.place sent.message c.message sent.read in
            let read : reading sent.message ≡ readings.Signature c.said = said_signature (reading sent.message) c.said (told.said_is ∙ ap (λ (y : BlockContent). Some y) c.says_so) in
            let below = sent_below sent.message c.said (has_from_contains (emitted_by x.chain) sent.message sent.sent) read in
            let gbc = c.gbc_is in
            let end = v.2 in
            omega (arith, below, gbc, end))
      ]

  -- a block that was sent is counted
  is_counted : BlocksAreVerified → (m : List ℕ) (b : block.Signature) → Has (emitted_by x.chain) m → reading m ≡ readings.Signature b
      → IsCounted (says x) (blocks (notes x.log)) (own_session x.s) b.gbc
  is_counted verified m b h read =
      let sent : Contains (emitted_by x.chain) m = contains_from_has (emitted_by x.chain) m h in
      let no_normal : is_normal (note m) ≡ false = block_not_normal m (Hashes b) (ap said_in read) in
      let as_block : IsStoredBlock x m = sent_blocks_are_stored x w.case m (w.delivered.blocks m sent no_normal) sent no_normal in
      let told = block_read as_block.stored_block.place m as_block.stored_block as_block.read in
      record {
        message = as_block.stored_block;
        stored = as_block.stored;
        session_is = as_block.own;
        verified = (verified x w as_block.stored_block as_block.stored).1;
        said = b;
        says_so = same_Some as_block.stored_block.said (Hashes b) (sym told.said_is ∙ ap said_in read);
        gbc_is = refl;
      }

  at_least : BlocksAreVerified → follows_all → ended ≤ next
  at_least verified follows =
      elim (cases_lt 0 (length a.messages)) [
        | inl some ↦ (
            let v = last_numbered 0 a.messages some in
            let own : HasGbc (v.0, v.1) = all-has HasGbc (enumerate_from 0 a.messages) (v.0, v.1) a.counted v.3 in
            let copies = has-copies x.s.config.copies a.messages v.1 (has_ranges x.s.config w.case.chain.setting.fit.config).some_copy v.2 in
            let kept : Has (filter is_block (sent_in_order x.chain)) v.1 = subst (λ (ms : List (List ℕ)). Has ms v.1) (sym a.sent) copies in
            let sent = chain_emitted x.chain v.1 (from_has-filter is_block (sent_in_order x.chain) v.1 kept).0 in
            let above : own.0.gbc < next = follows.above own.0.gbc (is_counted verified v.1 own.0 sent own.1) in
            let gbc = own.2 in
            let last = v.4 in
            let end = a.next in
            omega (arith, above, gbc, last, end))
        | inr none ↦ (let end = a.next in omega (arith, none, end))
      ]

pub next_gbc_is : BlocksAreVerified → SentBlocksAreCounted → NextGbcFollows → (x : Case) → IsWhole x
    → next_after (gbcs (says x) (blocks (notes x.log)) (own_session x.s)) ≡ (start_behind x.s.config x.chain).counters.gbc
next_gbc_is verified counted follows x w =
    let a = counted x.s x.chain w.case.chain in
    let f = follows (says x) x.log (own_session x.s) in
    let most = at_most x w a f in
    let least = at_least x w a verified f in
    omega (arith, most, least)
