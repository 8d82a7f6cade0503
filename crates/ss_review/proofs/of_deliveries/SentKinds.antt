-- What the originators of a chain sent by kind: messages that they were given, which have no block, and block messages.
use Rattle.std.proofs.Common.{◌≡◌, ◌⊎◌, inl, inr, ℕ, true, List, replicate, refl, sym, ap, subst}
use Rattle.std.specs.List.{Contains, flat_map}
use Rattle.ss_block.specs.declared.reading.Reading.{Reading}
use Rattle.ss_block.specs.declared.reading.Reading.TheVariants as readings
use Rattle.ss_block.specs.Reading.{reading}
use Rattle.ss_block.specs.Hashes.{pair}
use Rattle.ss_origin.specs.Calls.{Call, Begin, Submit, Flush}
use Rattle.ss_origin.specs.Setting.{Setting}
use Rattle.ss_origin.specs.Emission.{sent_first}
use Rattle.ss_origin.specs.Chain.{Turn, AreChained, emitted_by}
use Rattle.ss_review.specs.keep.Notes.{Normal, Block, noted, note}
use Rattle.ss_review.specs.deliveries.Delivery.{submitted_in, submitted_to, is_begin, HasBegun}
use Rattle.ss_octets.proofs.Members.{Has, has_from_contains, has-append_cases, has-flat_map, from_has-flat_map, from_has-copies}
use Rattle.ss_review.proofs.of_deliveries.SentMessages.{IsTurn, turn_of_chain, sent_by, plain_first, own_block}
use Rattle.ss_review.proofs.of_deliveries.StoredBlocks.{own_note}

-- ---- one call

-- what a call sends first is the message that it was given
given_first : (call : Call) → sent_first call ≡ submitted_in call
given_first (Begin stamp) = refl
given_first (Submit message stamp) = refl
given_first (Flush stamp) = refl

none_given : (call : Call) (m : List ℕ) → is_begin call ≡ true → Has (submitted_in call) m → ⊥
none_given (Begin stamp) m e h = h
none_given (Submit message stamp) m e h = cc
none_given (Flush stamp) m e h = cc

noted_plain : (m : List ℕ) (r : Reading) → r ≡ readings.Plain → noted m r ≡ Normal (pair m)
noted_plain m r e = ap (noted m) e

plain_note : (m : List ℕ) → reading m ≡ readings.Plain → note m ≡ Normal (pair m)
unfolding note
plain_note m e = noted_plain m (reading m) e

-- what it sends is that message, or a block
turn_kinds : (s : Setting) (t : Turn) (m : List ℕ) → IsTurn s t → Has t.emitted m → Has (submitted_in t.call) m ⊎ (note m ≡ Block m)
turn_kinds s t m turn h =
    let sent = turn.emits.sent in
    let copies = flat_map (λ n. replicate s.config.copies n) sent.messages in
    elim (has-append_cases (sent_first t.call) copies m (subst (λ (ms : List (List ℕ)). Has ms m) sent.sent_are h)) [
      | inl first ↦ inl (subst (λ (ms : List (List ℕ)). Has ms m) (given_first t.call) first)
      | inr copy ↦ inr (own_note s m (own_block s turn.old m t.call t.emitted turn.emits (from_has-copies s.config.copies sent.messages m copy)))
    ]

-- ---- a chain

module _ (s : Setting) (chain : List (List Turn)) (are : AreChained s chain) where
  abbrev given_by : List Turn → List (List ℕ)
  given_by turns = flat_map (λ (t : Turn). submitted_in t.call) turns

  -- what the chain sent is a message that it was given, or a block
  pub sent_kinds : (m : List ℕ) → Contains (emitted_by chain) m → Has (submitted_to chain) m ⊎ (note m ≡ Block m)
  sent_kinds m c =
      let b = sent_by chain m c in
      elim (turn_kinds s b.turn m (turn_of_chain s chain b.turns b.turn are b.of_chain b.of_originator) b.sent) [
        | inl given ↦ inl (has-flat_map given_by chain b.turns m b.of_chain (has-flat_map (λ (t : Turn). submitted_in t.call) b.turns b.turn m b.of_originator given))
        | inr block ↦ inr block
      ]

  -- a message that it was given has no block
  pub submitted_note : (m : List ℕ) → Has (submitted_to chain) m → note m ≡ Normal (pair m)
  submitted_note m h =
      let o = from_has-flat_map given_by chain m h in
      let t = from_has-flat_map (λ (u : Turn). submitted_in u.call) o.0 m o.2 in
      let turn = turn_of_chain s chain o.0 t.0 are o.1 t.1 in
      plain_note m (plain_first s.config turn.old t.0.call m turn.accepted (subst (λ (ms : List (List ℕ)). Has ms m) (sym (given_first t.0.call)) t.2))

  -- what `begin` sent are blocks
  pub begun_note : (begun : HasBegun chain) (m : List ℕ) → Has begun.turn.emitted m → note m ≡ Block m
  begun_note begun m h =
      let t = begun.turn in
      let turn = turn_of_chain s chain begun.turns t are (has_from_contains chain begun.turns begun.of_chain) (has_from_contains begun.turns t begun.of_originator) in
      elim (turn_kinds s t m turn h) [
        | inl given ↦ absurd (none_given t.call m begun.begins given)
        | inr block ↦ block
      ]
