-- The blocks that are stored of a log are those that its originators sent.
use Rattle.std.proofs.Common.{◌≡◌, inl, inr, ℕ, true, false, List, refl, sym, ap, ◌∙◌}
use Rattle.std.specs.Prelude.{Option, Some, None, option_map, slice_get}
use Rattle.std.specs.List.{Contains}
use Rattle.std.proofs.lemmas.Option.{same_Some, slice_get-map}
use Rattle.ss_block.specs.declared.reading.Reading.{Reading}
use Rattle.ss_block.specs.declared.reading.Reading.TheVariants as readings
use Rattle.ss_block.specs.declared.session.Session.{Session}
use Rattle.ss_block.specs.Reading.{reading}
use Rattle.ss_payload.specs.Payload.{payload_text}
use Rattle.ss_origin.specs.Setting.{Setting}
use Rattle.ss_origin.specs.Chain.{Turn, emitted_by}
use Rattle.ss_review.specs.keep.BlockMessage.{BlockMessage, BlockContent}
use Rattle.ss_review.specs.keep.Notes.{Note, Block, noted, note, notes}
use Rattle.ss_review.specs.keep.Contents.{said_in, block_with, block_in, blocks}
use Rattle.ss_review.specs.questions.Shortened.{hash_count}
use Rattle.ss_review.specs.sessions.Verified.{signature_of, is_valid}
use Rattle.ss_review.specs.deliveries.Delivery.{own_session, is_normal, is_spoilt, IsDelivered, sent, normal, spoilt, other, Delivers}
use Rattle.ss_review.specs.deliveries.DeliveryLaws.{Case, AcceptsSent, says}
use Rattle.ss_review.specs.deliveries.Delivered.{IsSentBlock, IsStoredBlock, OwnBlocksAreSent, SentBlocksAreStored}
use Rattle.ss_review.proofs.of_lists.Keyed.{has-slice_get, slice_get-has}
use Rattle.ss_octets.proofs.Members.{has_from_contains, contains_from_has}
use Rattle.ss_review.proofs.of_kept_messages.NotesTold.{IsBlockOf, has-block}
use Rattle.ss_review.proofs.of_deliveries.SentMessages.{AreAllTurns, turns_of_chain, IsOwnBlock, sent_as}
use Rattle.ss_review.proofs.of_reports.Witnesses.{stored_block}

-- ---- what a reading is noted as

unsaid : (b : BlockContent) → None ≡ Some b → ⊥
unsaid b e = cc

-- a text that says something of a session is no message without a block
not_normal : (text : List ℕ) (r : Reading) (said : BlockContent) → said_in r ≡ Some said → is_normal (noted text r) ≡ true → ⊥
not_normal text readings.Plain said e n = unsaid said e
not_normal text (readings.Unparsed part pos) said e n = unsaid said e
not_normal text (readings.Signature b) said e n = cc
not_normal text (readings.Certificate b) said e n = cc
not_normal text (readings.Spoilt cause) said e n = unsaid said e

-- and not spoilt
not_spoilt : (text : List ℕ) (r : Reading) (said : BlockContent) → said_in r ≡ Some said → is_spoilt (noted text r) ≡ true → ⊥
not_spoilt text readings.Plain said e n = unsaid said e
not_spoilt text (readings.Unparsed part pos) said e n = unsaid said e
not_spoilt text (readings.Signature b) said e n = cc
not_spoilt text (readings.Certificate b) said e n = cc
not_spoilt text (readings.Spoilt cause) said e n = unsaid said e

-- a text that says something is a block
pub noted_block : (text : List ℕ) (r : Reading) (said : BlockContent) → said_in r ≡ Some said → noted text r ≡ Block text
noted_block text readings.Plain said e = absurd (unsaid said e)
noted_block text (readings.Unparsed part pos) said e = absurd (unsaid said e)
noted_block text (readings.Signature b) said e = refl
noted_block text (readings.Certificate b) said e = refl
noted_block text (readings.Spoilt cause) said e = absurd (unsaid said e)

-- and none without a block
pub block_not_normal : (m : List ℕ) (said : BlockContent) → said_in (reading m) ≡ Some said → is_normal (note m) ≡ false
unfolding note
block_not_normal m said e = ap is_normal (noted_block m (reading m) said e)

-- ---- blocks of the session

-- such a block as a message of a log
abbrev own_message : (s : Setting) (m : List ℕ) → IsOwnBlock s m → ℕ → BlockMessage
own_message s m is place = record { place = place; count = hash_count is.said; session = own_session s; said = is.said; signed = is.octets }

pub own_block : (s : Setting) (m : List ℕ) (is : IsOwnBlock s m) (place : ℕ) → block_in place m ≡ Some (own_message s m is place)
unfolding block_in
own_block s m is place = λ i. block_with place (is.read i) (is.session_is i) (is.signed_is i)

pub own_note : (s : Setting) (m : List ℕ) → IsOwnBlock s m → note m ≡ Block m
unfolding note
own_note s m is = noted_block m (reading m) is.said is.read

pub plain_normal : (m : List ℕ) → reading m ≡ readings.Plain → is_normal (note m) ≡ true
unfolding note
plain_normal m e = ap (λ r. is_normal (noted m r)) e

plain_not_spoilt : (m : List ℕ) → reading m ≡ readings.Plain → is_spoilt (note m) ≡ false
unfolding note
plain_not_spoilt m e = ap (λ r. is_spoilt (noted m r)) e

-- no message that was sent is spoilt
pub none_spoilt : (s : Setting) (chain : List (List Turn)) (m : List ℕ) → AreAllTurns s chain → Contains (emitted_by chain) m → is_spoilt (note m) ≡ false
none_spoilt s chain m are c =
    elim (sent_as s chain m are c) [
      | inl plain ↦ plain_not_spoilt m plain
      | inr own ↦ ap is_spoilt (own_note s m own)
    ]

-- ---- stored blocks

module _ (x : Case) (b : BlockMessage) (text : List ℕ) (told : IsBlockOf b.place text b) where
  read_of : block_in b.place text ≡ Some b
  unfolding block_in
  read_of =
      (λ i. block_with b.place (told.said_is i) (told.session_is i) (told.signed_is i))
      ∙ ap (λ count. Some (record b { count = count })) (sym told.count_is)

  valid_of : AcceptsSent x → Contains x.log text → Contains (emitted_by x.chain) text → IsOwnBlock x.s text → is_valid (says x) (payload_text x.s.payload) b ≡ true
  valid_of accepts stored c is =
      let octets : is.octets ≡ b.signed = same_Some _ _ (sym is.signed_is ∙ told.signed_is) in
      let said : is.said ≡ b.said = same_Some _ _ (sym is.read ∙ told.said_is) in
      sym (λ i. (says x).valid (payload_text x.s.payload) (octets i) (signature_of (said i))) ∙ accepts text is.octets is.said stored c is.read is.signed_is is.valid

  note_not_normal : is_normal (note text) ≡ true → ⊥
  unfolding note
  note_not_normal n = not_normal text (reading text) b.said told.said_is n

  note_not_spoilt : is_spoilt (note text) ≡ true → ⊥
  unfolding note
  note_not_spoilt n = not_spoilt text (reading text) b.said told.said_is n

  not_plain : reading text ≡ readings.Plain → ⊥
  not_plain e = unsaid b.said (ap said_in (sym e) ∙ told.said_is)

  of_delivered : AreAllTurns x.s x.chain → AcceptsSent x → Contains x.log text → b.session ≡ own_session x.s → IsDelivered x.s x.chain text → IsSentBlock x b
  of_delivered are accepts stored own (sent c) =
      elim (sent_as x.s x.chain text are c) [
        | inl plain ↦ absurd (not_plain plain)
        | inr own_one ↦ record { message = text; stored = stored; sent = c; read = read_of; valid = valid_of accepts stored c own_one }
      ]
  of_delivered are accepts stored own (normal n) = absurd (note_not_normal n)
  of_delivered are accepts stored own (spoilt n) = absurd (note_not_spoilt n)
  of_delivered are accepts stored own (other o e n) = absurd (n (same_Some o (own_session x.s) (sym e ∙ told.session_is ∙ ap (λ (p : Session). Some p) own)))

-- a stored block of the session is one that was sent
pub own_block_sent : (x : Case) → AreAllTurns x.s x.chain → Delivers x.s x.chain x.log → AcceptsSent x → (b : BlockMessage) → Contains (blocks (notes x.log)) b → b.session ≡ own_session x.s → IsSentBlock x b
own_block_sent x are delivers accepts b c own =
    let w = stored_block x.log b (has_from_contains (blocks (notes x.log)) b c) in
    let stored : Contains x.log w.0 = contains_from_has x.log w.0 (has-slice_get x.log b.place w.0 w.1) in
    of_delivered x b w.0 w.2 are accepts stored own (delivers w.0 stored)

-- a block that was sent and that is in the log is stored as one of the session
pub sent_block_stored : (x : Case) → AreAllTurns x.s x.chain → (m : List ℕ) → Contains x.log m → Contains (emitted_by x.chain) m → is_normal (note m) ≡ false → IsStoredBlock x m
sent_block_stored x are m c sent_it n =
    elim (sent_as x.s x.chain m are sent_it) [
      | inl plain ↦ absurd (let no : true ≡ false = sym (plain_normal m plain) ∙ n in cc)
      | inr own ↦ (
          let at = slice_get-has x.log m (has_from_contains x.log m c) in
          let b = own_message x.s m own at.0 in
          let noted_so : slice_get (notes x.log) at.0 ≡ Some (Block m)
          = slice_get-map note x.log at.0 ∙ ap (λ (o : Option (List ℕ)). option_map note o) at.1 ∙ ap (λ (p : Note). Some p) (own_note x.s m own) in
          record {
            stored_block = b;
            stored = contains_from_has (blocks (notes x.log)) b (has-block (notes x.log) at.0 m b noted_so (own_block x.s m own at.0));
            read = own_block x.s m own at.0;
            own = refl;
          })
    ]

-- each stored block of the session is one that the chain sent
pub own_blocks_are_sent : OwnBlocksAreSent
own_blocks_are_sent x is b c own = own_block_sent x (turns_of_chain x.s x.chain is.chain) is.delivers is.accepts b c own

-- each block that the chain sent and that is in the log is stored as one of the session
pub sent_blocks_are_stored : SentBlocksAreStored
sent_blocks_are_stored x is m c sent_it n = sent_block_stored x (turns_of_chain x.s x.chain is.chain) m c sent_it n
