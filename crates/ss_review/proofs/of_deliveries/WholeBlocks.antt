-- Where everything that was sent is in the log, and nothing else: the payload arrived, and each block is verified.
use Rattle.std.proofs.Common.{◌≡◌, inl, inr, ℕ, true, false, List, [], ◌∷◌, refl, sym, ap, ◌∙◌}
use Rattle.std.specs.Prelude.{Ok, Contains}
use Rattle.std.proofs.lemmas.Option.{same_Some}
use Rattle.ss_block.specs.Session.{session}
use Rattle.ss_payload.specs.Payload.{payload_text}
use Rattle.ss_origin.specs.Chain.{emitted_by}
use Rattle.ss_review.specs.keep.BlockMessage.{BlockMessage}
use Rattle.ss_review.specs.declared.keep.spoilt.SpoiltPlace.{SpoiltPlace}
use Rattle.ss_review.specs.keep.Notes.{Block, Spoilt, note, notes}
use Rattle.ss_review.specs.keep.Contents.{blocks, spoilts}
use Rattle.ss_review.specs.sessions.Sessions.{of_session}
use Rattle.ss_review.specs.sessions.Verified.{joined}
use Rattle.ss_review.specs.deliveries.Delivery.{own_session, is_normal, is_spoilt}
use Rattle.ss_review.specs.deliveries.DeliveryLaws.{Case, says}
use Rattle.ss_review.specs.deliveries.Delivered.{OwnBlocksAreSent, SentBlocksAreStored, JoinsOwnPayload}
use Rattle.ss_review.specs.deliveries.Whole.{IsWhole, PayloadsArrive, BlocksAreVerified, NothingIsSpoilt}
use Rattle.ss_review.proofs.of_deliveries.AnnouncedNumbers.{verified_by}
use Rattle.ss_review.proofs.of_deliveries.Deliveries.{of_case}
use Rattle.ss_review.proofs.of_lists.Keyed.{has-slice_get}
use Rattle.ss_octets.proofs.Members.{Has, has_from_contains, contains_from_has}
use Rattle.ss_review.proofs.of_kept_messages.NotesTold.{block_read, block_noted, spoilt_noted}
use Rattle.ss_review.proofs.of_deliveries.NumbersCovered.{sent_by_turn}
use Rattle.ss_review.proofs.of_deliveries.SentKinds.{begun_note}
use Rattle.ss_review.proofs.of_deliveries.SentMessages.{turns_of_chain}
use Rattle.ss_review.proofs.of_deliveries.StoredBlocks.{none_spoilt}
use Rattle.ss_review.proofs.of_reports.Witnesses.{got_map, note_block}

pub payloads_arrive : PayloadsArrive
payloads_arrive x w = record { begun = w.begun; copies = there }
  where
    there : (m : List ℕ) → Contains w.begun.turn.emitted m → Contains x.log m
    there m c =
        let b = w.begun in
        let h = has_from_contains b.turn.emitted m c in
        let sent = sent_by_turn x.chain b.turns b.turn m (has_from_contains x.chain b.turns b.of_chain) (has_from_contains b.turns b.turn b.of_originator) h in
        w.delivered.blocks m (contains_from_has (emitted_by x.chain) m sent) (ap is_normal (begun_note x.s x.chain w.case.chain.chained b m h))

-- a block of the log is of the session
own_block : SentBlocksAreStored → (x : Case) → IsWhole x → (b : BlockMessage) → Has (blocks (notes x.log)) b → b.session ≡ own_session x.s
own_block sent_stored x w b h =
    let told = block_noted (notes x.log) b h in
    let got = got_map note x.log b.place (Block told.0) told.1 in
    let one : got.0 ≡ told.0 = note_block got.0 told.0 got.2 in
    let stored : Contains x.log got.0 = contains_from_has x.log got.0 (has-slice_get x.log b.place got.0 got.1) in
    let as_block = sent_stored x w.case got.0 stored (w.delivered.sent got.0 stored) (ap is_normal got.2) in
    let other = block_read as_block.stored_block.place got.0 as_block.stored_block as_block.read in
    same_Some b.session as_block.stored_block.session (sym told.2.session_is ∙ ap (λ t. session t) (sym one) ∙ other.session_is)
    ∙ as_block.own

pub blocks_are_verified : PayloadsArrive → OwnBlocksAreSent → SentBlocksAreStored → JoinsOwnPayload → BlocksAreVerified
blocks_are_verified arrive own_sent sent_stored joins x w b c = (own, verified_by x (of_case own_sent sent_stored x w.case) b c own whole)
  where
    own : b.session ≡ own_session x.s
    own = own_block sent_stored x w b (has_from_contains (blocks (notes x.log)) b c)

    whole : joined (says x) (of_session (blocks (notes x.log)) (own_session x.s)) ≡ Ok (payload_text x.s.payload)
    whole = elim (joins x w.case) [
      | inl j ↦ j.1
      | inr n ↦ absurd (n.0 (arrive x w))
    ]

none_of : {X : Type 0} (xs : List X) → ((x : X) → Has xs x → ⊥) → xs ≡ []
none_of [] none = refl
none_of (x ∷ xs) none = absurd (none x (inl refl))

pub nothing_is_spoilt : NothingIsSpoilt
nothing_is_spoilt x w = none_of (spoilts (notes x.log)) not_there
  where
    not_there : (p : SpoiltPlace) → Has (spoilts (notes x.log)) p → ⊥
    not_there p h =
        let got = got_map note x.log p.place (Spoilt p.cause) (spoilt_noted (notes x.log) p h) in
        let stored : Contains x.log got.0 = contains_from_has x.log got.0 (has-slice_get x.log p.place got.0 got.1) in
        let not_so : is_spoilt (note got.0) ≡ false = none_spoilt x.s x.chain got.0 (turns_of_chain x.s x.chain w.case.chain) (w.delivered.sent got.0 stored) in
        let no : true ≡ false = sym (ap is_spoilt got.2) ∙ not_so in
        cc
