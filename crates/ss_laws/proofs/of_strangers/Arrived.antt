-- What arrived of originators: their payload claims their session, and their blocks announce their numbers.
use Rattle.std.proofs.Common.{◌≡◌, inl, inr, ℕ, zero, suc, ◌+◌, ◌-◌, ◌<◌, true, List, [], ◌∷◌, length, refl, sym, ap, ◌∙◌, arith}
use Rattle.std.specs.Prelude.{Some, Ok, slice_get}
use Rattle.std.specs.List.{Contains, flat_map}
use Rattle.std.specs.Str.{bytes_eq}
use Rattle.std.proofs.lemmas.Bool.{and_parts, and_from}
use Rattle.std.proofs.lemmas.List.Elements.{All-contains}
use Rattle.std.proofs.lemmas.Option.{same_Some}
use Rattle.std.proofs.lemmas.Slice.Eq.{bytes_eq-Decides}
use Rattle.ss_block.specs.Block as block
use Rattle.ss_block.specs.declared.reading.Reading.TheVariants as readings
use Rattle.ss_block.specs.Reading.{reading}
use Rattle.ss_block.specs.Signed.{signed}
use Rattle.ss_payload.specs.Payload.{payload_text}
use Rattle.ss_origin.specs.Chain.{Turn, emitted_by}
use Rattle.ss_review.specs.keep.BlockMessage.{BlockMessage, Hashes}
use Rattle.ss_review.specs.declared.report.session_report.SessionReport.{SessionReport}
use Rattle.ss_review.specs.declared.report.session_report.SessionState.TheVariants as states
use Rattle.ss_review.specs.announced.Announced.{Key}
use Rattle.ss_review.specs.announced.Announcing.{IsAnnounced}
use Rattle.ss_review.specs.deliveries.Delivery.{own_session, sent, HasBegun, HasPayload, Delivers}
use Rattle.ss_review.specs.deliveries.DeliveryLaws.{Case, says, AcceptsSent, report_in, IsListedAsJoined, HasBlock}
use Rattle.ss_review.specs.deliveries.AheadDelivery.{IsCaseAhead, JoinedAheadByFragments}
use Rattle.ss_review.specs.keep.Contents.{said_in, blocks}
use Rattle.ss_review.specs.keep.Notes.{notes}
use Rattle.ss_review.specs.Laws.{OneReport}
use Rattle.ss_review.specs.report.Meaning.{IsTold}
use Rattle.ss_review.specs.sessions.Sessions.{same_session, of_session}
use Rattle.ss_review.specs.sessions.States.{IsInState}
use Rattle.ss_review.specs.sessions.Verified.{Answers, signature_of, is_valid, joined, state_in, is_valid_in, is_verified}
use Rattle.ss_octets.proofs.Members.{has_from_contains, contains_from_has, has-flat_map, has-filter, from_has-filter}
use Rattle.ss_review.proofs.of_deliveries.SentMessages.{AreAllTurns, sent_as}
use Rattle.ss_review.proofs.of_deliveries.StoredBlocks.{block_not_normal, sent_block_stored}
use Rattle.ss_review.proofs.of_kept_messages.NotesTold.{IsBlockOf, block_read}
use Rattle.ss_review.proofs.of_lists.Keyed.{has-slice_get}
use Rattle.ss_review.proofs.of_reports.Witnesses.{stored_block}
use Rattle.ss_review.proofs.of_sessions.StatesTold.{joined_under, state_told, payload_told}
use Rattle.ss_review.specs.pinned.Pinned.{agrees_in}
use Rattle.ss_laws.specs.strangers.StateLaws.{LogsAreWithin, SessionsAreJoinedByGiven}
use Rattle.ss_review.specs.pinned.Claimants.{IsOnlyClaimant}
use Rattle.ss_laws.specs.strangers.Unforged.{blocks_in, pinned_in}
use Rattle.ss_laws.specs.strangers.UnforgedLaws.{ArrivedPayloadsClaim, ArrivedAreAnnounced}
use Rattle.ss_review.proofs.of_pinned.Claims.{Claims, to_claims}
use Rattle.ss_laws.proofs.of_strangers.JoinedByGiven.{own_within}
use Rattle.ss_laws.proofs.of_ahead.Reported.{announced_told}
use Rattle.ss_laws.proofs.of_strangers.ReportsAgree.{has-kept, hashes_kept, joined_claims}
use Rattle.ss_laws.proofs.of_strangers.StoredTexts.{stored_too}
use Rattle.ss_laws.proofs.of_ahead.Numbered.{all_turns}
use Rattle.ss_laws.proofs.of_strangers.UnforgedNumbers.{log_of, of_told}

-- ---- the payload under which a session is joined

joined_payload : (says : Answers) (bs : List BlockMessage) → state_in (joined says bs) ≡ states.Joined → (p : List ℕ) × (joined says bs ≡ Ok p)
joined_payload says bs e =
    let j : IsInState says bs states.Joined = state_told says bs states.Joined e in
    (j.0, joined_under says bs j.0 j.1)

-- ---- the payload

module _ (x : Case) (begun : HasBegun x.chain) where
  abbrev text : List ℕ
  text = payload_text x.s.payload

  -- the log that has nothing but what the first originator sent when it began, and whose answers are those of its scheme
  abbrev beginning : Case
  beginning = record x {
    answers = record { trusted = λ p. bytes_eq p text; valid = x.s.valid };
    log = begun.turn.emitted;
  }

  all_sent : (m : List ℕ) → Contains begun.turn.emitted m → Contains (emitted_by x.chain) m
  all_sent m c =
      contains_from_has (emitted_by x.chain) m
      (has-flat_map (λ (turns : List Turn). flat_map (λ (t : Turn). t.emitted) turns) x.chain begun.turns m (has_from_contains x.chain begun.turns begun.of_chain)
      (has-flat_map (λ (t : Turn). t.emitted) begun.turns begun.turn m (has_from_contains begun.turns begun.turn begun.of_originator) (has_from_contains begun.turn.emitted m c)))

  pub delivers : Delivers x.s x.chain begun.turn.emitted
  delivers m c = sent (all_sent m c)

  pub trusts : bytes_eq text text ≡ true
  trusts = (bytes_eq-Decides text text).1 refl

  pub accepts : AcceptsSent beginning
  accepts m octets said c d read signed valid = valid

  pub has_payload : HasPayload x.chain begun.turn.emitted
  has_payload = record { begun = begun; copies = λ m c. c }

  -- ---- where its session is joined, its payload claims that of the whole log

  module _ (one : OneReport) (within : LogsAreWithin) (listed : IsListedAsJoined beginning) where
    abbrev bs : List BlockMessage
    bs = blocks (notes begun.turn.emitted)

    abbrev own : List BlockMessage
    own = of_session bs (own_session x.s)

    abbrev HasItsState : SessionReport → Type 0
    HasItsState t = t.state ≡ state_in (joined (says beginning) (of_session bs t.session))

    joined_own : joined (says beginning) own ≡ Ok text
    joined_own =
        let state : listed.entry.state ≡ state_in (joined (says beginning) own)
        = All-contains HasItsState (report_in beginning).sessions listed.entry (one.0 (says beginning) begun.turn.emitted).states listed.of_report
        ∙ ap (λ s. state_in (joined (says beginning) (of_session bs s))) listed.own in
        let w = joined_payload (says beginning) own (sym state ∙ listed.joined) in
        let trusted : bytes_eq w.0 text ≡ true = (payload_told (says beginning) own w.0 w.1).2 in
        w.1 ∙ ap (λ (p : List ℕ). Ok p) ((bytes_eq-Decides w.0 text).0 trusted)

    own_claims : Claims (says beginning) own text
    own_claims = joined_claims (says beginning) own (own_within (says beginning) [] bs (own_session x.s) (within begun.turn.emitted)) text joined_own

    module _ (arrived : (m : List ℕ) → Contains begun.turn.emitted m → Contains x.log m) (accepted : AcceptsSent x) (trusted : (says x).trusted text ≡ true) where
      abbrev all : List BlockMessage
      all = blocks (notes x.log)

      pub payload_claims : Claims (says x) (of_session all (own_session x.s)) text
      payload_claims = record {
        block_is = own_claims.block_is;
        trusts = trusted;
        spoken = λ index low high.
            (let o = own_claims.spoken index low high in
            let b = o.message in
            let f = from_has-filter (λ (d : BlockMessage). same_session d.session (own_session x.s)) bs b o.stored in
            let t = stored_block begun.turn.emitted b f.0 in
            let sent_it : Contains begun.turn.emitted t.0 = contains_from_has begun.turn.emitted t.0 (has-slice_get begun.turn.emitted b.place t.0 t.1) in
            let here = arrived t.0 sent_it in
            let w = stored_too x.log b t.0 t.2 (has_from_contains x.log t.0 here) in
            let both = and_parts (agrees_in text b.said) (is_valid (says beginning) text b) o.speaks in
            let valid : is_valid (says x) text b ≡ true = accepted t.0 b.signed b.said here (all_sent t.0 sent_it) t.2.said_is t.2.signed_is both.1 in
            record {
              message = record b { place = w.0 };
              stored = has-filter (λ (d : BlockMessage). same_session d.session (own_session x.s)) all (record b { place = w.0 }) w.1 f.1;
              said = o.said;
              says_so = o.says_so;
              speaks = and_from (agrees_in text b.said) (is_valid (says x) text b) both.0 valid;
              from = o.from;
              to = o.to;
            });
      }

pub arrived_claim : JoinedAheadByFragments → OneReport → LogsAreWithin → ArrivedPayloadsClaim
arrived_claim joins one within x ps lives ahead payload accepted trusted given =
    let begun = payload.begun in
    let case : IsCaseAhead (beginning x begun) lives = record { chain = ahead.chain; turns = ahead.turns; delivers = delivers x begun; trusts = trusts x begun; accepts = accepts x begun } in
    record {
      given = given;
      claims_it = to_claims (says x) (of_session (blocks (notes x.log)) (own_session x.s)) (payload_text x.s.payload)
          (payload_claims x begun one within ((joins (beginning x begun) lives case).1 (has_payload x begun)) payload.copies accepted trusted);
    }

-- ---- blocks

some_at : {X : Type 0} (xs : List X) (i : ℕ) → i < length xs → (x : X) × (slice_get xs i ≡ Some x)
some_at [] i below = absurd (omega (arith, below))
some_at (x ∷ xs) zero below = (x, refl)
some_at (x ∷ xs) (suc i) below = some_at xs i (omega (arith, below))

not_plain : (m : List ℕ) (b : block.Signature) → reading m ≡ readings.Signature b → reading m ≡ readings.Plain → ⊥
not_plain m b e f = let no : readings.Signature b ≡ readings.Plain = sym e ∙ f in cc

module _ (within : LogsAreWithin) (given_ones : SessionsAreJoinedByGiven) (x : Case) (ps : List (List ℕ)) (are : AreAllTurns x.s x.chain) (accepted : AcceptsSent x)
    (one : IsOnlyClaimant (says x) ps (of_session (blocks (notes x.log)) (own_session x.s)) (payload_text x.s.payload)) where
  abbrev text_of : List ℕ
  text_of = payload_text x.s.payload

  abbrev stored_blocks : List BlockMessage
  stored_blocks = blocks (notes x.log)

  under : joined (says x) (of_session (blocks_in x ps) (own_session x.s)) ≡ Ok text_of
  under = (given_ones (says x) ps stored_blocks (own_session x.s) (within x.log)).one text_of one

  valid_own : (m : List ℕ) → Contains x.log m → Contains (emitted_by x.chain) m → (reading m ≡ readings.Plain → ⊥) → (b : BlockMessage) → IsBlockOf b.place m b → is_valid (says x) text_of b ≡ true
  valid_own m c d n b told =
      elim (sent_as x.s x.chain m are d) [
        | inl plain ↦ absurd (n plain)
        | inr own ↦ (
            let octets : own.octets ≡ b.signed = same_Some _ _ (sym own.signed_is ∙ told.signed_is) in
            let said : own.said ≡ b.said = same_Some _ _ (sym own.read ∙ told.said_is) in
            sym (λ i. (says x).valid text_of (octets i) (signature_of (said i))) ∙ accepted m own.octets own.said c d own.read own.signed_is own.valid)
      ]

  verified_by : (b : BlockMessage) → b.session ≡ own_session x.s → is_valid (says x) text_of b ≡ true → is_verified (says x) (blocks_in x ps) b ≡ true
  unfolding is_verified
  verified_by b own v =
      ap (λ s. is_valid_in (says x) (joined (says x) (of_session (blocks_in x ps) s)) b) own
      ∙ ap (λ r. is_valid_in (says x) r b) under
      ∙ v

  announced : (k : Key) → k.session ≡ own_session x.s → HasBlock x k → IsAnnounced (says x) (blocks_in x ps) k
  announced k own b =
      let said_is : said_in (reading b.message) ≡ Some (Hashes b.block) = ap said_in b.read in
      let t = sent_block_stored x are b.message b.stored b.sent (block_not_normal b.message (Hashes b.block) said_is) in
      let d = t.stored_block in
      let told : IsBlockOf d.place b.message d = block_read d.place b.message d t.read in
      let said : d.said ≡ Hashes b.block = sym (same_Some _ _ (sym said_is ∙ told.said_is)) in
      let low = b.first in
      let high = b.last in
      let at : k.number ≡ b.block.first + (k.number - b.block.first) = omega (arith, low) in
      let h = some_at b.block.hashes (k.number - b.block.first) (omega (arith, low, high)) in (
        h.0,
        record {
          message = d;
          stored = contains_from_has (blocks_in x ps) d (has-kept (says x) ps stored_blocks d (has_from_contains stored_blocks d t.stored) (hashes_kept (says x) ps stored_blocks d b.block said));
          verified = verified_by d t.own (valid_own b.message b.stored b.sent (not_plain b.message b.block b.read) d told);
          session_is = t.own ∙ sym own;
          said = b.block;
          says_so = said;
          group_is = b.group;
          index = k.number - b.block.first;
          number = at;
          hash = h.1;
        },
      )

  pub arrived_told : (k : Key) → k.session ≡ own_session x.s → HasBlock x k → IsTold (pinned_in x ps) k
  arrived_told k own b = of_told x ps k (announced_told (says x) (log_of x ps) k (announced k own b))

pub arrived_announced : LogsAreWithin → SessionsAreJoinedByGiven → ArrivedAreAnnounced
arrived_announced within given_ones x ps lives ahead accepted one k own b = arrived_told within given_ones x ps (all_turns x lives ahead) accepted one k own b
