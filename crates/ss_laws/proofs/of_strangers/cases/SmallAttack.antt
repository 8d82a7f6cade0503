-- The small log that a stranger attacks meets the premises, and what is reported of it.
use Rattle.std.proofs.Common.{◌≡◌, inl, inr, ℕ, zero, suc, ◌<◌, true, false, List, [], ◌∷◌, length, refl, sym, ap, ◌∙◌, arith}
use Rattle.std.specs.Prelude.{Option, Some, None, Err, option_map, slice_get}
use Rattle.std.specs.List.{Contains}
use Rattle.std.specs.Str.{IsAscii, bytes_eq}
use Rattle.std.proofs.lemmas.Option.{same_Some, slice_get-map, slice_get_within}
use Rattle.std.proofs.lemmas.Str.{IsUtf8-from_ascii, is_utf8-from_IsUtf8}
use Rattle.ss_payload.specs.Payload.{payload_text}
use Rattle.ss_block.specs.declared.hash.Alg.TheVariants as algs
use Rattle.ss_block.specs.declared.reading.Reading.TheVariants as readings
use Rattle.ss_block.specs.Block as block
use Rattle.ss_block.specs.Hashes.{hash_of}
use Rattle.ss_block.specs.Joining.{IsDisputed}
use Rattle.ss_block.specs.Reading.{reading}
use Rattle.ss_block.specs.Writing.{certificate_text}
use Rattle.ss_block.specs.WritingLaws.{SignaturesAreRead, CertificatesAreRead}
use Rattle.ss_origin.specs.Ahead.{lives_of}
use Rattle.ss_origin.specs.Chain.{emitted_by, given_to}
use Rattle.ss_origin.specs.Emission.{certificate_in}
use Rattle.ss_review.specs.keep.BlockMessage.{BlockMessage, BlockContent, Hashes, Fragment}
use Rattle.ss_review.specs.declared.report.entry.Why.{Why}
use Rattle.ss_review.specs.declared.report.entry.Why.TheVariants as whys
use Rattle.ss_review.specs.declared.report.session_report.SessionState.TheVariants as states
use Rattle.ss_review.specs.announced.Announced.{Key}
use Rattle.ss_review.specs.counted.Kept.{kept_number}
use Rattle.ss_review.specs.counted.KeptLaws.{counters_kept, OwnCountersReachTheEnd, IsLost}
use Rattle.ss_review.specs.deliveries.Delivery.{own_session, is_normal, HasPayload}
use Rattle.ss_review.specs.deliveries.Delivered.{own_number}
use Rattle.ss_review.specs.deliveries.DeliveryLaws.{IsCase, says, AcceptsSent, HasBlock, message_of}
use Rattle.ss_review.specs.deliveries.AheadDelivery.{CasesGoOnAhead, HasNumber}
use Rattle.ss_review.specs.deliveries.SmallChains.{mark, small, message, certificate, begun, whole_turns, bare, PremisesAreMet}
use Rattle.ss_review.specs.deliveries.SmallChains as chains
use Rattle.ss_review.specs.keep.Contents.{said_in, block_in, blocks}
use Rattle.ss_review.specs.keep.Notes.{Note, Block, note, notes}
use Rattle.ss_review.specs.report.Meaning.{IsGap, IsTold}
use Rattle.ss_review.specs.sessions.Payloads.{certificates}
use Rattle.ss_review.specs.sessions.Sessions.{same_session, of_session}
use Rattle.ss_review.specs.sessions.Verified.{signature_of, joined}
use Rattle.ss_octets.proofs.Members.{Has, has_from_contains, contains_from_has, has-filter}
use Rattle.ss_review.proofs.of_deliveries.DigestOctets.{AreOctets}
use Rattle.ss_review.proofs.of_deliveries.SmallChains.{is_setting}
use Rattle.ss_review.proofs.of_deliveries.StoredBlocks.{block_not_normal}
use Rattle.ss_review.proofs.of_kept_messages.NotesTold.{block_read, has-block}
use Rattle.ss_review.proofs.of_lists.Keyed.{has-slice_get, slice_get-has}
use Rattle.ss_review.proofs.of_reports.Witnesses.{stored_block}
use Rattle.ss_review.proofs.of_sessions.Stating.{stated_by-IsStatedBy}
use Rattle.ss_review.proofs.of_sessions.Fragments.{HasFragment, has-octet}
use Rattle.ss_laws.specs.strangers.cases.SmallAttack.{own_payload, given, forged_certificate, attacked, untrusting, SmallAttackIsThis}
use Rattle.ss_laws.specs.strangers.AddedMessages.{IsWith, MayBeAdded}
use Rattle.ss_laws.specs.strangers.Strangers.{IsForeign}
use Rattle.ss_review.specs.pinned.Claimants.{IsOnlyClaimant}
use Rattle.ss_laws.specs.strangers.Unforged.{IsAsSent, NothingIsForged, IsUnforged, pinned_in}
use Rattle.ss_laws.specs.strangers.UnforgedLaws.{OnlyClaimantsJoin, ArrivedPayloadsClaim, ArrivedAreAnnounced, NothingIsDisputed, ListedHaveTheirHash}
use Rattle.ss_laws.specs.ahead.Places.{NumbersOfChainsArePlaces}
use Rattle.ss_laws.specs.ahead.Reported.{AreAhead, LostAreReported}
use Rattle.ss_review.proofs.of_pinned.Claims.{joined_disputed}
use Rattle.ss_review.proofs.of_pinned.KeptOfSessions.{is_session}
use Rattle.ss_laws.proofs.of_strangers.cases.SmallLogs.{Says, stored_as, at, note_of}
use Rattle.ss_laws.proofs.of_ahead.cases.SmallBlocks.{said_of, block_read as small_read}

-- ---- texts

pub octets_of : (n : ℕ) → n < 256 → AreOctets (n ∷ [])
octets_of n small_one zero = omega (arith, small_one)
octets_of n small_one (suc i) = omega arith

ascii : (last : ℕ) → last < 128 → IsAscii (45 ∷ 32 ∷ last ∷ [])
ascii last small_one zero = omega arith
ascii last small_one (suc zero) = omega arith
ascii last small_one (suc (suc zero)) = omega (arith, small_one)
ascii last small_one (suc (suc (suc i))) = omega arith

-- a certificate block of the session with this last octet and signature
abbrev pub stating : ℕ → ℕ → block.Certificate
stating last signature = record {
  alg = algs.Sha256;
  rsid = 1;
  group = (certificate_in small.config own_payload (record { index = 1; len = 3 })).group;
  total = 3;
  index = 1;
  fragment = 45 ∷ 32 ∷ last ∷ [];
  signature = signature ∷ [];
}

abbrev stating_text : ℕ → ℕ → List ℕ
stating_text last signature = certificate_text small.config.head None (stating last signature)

abbrev block_text : List ℕ
block_text = chains.block 0 1 (message 49 ∷ [])

module _ (signatures : SignaturesAreRead) (certificates_read : CertificatesAreRead) where
  stating_says : (last signature : ℕ) → last < 128 → signature < 256 → Says (stating_text last signature) (Fragment (stating last signature))
  stating_says last signature small_one small_two =
      let r = certificates_read small.config.head None (stating last signature) is_setting.head refl
      (record {
        rsid = omega arith;
        group = record { sg = omega arith; spri = omega arith };
        total = omega arith;
        some_index = omega arith;
        some_octet = omega arith;
        at_most_9999_octets = omega arith;
        within = omega arith;
        fragment = is_utf8-from_IsUtf8 (45 ∷ 32 ∷ last ∷ []) (IsUtf8-from_ascii (45 ∷ 32 ∷ last ∷ []) (ascii last small_one));
      }) (octets_of signature small_two) (omega arith) in
      record { octets = _; read = ap said_in r.read; signed_is = r.signed; session_is = r.session }

  pub own_says : Says certificate (Fragment (stating 78 83))
  unfolding payload_text
  own_says = stating_says 78 83 (omega arith) (omega arith)

  pub forged_says : Says forged_certificate (Fragment (stating 85 84))
  unfolding payload_text
  forged_says = stating_says 85 84 (omega arith) (omega arith)

  pub record IsOwnBlock : Type 0 where
    pub text_is : Says block_text (Hashes (said_of 0 1 (message 49)))
    pub read : reading block_text ≡ readings.Signature (said_of 0 1 (message 49))

  pub block_says : IsOwnBlock
  block_says =
      let r = small_read signatures 0 1 (message 49) (omega arith) (omega arith) (omega arith) in
      record { text_is = record { octets = _; read = ap said_in r.read; signed_is = r.signed; session_is = r.session }; read = r.read }

  -- ---- stored blocks

  abbrev bs : List BlockMessage
  bs = blocks (notes attacked.log)

  abbrev own : List BlockMessage
  own = of_session bs (own_session small)

  stored : (t : List ℕ) (said : BlockContent) → Has attacked.log t → Says t said → (b : BlockMessage) × Has own b × (b.said ≡ said)
  stored t said h s =
      let w = slice_get-has attacked.log t h in
      let b : BlockMessage = stored_as t said s w.0 in
      let noted_so : slice_get (notes attacked.log) w.0 ≡ Some (Block t)
      = slice_get-map note attacked.log w.0 ∙ ap (λ (o : Option (List ℕ)). option_map note o) w.1 ∙ ap (λ (p : Note). Some p) (note_of t said s) in
      (b, has-filter (λ (d : BlockMessage). same_session d.session (own_session small)) bs b (has-block (notes attacked.log) w.0 t b noted_so (at t said s w.0)) (is_session (own_session small) (own_session small) refl), refl)

  fragment_of : (t : List ℕ) (c : block.Certificate) → Has attacked.log t → Says t (Fragment c) → HasFragment own c
  fragment_of t c h s =
      let w = stored t (Fragment c) h s in
      record { message = w.0; stored = w.1; says_so = w.2 }

  -- ---- without given payloads

  disputed : joined (says attacked) own ≡ Err states.Disputed
  unfolding IsDisputed
  disputed =
      let told = stated_by-IsStatedBy (certificates own) in
      let a = fragment_of certificate (stating 78 83) (inr (inl refl)) own_says in
      let b = fragment_of forged_certificate (stating 85 84) (inl refl) forged_says in
      joined_disputed (says attacked) own (inr (
        3,
        78,
        85,
        told.has_octet (3, 78) (has-octet own (stating 78 83) (3, 78) a (inr (inr (inl refl)))),
        told.has_octet (3, 85) (has-octet own (stating 85 84) (3, 85) b (inr (inr (inl refl)))),
        λ e. omega (arith, e),
      ))

  -- ---- nothing is forged

  as_sent : (t : List ℕ) (said : block.Signature) → Has attacked.log t → said_in (reading t) ≡ Some (Hashes said) → IsAsSent attacked.chain said
  as_sent t said (inl e) read = absurd (let no : Some (Fragment (stating 85 84)) ≡ Some (Hashes said) = sym forged_says.read ∙ ap (λ u. said_in (reading u)) e ∙ read in cc)
  as_sent t said (inr (inl e)) read = absurd (let no : Some (Fragment (stating 78 83)) ≡ Some (Hashes said) = sym own_says.read ∙ ap (λ u. said_in (reading u)) e ∙ read in cc)
  as_sent t said (inr (inr (inl e))) read =
      let s = block_says in
      let both : Some (Hashes (said_of 0 1 (message 49))) ≡ Some (Hashes said) = sym s.text_is.read ∙ ap (λ u. said_in (reading u)) e ∙ read in
      let same : said_of 0 1 (message 49) ≡ said = cc in
      record {
        message = block_text;
        sent = contains_from_has (emitted_by attacked.chain) block_text (inl refl);
        block = said;
        read = s.read ∙ ap (λ (d : block.Signature). readings.Signature d) same;
        same = record { group = refl; gbc = refl; first = refl; hashes = refl };
      }
  as_sent t said (inr (inr (inr h))) read = absurd h

  nothing_forged : NothingIsForged attacked
  nothing_forged b said c own_one says_so valid =
      let t = stored_block attacked.log b (has_from_contains bs b c) in
      as_sent t.0 said (has-slice_get attacked.log b.place t.0 t.1) (t.2.said_is ∙ ap (λ (x : BlockContent). Some x) says_so)

  -- ---- the stranger's block is foreign

  pub foreign : (place : ℕ) (b : BlockMessage) → block_in place forged_certificate ≡ Some b → IsForeign (says attacked) b
  foreign place b e p t =
      let said : b.said ≡ Fragment (stating 85 84) = sym (same_Some _ _ (sym forged_says.read ∙ (block_read place forged_certificate b e).said_is)) in
      ap (λ s. bytes_eq (signature_of s) mark) said

  added : IsWith (MayBeAdded (says attacked) bare.log) bare.log attacked.log
  added = inr (inr foreign, inl (block_text ∷ [], refl, inl ([], refl, refl)))

  -- ---- what arrived

  arrived : HasPayload attacked.chain attacked.log
  arrived = record {
    begun = record {
      turns = whole_turns;
      turn = begun;
      of_chain = contains_from_has attacked.chain whole_turns (inl refl);
      of_originator = contains_from_has whole_turns begun (inr (inr (inl refl)));
      begins = refl;
    };
    copies = λ m c. there m (has_from_contains (certificate ∷ []) m c);
  }
    where
      there : (m : List ℕ) → Has (certificate ∷ []) m → Contains attacked.log m
      there m (inl e) = contains_from_has attacked.log m (inr (inl e))
      there m (inr h) = absurd h

  covered : HasBlock attacked (own_number attacked 0 1)
  covered = record {
    message = block_text;
    block = said_of 0 1 (message 49);
    stored = contains_from_has attacked.log block_text (inr (inr (inl refl)));
    sent = contains_from_has (emitted_by attacked.chain) block_text (inl refl);
    read = block_says.read;
    group = refl;
    first = omega arith;
    last = omega arith;
  }

  pub not_normal : (t : List ℕ) (said : BlockContent) → Says t said → is_normal (note t) ≡ true → ⊥
  not_normal t said s n = let no : true ≡ false = sym n ∙ block_not_normal t said s.read in cc

  no_message : (n : List ℕ) → Has attacked.log n → is_normal (note n) ≡ true → ⊥
  no_message n (inl e) t = not_normal forged_certificate (Fragment (stating 85 84)) forged_says (ap (λ m. is_normal (note m)) e ∙ t)
  no_message n (inr (inl e)) t = not_normal certificate (Fragment (stating 78 83)) own_says (ap (λ m. is_normal (note m)) e ∙ t)
  no_message n (inr (inr (inl e))) t = not_normal block_text (Hashes (said_of 0 1 (message 49))) block_says.text_is (ap (λ m. is_normal (note m)) e ∙ t)
  no_message n (inr (inr (inr h))) t = absurd h

  lost : IsLost attacked (message 49)
  lost n c t = absurd (no_message n (has_from_contains attacked.log n c) t)

one_given : (q : List ℕ) → Has given q → own_payload ≡ q
one_given q (inl e) = e
one_given q (inr h) = absurd h

-- the laws that it rests on
pub record Laws : Type 0 where
  pub signatures : SignaturesAreRead
  pub certificates_read : CertificatesAreRead
  pub met : PremisesAreMet
  pub ahead : CasesGoOnAhead
  pub reach : OwnCountersReachTheEnd
  pub join : OnlyClaimantsJoin
  pub claim : ArrivedPayloadsClaim
  pub announce : ArrivedAreAnnounced
  pub undisputed : NothingIsDisputed
  pub its_hash : ListedHaveTheirHash
  pub lost_told : LostAreReported
  pub places : NumbersOfChainsArePlaces

module _ (laws : Laws) where
  abbrev bare_case : IsCase bare
  bare_case = laws.met.bare_is_case

  ahead : AreAhead attacked (lives_of small.config attacked.chain)
  ahead = record { chain = (laws.ahead bare bare_case).chain; turns = (laws.ahead bare bare_case).turns }

  accepts : AcceptsSent attacked
  accepts m octets said c d read signed_is valid = valid

  claimant : IsOnlyClaimant (says attacked) given (of_session (blocks (notes attacked.log)) (own_session small)) own_payload
  claimant = record {
    is = laws.claim attacked given (lives_of small.config attacked.chain) ahead (arrived laws.signatures laws.certificates_read) accepts refl (contains_from_has given own_payload (inl refl));
    only = λ q c. sym (one_given q (has_from_contains given q c.given));
  }

  unforged : IsUnforged attacked given
  unforged = record { nothing = nothing_forged laws.signatures laws.certificates_read; no_other = laws.join attacked given claimant }

  abbrev number : Key
  number = own_number attacked 0 1

  told : IsTold (pinned_in attacked given) number
  told = laws.announce attacked given (lives_of small.config attacked.chain) ahead accepts claimant number refl (covered laws.signatures laws.certificates_read)

  its_message : message_of attacked number ≡ Some (message 49)
  its_message = refl

  lost_gap : (why : Why) → IsGap (pinned_in attacked given) number why → IsGap (pinned_in attacked given) number whys.Lost
  lost_gap whys.Lost g = g
  lost_gap whys.Disputed g = absurd (laws.undisputed attacked given (lives_of small.config attacked.chain) ahead unforged number refl g)

  gap : IsGap (pinned_in attacked given) number whys.Lost
  gap = elim told [
    | inl l ↦ absurd (
        let h = laws.its_hash attacked given (lives_of small.config attacked.chain) ahead unforged number l.0 refl l.1 in
        let place = (laws.places small attacked.chain bare_case.chain number h.message).0 h.numbered in
        let same : h.message ≡ message 49 = same_Some h.message (message 49) (sym place.given ∙ its_message) in
        lost laws.signatures laws.certificates_read h.stored (contains_from_has attacked.log h.stored (has-slice_get attacked.log l.0 h.stored h.stored_is)) h.no_block (h.same_hash ∙ ap (hash_of algs.Sha256) same))
    | inr g ↦ lost_gap g.0 g.1
  ]

  numbered : HasNumber small.config (lives_of small.config attacked.chain) number (message 49)
  numbered = (laws.places small attacked.chain bare_case.chain number (message 49)).1 (record { group = refl; small = omega arith; some = omega arith; given = its_message })

  below : 1 < kept_number (counters_kept untrusting) number.session number.group
  below =
      let within : 0 < length (given_to small.config 0 untrusting.chain) = slice_get_within (given_to small.config 0 untrusting.chain) 0 (message 49) its_message in
      let end = laws.reach untrusting 0 (omega arith) (omega (arith, within)) in
      omega (arith, within, end)

  pub small_attack : SmallAttackIsThis
  small_attack = record {
    added = added laws.signatures laws.certificates_read;
    chain = bare_case.chain;
    ahead = ahead;
    unforged = unforged;
    arrived = arrived laws.signatures laws.certificates_read;
    accepts = accepts;
    claimant = claimant;
    covered = covered laws.signatures laws.certificates_read;
    lost = lost laws.signatures laws.certificates_read;
    reach = laws.reach attacked;
    disputed = disputed laws.signatures laws.certificates_read;
    told = told;
    gap = gap;
    delivers = bare_case.delivers;
    untrusted_told = laws.lost_told untrusting (lives_of small.config attacked.chain) (record { chain = ahead.chain; turns = ahead.turns }) bare_case.delivers number (message 49) refl numbered laws.met.only_message_is_lost (counters_kept untrusting) (omega arith) below;
  }
