-- The payload that the certificate blocks of a session state in a log that delivers from its originators.
use Rattle.std.proofs.Common.{◌≡◌, ◌⊎◌, inl, inr, ℕ, ◌≤◌, true, false, cond, ◌&&◌, not, List, [], ◌∷◌, length, map, refl, sym, ap, ◌∙◌, subst, arith}
use Rattle.std.specs.Prelude.{Some, Ok, Err, nat_le}
use Rattle.std.specs.List.{Contains, flat_map}
use Rattle.std.specs.Ordering.{is_eq}
use Rattle.std.specs.Cmp.{Equal-is}
use Rattle.std.proofs.lemmas.Bool.{leb-true, true≢false, cases_Bool, and_parts}
use Rattle.std.proofs.lemmas.Cmp.{tied_itself}
use Rattle.std.proofs.lemmas.Option.{same_Some}
use Rattle.ss_payload.specs.declared.cuts.Cut.{Cut}
use Rattle.ss_payload.specs.CuttingLaws.{PiecesLieWithin, PiecesAreApart}
use Rattle.ss_payload.specs.JoiningLaws.{DisputesStay, PiecesAreWhole}
use Rattle.ss_payload.specs.Payload.{payload_text}
use Rattle.ss_payload.specs.PayloadLaws.{TextsAreRead, TextsHaveOctets}
use Rattle.ss_block.specs.declared.reading.Reading.{Reading}
use Rattle.ss_block.specs.declared.reading.Reading.TheVariants as readings
use Rattle.ss_block.specs.Block as block
use Rattle.ss_block.specs.Order.{session_cmp}
use Rattle.ss_block.specs.OrderLaws.{session_cmp_total, session_cmp_exact}
use Rattle.ss_block.specs.Reading.{reading}
use Rattle.ss_origin.specs.declared.config.Config.{Config}
use Rattle.ss_origin.specs.Configs.{is_between, is_config}
use Rattle.ss_origin.specs.Groups.{is_grouping}
use Rattle.ss_origin.specs.Chain.{Turn, emitted_by}
use Rattle.ss_origin.specs.ChainLaws.{BeginsFirst}
use Rattle.ss_review.specs.keep.BlockMessage.{BlockMessage, BlockContent, Fragment}
use Rattle.ss_review.specs.declared.report.session_report.SessionState.TheVariants as states
use Rattle.ss_review.specs.keep.Notes.{notes}
use Rattle.ss_review.specs.keep.Contents.{said_in, blocks}
use Rattle.ss_review.specs.sessions.Sessions.{same_session, of_session}
use Rattle.ss_review.specs.sessions.Payloads.{certificate_of, certificates, is_disputed, cover, lacks_some, joined_text, payload_or_malformed, stated_payload}
use Rattle.ss_review.specs.sessions.Stated.{stated_in_turn}
use Rattle.ss_review.specs.sessions.Verified.{is_valid, is_accepted, judged, joined}
use Rattle.ss_review.specs.deliveries.Delivery.{own_session, HasPayload}
use Rattle.ss_review.specs.deliveries.DeliveryLaws.{Case, says}
use Rattle.ss_review.specs.deliveries.Delivered.{OwnBlocksAreSent, SentBlocksAreStored, IsSentBlock, JoinsOwnPayload}
use Rattle.ss_review.proofs.of_deliveries.Beginnings.{IsBeginning, one_beginning, Beginning, beginning, certificate_begins, piece_of_message, is_piece, block_of_piece, one_message}
use Rattle.ss_review.proofs.of_deliveries.Deliveries.{IsDelivery, of_case}
use Rattle.ss_octets.proofs.Members.{Has, has_from_contains, contains_from_has, has-map, has-filter, from_has-filter, has-flat_map, has-filter_map, from_has-filter_map}
use Rattle.ss_review.proofs.of_kept_messages.NotesTold.{block_read}
use Rattle.ss_review.proofs.of_lists.Paired.{ArePaired}
use Rattle.ss_review.proofs.of_deliveries.PiecesStated.{IsPiece, cut_in, cut_is, undisputed, all_pieces, piece_there, covered, index_covered}
use Rattle.ss_review.proofs.of_lists.Rising.{all_below}
use Rattle.ss_review.proofs.of_lists.Sections.{keeps_all}
use Rattle.ss_review.proofs.of_deliveries.SentMessages.{sent_by}
use Rattle.ss_review.proofs.of_sessions.StatesTold.{fragment_of, payload_ok}
use Rattle.ss_review.proofs.of_sessions.Stating.{not_disputed, not_lacking, whole_payload, stated_in_turn-IsStatedBy}
use Rattle.ss_review.proofs.of_deliveries.StoredBlocks.{block_not_normal}

-- ---- configurations

-- a block is sent at least once, and a fragment has an octet at least
some_of_each : (c : Config) → is_config c ≡ true → (1 ≤ c.copies) × (1 ≤ c.frag)
unfolding is_config
some_of_each c is =
    let all = and_parts (nat_le c.rsid 9999999999 && is_between 1 99 c.per_block && is_between 1 9 c.copies && is_between 1 9999 c.frag) (is_grouping c.grouping) is in
    let frag = and_parts (nat_le c.rsid 9999999999 && is_between 1 99 c.per_block && is_between 1 9 c.copies) (is_between 1 9999 c.frag) all.0 in
    let copies = and_parts (nat_le c.rsid 9999999999 && is_between 1 99 c.per_block) (is_between 1 9 c.copies) frag.0 in (
      leb-true 1 c.copies (and_parts (nat_le 1 c.copies) (nat_le c.copies 9) copies.1).0,
      leb-true 1 c.frag (and_parts (nat_le 1 c.frag) (nat_le c.frag 9999) frag.1).0,
    )

-- ---- certificate blocks

pub said_certificate : (r : Reading) (c : block.Certificate) → said_in r ≡ Some (Fragment c) → r ≡ readings.Certificate c
said_certificate readings.Plain c e = absurd (cc)
said_certificate (readings.Unparsed part pos) c e = absurd (cc)
said_certificate (readings.Signature b) c e = absurd (cc)
said_certificate (readings.Certificate d) c e = let same : d ≡ c = cc in ap (λ (x : block.Certificate). readings.Certificate x) same
said_certificate (readings.Spoilt cause) c e = absurd (cc)

-- ---- what the stored blocks of a case state

-- the laws that the proof rests on
pub record Laws : Type 0 where
  pub within : PiecesLieWithin
  pub apart : PiecesAreApart
  pub stay : DisputesStay
  pub whole : PiecesAreWhole
  pub read : TextsAreRead
  pub octets : TextsHaveOctets

-- one turn of them began at most
abbrev pub OneBegins : Case → Type 0
OneBegins x = (t u : Turn) → IsBeginning x.chain t → IsBeginning x.chain u → t ≡ u

module _ (laws : Laws) (x : Case) (is : IsDelivery x) (one : OneBegins x) where
  abbrev text : List ℕ
  text = payload_text x.s.payload

  -- the stored blocks of the session, and the certificate blocks among them
  abbrev own_blocks : List BlockMessage
  own_blocks = of_session (blocks (notes x.log)) (own_session x.s)

  abbrev own_certificates : List block.Certificate
  own_certificates = certificates own_blocks

  some : (1 ≤ x.s.config.copies) × (1 ≤ x.s.config.frag)
  some = some_of_each x.s.config is.setting.fit.config

  octet : 1 ≤ length text
  octet = let three = laws.octets x.s.payload in omega arith

  -- a stored block of the session
  own_block : (b : BlockMessage) → Has own_blocks b → IsSentBlock x b
  own_block b h =
      let f = from_has-filter (λ (d : BlockMessage). same_session d.session (own_session x.s)) (blocks (notes x.log)) b h in
      is.sent b (contains_from_has (blocks (notes x.log)) b f.0)
      (session_cmp_exact b.session (own_session x.s) ((Equal-is (session_cmp b.session (own_session x.s))).0 f.1))

  -- a message of the log, of the turn that began, with the certificate block
  record IsFromBeginning (c : block.Certificate) : Type 0 where
    message : List ℕ
    turn : Turn
    is_beginning : IsBeginning x.chain turn
    in_log : Contains x.log message
    in_turn : Has turn.emitted message
    read : reading message ≡ readings.Certificate c

  from_beginning : (c : block.Certificate) → Has own_certificates c → IsFromBeginning c
  from_beginning c h =
      let w : (b : BlockMessage) × Has own_blocks b × (certificate_of b.said ≡ Some c) = from_has-filter_map (λ (b : BlockMessage). certificate_of b.said) own_blocks c h in
      let s = own_block w.0 w.1 in
      let read = said_certificate (reading s.message) c ((block_read w.0.place s.message w.0 s.read).said_is ∙ ap (λ (said : BlockContent). Some said) (fragment_of w.0.said c w.2)) in
      let by = sent_by x.chain s.message s.sent in
      let turn = is.turns by.turns by.turn by.of_chain by.of_originator in
      record {
        message = s.message;
        turn = by.turn;
        is_beginning = record { turns = by.turns; of_chain = by.of_chain; of_turns = by.of_originator; begins = certificate_begins x.s by.turn s.message c turn by.sent read };
        in_log = s.stored;
        in_turn = by.sent;
        read = read;
      }

  module _ (t : Turn) (begun : IsBeginning x.chain t) where
    opening : Beginning x.s t.emitted
    opening = beginning x.s t (is.turns begun.turns t begun.of_chain begun.of_turns) begun.begins

    sent_by_it : (c : block.Certificate) (f : IsFromBeginning c) → Has t.emitted f.message
    sent_by_it c f =
        subst (λ (u : Turn). Has u.emitted f.message) (one f.turn t f.is_beginning begun) f.in_turn

    -- each certificate block has a piece of the payload
    each_piece : (c : block.Certificate) → Has own_certificates c → IsPiece text opening.cuts c
    each_piece c h = let f = from_beginning c h in (is_piece x.s t.emitted opening f.message c (sent_by_it c f) f.read).0

    own_undisputed : is_disputed own_certificates ≡ false
    own_undisputed =
        not_disputed own_certificates (stated_in_turn own_certificates) (stated_in_turn-IsStatedBy own_certificates)
        (undisputed laws.within text x.s.config.frag opening.cuts some.1 opening.are_cuts laws.stay laws.whole octet own_certificates each_piece)

    -- where the messages of the turn are in the log, each piece is there
    pieces_arrive : ((m : List ℕ) → Contains t.emitted m → Contains x.log m) → (cut : Cut) → Has opening.cuts cut → Has (map cut_in own_certificates) cut
    pieces_arrive copies cut h =
        let w = block_of_piece x.s t.emitted opening some.0 cut h in
        let m = w.0 in
        let in_turn : Contains t.emitted m = contains_from_has t.emitted m w.1 in
        let in_chain : Contains (emitted_by x.chain) m
        = contains_from_has (emitted_by x.chain) m (has-flat_map (λ (turns : List Turn). flat_map (λ (u : Turn). u.emitted) turns) x.chain begun.turns m begun.of_chain
        (has-flat_map (λ (u : Turn). u.emitted) begun.turns t m begun.of_turns w.1)) in
        let s = is.stored m (copies m in_turn) in_chain (block_not_normal m (Fragment w.2) (ap said_in w.3)) in
        let said : s.stored_block.said ≡ Fragment w.2 = same_Some _ _ (sym (block_read s.stored_block.place m s.stored_block s.read).said_is ∙ ap said_in w.3) in
        let same : same_session s.stored_block.session (own_session x.s) ≡ true
        = ap (λ o. same_session o (own_session x.s)) s.own ∙ ap is_eq (tied_itself session_cmp_total (own_session x.s)) in
        let of_own : Has own_blocks s.stored_block
        = has-filter (λ (d : BlockMessage). same_session d.session (own_session x.s)) (blocks (notes x.log)) s.stored_block (has_from_contains (blocks (notes x.log)) s.stored_block s.stored) same in
        let there : Has own_certificates w.2 = has-filter_map (λ (d : BlockMessage). certificate_of d.said) own_blocks s.stored_block w.2 of_own (ap certificate_of said) in
        subst (Has (map cut_in own_certificates)) (cut_is laws.within text x.s.config.frag opening.cuts some.1 opening.are_cuts w.2 w.4 ∙ w.5) (has-map cut_in own_certificates w.2 there)

    -- where all is covered, each piece is there, and each message of the turn is in the log
    piece_covered : cover own_certificates (length text) ≡ true → (cut : Cut) → Has opening.cuts cut → (c : block.Certificate) × Has own_certificates c × (cut_in c ≡ cut)
    piece_covered all cut h =
        let l = laws.within (length text) x.s.config.frag opening.cuts cut some.1 opening.are_cuts (contains_from_has opening.cuts cut h) in
        piece_there laws.within text x.s.config.frag opening.cuts some.1 opening.are_cuts laws.apart own_certificates each_piece cut h
        (index_covered own_certificates (length text) cut.index all l.some_index (omega (arith, l.end, l.some_octet)))

    messages_arrived : cover own_certificates (length text) ≡ true → (m : List ℕ) → Contains t.emitted m → Contains x.log m
    messages_arrived all m h =
        let w = piece_of_message x.s t.emitted opening m (has_from_contains t.emitted m h) in
        let p = piece_covered all w.0 w.1 in
        let f = from_beginning p.0 p.1 in
        let q = is_piece x.s t.emitted opening f.message p.0 (sent_by_it p.0 f) f.read in
        let same : q.0.cut ≡ w.0 = sym (cut_is laws.within text x.s.config.frag opening.cuts some.1 opening.are_cuts p.0 q.0) ∙ p.2 in
        let one : m ≡ f.message
        = one_message x.s t.emitted opening laws.within some.1 w.0 m f.message w.2 (subst (λ (cut : Cut). ArePaired opening.cuts opening.messages cut f.message) same q.1) in
        subst (Contains x.log) (sym one) f.in_log

    -- where each piece is there, the payload is stated, and nothing is lacking
    text_stated : ((cut : Cut) → Has opening.cuts cut → Has (map cut_in own_certificates) cut) → (stated_payload own_certificates ≡ Ok text) × (lacks_some own_certificates ≡ false)
    text_stated each =
        let told = all_pieces laws.within text x.s.config.frag opening.cuts some.1 opening.are_cuts laws.whole octet own_certificates each_piece each in
        let by = stated_in_turn-IsStatedBy own_certificates in (
          whole_payload own_certificates (stated_in_turn own_certificates) by told.0 text told.1 ∙ payload_ok text (x.s.payload, laws.read x.s.payload is.setting.payload),
          not_lacking own_certificates (stated_in_turn own_certificates) by told.0.1,
        )

    all_covered : lacks_some own_certificates ≡ false → cover own_certificates (length text) ≡ true
    all_covered e = covered own_certificates (length text) (λ c h. (each_piece c h).total) e

  -- ---- joined

  -- the payload is trusted, and all blocks are valid under it
  judged_own : cover own_certificates (length text) ≡ true → judged (says x) own_blocks (Ok text) ≡ Ok text
  judged_own all =
      let valid = keeps_all (is_valid (says x) text) own_blocks (all_below (λ d. is_valid (says x) text d ≡ true) own_blocks (λ d h. (own_block d h).valid)) in
      let accepted : is_accepted (says x) own_blocks text ≡ true = ap (λ ds. cover (certificates ds) (length text)) valid ∙ all in
      ap (λ t. cond (not t) (Err states.Untrusted) (cond (is_accepted (says x) own_blocks text) (Ok text) (Err states.Unaccepted))) is.trusts
      ∙ ap (λ t. cond t (Ok text) (Err states.Unaccepted)) accepted

  -- all certificate blocks come from the turn that began, so they aren't disputed
  undisputed_with : (ds : List block.Certificate) → ds ≡ own_certificates → is_disputed ds ≡ false
  unfolding is_disputed
  undisputed_with [] e = refl
  undisputed_with (c ∷ ds) e =
      let f = from_beginning c (subst (λ l. Has l c) e (inl refl)) in
      ap is_disputed e ∙ own_undisputed f.turn f.is_beginning

  -- where an index is lacking, the session is incomplete, and not all of the payload arrived
  incomplete : lacks_some own_certificates ≡ true → joined (says x) own_blocks ≡ Err states.Incomplete
  unfolding joined stated_payload
  incomplete lacks =
      ap (λ t. judged (says x) own_blocks (cond t (Err states.Disputed) (cond (lacks_some own_certificates) (Err states.Incomplete) (payload_or_malformed (joined_text own_certificates))))) (undisputed_with own_certificates refl)
      ∙ ap (λ t. judged (says x) own_blocks (cond t (Err states.Incomplete) (payload_or_malformed (joined_text own_certificates)))) lacks

  not_arrived : lacks_some own_certificates ≡ true → ¬ HasPayload x.chain x.log
  not_arrived lacks = λ p.
      let t = p.begun.turn in
      let begun : IsBeginning x.chain t = record {
        turns = p.begun.turns;
        of_chain = has_from_contains x.chain p.begun.turns p.begun.of_chain;
        of_turns = has_from_contains p.begun.turns t p.begun.of_originator;
        begins = p.begun.begins;
      } in
      true≢false (sym lacks ∙ (text_stated t begun (pieces_arrive t begun p.copies)).1)

  -- where nothing is lacking, there is a certificate block
  some_certificate : (ds : List block.Certificate) → lacks_some ds ≡ false → (c : block.Certificate) × Has ds c
  some_certificate [] e = absurd (true≢false e)
  some_certificate (c ∷ ds) e = (c, inl refl)

  -- where none is, all of it arrived, and the session is joined
  arrived : lacks_some own_certificates ≡ false → HasPayload x.chain x.log × (joined (says x) own_blocks ≡ Ok text)
  unfolding joined
  arrived e =
      let w = some_certificate own_certificates e in
      let f = from_beginning w.0 w.1 in
      let t = f.turn in
      let begun = f.is_beginning in
      let all = all_covered t begun e in
      let each : (cut : Cut) → Has (opening t begun).cuts cut → Has (map cut_in own_certificates) cut
      = λ cut h. (let p = piece_covered t begun all cut h in subst (Has (map cut_in own_certificates)) p.2 (has-map cut_in own_certificates p.0 p.1)) in (
        record {
          begun = record {
            turns = begun.turns;
            turn = t;
            of_chain = contains_from_has x.chain begun.turns begun.of_chain;
            of_originator = contains_from_has begun.turns t begun.of_turns;
            begins = begun.begins;
          };
          copies = messages_arrived t begun all;
        },
        ap (λ r. judged (says x) own_blocks r) (text_stated t begun each).0 ∙ judged_own all,
      )

-- the session is joined under its originators' payload where all of it arrived, and else incomplete
abbrev pub JoinsPayload : Case → Type 0
JoinsPayload x =
    (HasPayload x.chain x.log × (joined (says x) (of_session (blocks (notes x.log)) (own_session x.s)) ≡ Ok (payload_text x.s.payload)))
    ⊎ ((¬ (HasPayload x.chain x.log)) × (joined (says x) (of_session (blocks (notes x.log)) (own_session x.s)) ≡ Err states.Incomplete))

pub joins_payload : Laws → (x : Case) → IsDelivery x → OneBegins x → JoinsPayload x
joins_payload laws x is one =
    elim (cases_Bool (lacks_some (certificates (of_session (blocks (notes x.log)) (own_session x.s))))) [
      | inl lacks ↦ inr (not_arrived laws x is one lacks, incomplete laws x is one lacks)
      | inr whole ↦ inl (arrived laws x is one whole)
    ]

pub joins_own_payload : Laws → OwnBlocksAreSent → SentBlocksAreStored → BeginsFirst → JoinsOwnPayload
joins_own_payload laws sent stored first x is = joins_payload laws x (of_case sent stored x is) (one_beginning first x.s x.chain is.chain)
