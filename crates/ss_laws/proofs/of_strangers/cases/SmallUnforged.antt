-- The small log into which a stranger wrote: its contents are read, its report is computed, and the premises are met.
use Rattle.std.proofs.Common.{◌≡◌, inl, inr, ℕ, zero, suc, ◌<◌, ◌≤◌, Bool, true, false, List, [], ◌∷◌, ◌++◌, length, map, refl, sym, ap, ◌∙◌, subst, arith}
use Rattle.std.specs.Prelude.{Some, None, Result, Ok, Err, if◌then◌else◌}
use Rattle.std.specs.List.{All, Contains, list_all}
use Rattle.std.specs.Str.{bytes_eq}
use Rattle.std.specs.Fmt.{digits}
use Rattle.std.proofs.lemmas.List.Elements.{All-nil, All-cons}
use Rattle.sha1.specs.Sha1 as one
use Rattle.sha2.specs.Sha256.{sha256, hash_after, compress, rounds, first_words, schedule, digest_bytes}
use Rattle.ss_octets.specs.Cut.{parts_at}
use Rattle.ss_message.specs.Message.{text}
use Rattle.ss_payload.specs.Payload.{payload_text}
use Rattle.ss_block.specs.declared.hash.Alg.TheVariants as algs
use Rattle.ss_block.specs.declared.hash.Hash.{Hash}
use Rattle.ss_block.specs.declared.reading.Reading.TheVariants as readings
use Rattle.ss_block.specs.Block as block
use Rattle.ss_block.specs.Hashes.{pair, hash_of}
use Rattle.ss_block.specs.PayloadReading.{stamp_in, stamp_and_rest_in, blob_in, payload_in}
use Rattle.ss_block.specs.Reading.{reading}
use Rattle.ss_block.specs.ReadingLaws.{ReadingsAreOfValues}
use Rattle.ss_block.specs.Writing.{signature_text}
use Rattle.ss_block.specs.WritingLaws.{IsHash, SignaturesAreRead, CertificatesAreRead}
use Rattle.ss_origin.specs.Chain.{Turn, IsChain, emitted_by, given_to}
use Rattle.ss_origin.specs.Emission.{signature_in}
use Rattle.ss_review.specs.Ordered.{in_order}
use Rattle.ss_origin.specs.AheadLaws.{IsGiven}
use Rattle.ss_review.specs.announced.Announced.{rows, keys}
use Rattle.ss_review.specs.assign.Assigned.{pair_of_bearer, places_with, wanted, rank, assigned, is_taken}
use Rattle.ss_review.specs.counted.Counted.{gbcs, next_number, missing}
use Rattle.ss_review.specs.counted.Kept.{kept_gbc, kept_number, gbc_in, number_in, groups_in, kept_sessions, tails_in, log_shortfalls}
use Rattle.ss_review.specs.counted.KeptLaws.{IsInTail, IsInRunOf, IsLost, ReachTheEnd, number_kept}
use Rattle.ss_review.specs.keep.BlockMessage.{BlockMessage, BlockContent, Hashes, Fragment}
use Rattle.ss_review.specs.declared.counted.shortfall.LogShortfalls.{LogShortfalls}
use Rattle.ss_review.specs.declared.report.entry.Entry.{Entry}
use Rattle.ss_review.specs.declared.report.entry.Entry.TheVariants as entry
use Rattle.ss_review.specs.declared.report.entry.Why.TheVariants as whys
use Rattle.ss_review.specs.declared.report.report.Report.{Report}
use Rattle.ss_review.specs.declared.report.session_report.SessionState.{SessionState}
use Rattle.ss_review.specs.declared.report.session_report.SessionState.TheVariants as states
use Rattle.ss_review.specs.deliveries.Delivery.{own_session, is_normal, HasPayload}
use Rattle.ss_review.specs.deliveries.DeliveryLaws.{HasBlock}
use Rattle.ss_review.specs.deliveries.AheadDelivery.{HasNumber}
use Rattle.ss_review.specs.deliveries.SmallChains.{mark, small, message, certificate, begun, first_turns, accepting, PremisesAreMet}
use Rattle.ss_review.specs.deliveries.SmallChains as chains
use Rattle.ss_review.specs.keep.Contents.{Contents, blocks, contents, said_in}
use Rattle.ss_review.specs.keep.Notes.{note, notes}
use Rattle.ss_review.specs.pinned.Claimants.{IsOnlyClaimant}
use Rattle.ss_review.specs.pinned.Pinned.{claims, keeps, kept, pinned_counted, pinned_report}
use Rattle.ss_review.specs.pinned.Stands.{pinned_shortfalls}
use Rattle.ss_review.specs.report.Entries.{group_keys, entries}
use Rattle.ss_review.specs.report.Meaning.{Tells}
use Rattle.ss_review.specs.report.Report.{report_of}
use Rattle.ss_review.specs.sessions.Payloads.{is_disputed, cover, joined_text, stated_payload}
use Rattle.ss_review.specs.sessions.Sessions.{of_session}
use Rattle.ss_review.specs.sessions.Verified.{joined, is_verified, signature_of}
use Rattle.ss_octets.proofs.Members.{Has, has_from_contains, contains_from_has}
use Rattle.ss_review.proofs.of_deliveries.DigestOctets.{hash_is_hash}
use Rattle.ss_review.proofs.of_deliveries.SmallChains.{is_setting, plain_message}
use Rattle.ss_review.proofs.of_lists.Keyed.{has-slice_get}
use Rattle.ss_review.proofs.of_reports.Witnesses.{stored_block}
use Rattle.ss_laws.specs.ahead.Reported.{AreNewest}
use Rattle.ss_laws.specs.ahead.cases.LostLog.{first_life, next_life, next_is, LostLogIsThis}
use Rattle.ss_laws.specs.strangers.PinnedListings.{IsWitnessedByKept}
use Rattle.ss_laws.specs.strangers.cases.SmallAttack.{own_payload, given, forged_certificate}
use Rattle.ss_laws.specs.strangers.cases.SmallUnforged.{forged_block, mixed, mixed_ahead, lives, number, counters_at, joined_session, mixed_report, missing_to, MeetsPremises, MeetsPremisesAhead, SmallUnforgedIsThis}
use Rattle.ss_laws.specs.strangers.StateLaws.{pinned_joined}
use Rattle.ss_laws.specs.strangers.Unforged.{IsAsSent, NothingIsForged, IsJoinedUnderNoOther, pinned_in}
use Rattle.ss_laws.proofs.of_strangers.cases.SmallAttack.{octets_of, stating, own_says, forged_says, not_normal}
use Rattle.ss_laws.proofs.of_strangers.cases.SmallLogs.{Says, plain_note, Line, Plain, Saying, blocks_from, contents_of, contents_read}
use Rattle.ss_laws.proofs.of_strangers.cases.SmallHashes.{of_message, apart_50_49, apart_50_52, apart_57_49, apart_57_52}
use Rattle.ss_laws.proofs.of_ahead.cases.LostLog.{other_group}

-- ---- what a report of the one session tells

pub told : (r : Report) (place : ℕ) → r.sessions ≡ joined_session place ∷ [] → (e : Entry) → Has (entry.Gap 1 whys.Lost ∷ entry.Listed 2 place ∷ []) e → Tells r (own_session small) (number 1).group e
told r place same e h =
    let es = entry.Gap 1 whys.Lost ∷ entry.Listed 2 place ∷ [] in
    record {
      session = joined_session place;
      session_told = subst (λ ts. Contains ts (joined_session place)) (sym same) (contains_from_has (joined_session place ∷ []) (joined_session place) (inl refl));
      session_is = refl;
      group = record { group = (number 1).group; entries = es };
      group_told = contains_from_has (record { group = (number 1).group; entries = es } ∷ []) (record { group = (number 1).group; entries = es }) (inl refl);
      group_is = refl;
      entry_told = contains_from_has es e h;
    }

pub in_tail : (gbc last : ℕ) (all : LogShortfalls) (n : ℕ) → all ≡ missing_to gbc last → 3 ≤ n → n ≤ last → IsInTail all (number n)
in_tail gbc last all n e from to =
    subst (λ a. IsInTail a (number n)) (sym e)
    (record {
      shortfall = _;
      told = inl (contains_from_has (missing_to gbc last).known _ (inl refl));
      session_is = refl;
      tail = _;
      tail_told = contains_from_has (record { group = (number n).group; first = 3; last = last } ∷ []) _ (inl refl);
      group_is = refl;
      from = from;
      to = to;
    })

in_run : (gbc last : ℕ) (all : LogShortfalls) (n : ℕ) → all ≡ missing_to gbc last → 1 ≤ n → n ≤ gbc → IsInRunOf all (own_session small) n
in_run gbc last all n e from to =
    subst (λ a. IsInRunOf a (own_session small) n) (sym e)
    (record {
      shortfall = _;
      told = inl (contains_from_has (missing_to gbc last).known _ (inl refl));
      session_is = refl;
      run = (record { first = 1; last = gbc }, contains_from_has (record { first = 1; last = gbc } ∷ []) (record { first = 1; last = gbc }) (inl refl), from, to);
    })

-- ---- counters

abbrev one_if : Bool → ℕ → List (List ℕ)
one_if b octet = if b then message octet ∷ [] else []

kept_two : kept_gbc (counters_at 2 5) (own_session small) ≡ 2
unfolding gbc_in
kept_two = refl

kept_five : kept_number (counters_at 2 5) (own_session small) (number 4).group ≡ 5
unfolding number_in
kept_five = refl

pub kept_seven : kept_number (counters_at 4 7) (own_session small) (number 6).group ≡ 7
unfolding number_in
kept_seven = refl

pub reach : ReachTheEnd mixed (counters_at 2 5)
reach zero small_one some =
    let four : length (given_to small.config 0 mixed.chain) ≡ 4 = refl in
    let five = kept_five in
    omega (arith, four, five)
reach (suc n) small_one some =
    let none : length (given_to small.config (suc n) mixed.chain) ≡ 0
    = ap (λ (b : Bool). length (([] ++ ((([] ++ one_if b 49) ++ one_if b 50) ++ one_if b 51)) ++ ([] ++ one_if b 52))) (other_group n) in
    absurd (omega (arith, some, none))

listed_given : IsGiven lives (message 50)
listed_given = record {
  newer = next_life ∷ [];
  life = first_life;
  older = [];
  lives_are = refl;
  later = chains.given 51 ∷ [];
  turn = chains.filling 50 (chains.block 0 1 (message 49 ∷ message 50 ∷ []));
  earlier = chains.given 49 ∷ begun ∷ [];
  turns_are = refl;
  stamp = None;
  call = refl;
}

listed_numbered : HasNumber small.config lives (number 2) (message 50)
unfolding listed_given
listed_numbered = record { given = listed_given; number = refl; group = refl }

last_given : IsGiven lives (message 52)
last_given = record {
  newer = [];
  life = next_life;
  older = first_life ∷ [];
  lives_are = refl;
  later = chains.flushed (chains.block 3 6 (message 52 ∷ [])) ∷ [];
  turn = chains.given 52;
  earlier = [];
  turns_are = refl;
  stamp = None;
  call = refl;
}

pub last_numbered : HasNumber small.config lives (number 6) (message 52)
unfolding last_given
last_numbered = record { given = last_given; number = refl; group = refl }

-- ---- signature blocks

-- a signature block of the session with this GBC, first number and signature, and these hashes
abbrev pub counted_block : ℕ → ℕ → ℕ → List Hash → block.Signature
counted_block gbc first signature hashes = record (signature_in small.config 0 gbc first hashes) { signature = signature ∷ [] }

abbrev pub hashed : ℕ → ℕ → List Hash → block.Signature
hashed first signature hashes = counted_block 0 first signature hashes

abbrev pub counted_text : ℕ → ℕ → ℕ → List Hash → List ℕ
counted_text gbc first signature hashes = signature_text small.config.head None (counted_block gbc first signature hashes)

pub record IsRead (t : List ℕ) (b : block.Signature) : Type 0 where
  pub text_is : Says t (Hashes b)
  pub read : reading t ≡ readings.Signature b

pub hashed_read : SignaturesAreRead → (gbc first signature : ℕ) (hashes : List Hash) → gbc < 10 → 1 ≤ first → first < 10 → signature < 256 → 1 ≤ length hashes → length hashes ≤ 2
    → list_all (block.is_of algs.Sha256) hashes ≡ true → All IsHash hashes → IsRead (counted_text gbc first signature hashes) (counted_block gbc first signature hashes)
hashed_read signatures gbc first signature hashes small_gbc some small_first small_one some_hash few own are =
    let r = signatures small.config.head None (counted_block gbc first signature hashes) is_setting.head refl
    (record {
      rsid = omega arith;
      group = record { sg = omega arith; spri = omega arith };
      gbc = omega (arith, small_gbc);
      some_first = some;
      some_hash = some_hash;
      at_most_99_hashes = omega (arith, few);
      hashes = own;
      last = omega (arith, few, small_first);
    })
    are (octets_of signature small_one) (omega arith) in
    record { text_is = record { octets = _; read = ap said_in r.read; signed_is = r.signed; session_is = r.session }; read = r.read }

abbrev pub two_hashes : List Hash
two_hashes = of_message 49 ∷ of_message 50 ∷ []

abbrev pub strange_hash : List Hash
strange_hash = of_message 57 ∷ []

abbrev pub own_text : List ℕ
own_text = chains.block 0 1 (message 49 ∷ message 50 ∷ [])

module _ (values : ReadingsAreOfValues) (signatures : SignaturesAreRead) (certificates_read : CertificatesAreRead) where
  pub own_read : IsRead own_text (hashed 1 83 two_hashes)
  own_read =
      hashed_read signatures 0 1 83 two_hashes (omega arith) (omega arith) (omega arith) (omega arith) (omega arith) (omega arith) refl
      (All-cons IsHash (of_message 49) (of_message 50 ∷ []) (hash_is_hash (message 49)) (All-cons IsHash (of_message 50) [] (hash_is_hash (message 50)) (All-nil IsHash)))

  pub forged_read : IsRead forged_block (hashed 2 84 strange_hash)
  forged_read =
      hashed_read signatures 0 2 84 strange_hash (omega arith) (omega arith) (omega arith) (omega arith) (omega arith) (omega arith) refl
      (All-cons IsHash (of_message 57) [] (hash_is_hash (message 57)) (All-nil IsHash))

  abbrev pub own_certificate : Says certificate (Fragment (stating 78 83))
  own_certificate = own_says signatures certificates_read

  abbrev strange_certificate : Says forged_certificate (Fragment (stating 85 84))
  strange_certificate = forged_says signatures certificates_read

  -- ---- what the log has

  pub strange_plain : reading (message 57) ≡ readings.Plain
  strange_plain = plain_message values 57 refl

  pub own_plain : reading (message 50) ≡ readings.Plain
  own_plain = plain_message values 50 refl

  abbrev pub own_lines : List Line
  own_lines =
      Saying certificate (Fragment (stating 78 83)) own_certificate
      ∷ Saying own_text (Hashes (hashed 1 83 two_hashes)) own_read.text_is
      ∷ Plain 57 strange_plain
      ∷ Plain 50 own_plain
      ∷ []

  abbrev pub lines : List Line
  lines = Saying forged_certificate (Fragment (stating 85 84)) strange_certificate ∷ Saying forged_block (Hashes (hashed 2 84 strange_hash)) forged_read.text_is ∷ own_lines

  abbrev pub all_blocks : List BlockMessage
  all_blocks = blocks_from 0 lines

  contents_are : contents (notes mixed.log) ≡ contents_of lines
  contents_are = contents_read lines

  pub blocks_are : blocks (notes mixed.log) ≡ all_blocks
  blocks_are = ap (λ (c : Contents). c.blocks) contents_are

  -- ---- what is computed

  disputed : joined accepting (of_session all_blocks (own_session small)) ≡ Err states.Disputed
  unfolding joined stated_payload is_disputed
  disputed = refl

  claims_own : claims accepting own_payload (of_session all_blocks (own_session small)) ≡ true
  unfolding claims cover parts_at stamp_in stamp_and_rest_in blob_in payload_in payload_text
  claims_own = refl

  joined_own : pinned_joined accepting given all_blocks (own_session small) ≡ Ok own_payload
  unfolding claims keeps cover joined_text stated_payload is_disputed joined parts_at stamp_in stamp_and_rest_in blob_in payload_in payload_text
  joined_own = refl

  reported : pinned_report accepting given (contents_of lines) ≡ mixed_report
  unfolding rows keys pair_of_bearer places_with wanted rank assigned is_taken group_keys entries in_order is_disputed cover joined_text stated_payload report_of joined is_verified parts_at stamp_in stamp_and_rest_in blob_in payload_in payload_text claims keeps pair text digits sha256 hash_after compress rounds first_words schedule digest_bytes one.sha1 one.hash_after one.compress one.rounds one.first_words one.schedule one.digest_bytes
  reported = refl

  missing_own : log_shortfalls (counters_at 2 5) mixed_report.sessions (pinned_counted accepting given all_blocks) ≡ missing_to 1 4
  unfolding log_shortfalls tails_in groups_in number_in gbc_in kept_sessions in_order next_number gbcs missing is_verified joined is_disputed cover joined_text stated_payload parts_at stamp_in stamp_and_rest_in blob_in payload_in payload_text claims keeps
  missing_own = refl

  missing_next : log_shortfalls (counters_at 4 7) mixed_report.sessions (pinned_counted accepting given all_blocks) ≡ missing_to 3 6
  unfolding log_shortfalls tails_in groups_in number_in gbc_in kept_sessions in_order next_number gbcs missing is_verified joined is_disputed cover joined_text stated_payload parts_at stamp_in stamp_and_rest_in blob_in payload_in payload_text claims keeps
  missing_next = refl

  -- ---- what is reported

  report : pinned_in mixed given ≡ mixed_report
  report = ap (pinned_report accepting given) contents_are ∙ reported

  up_to : (gbc next : ℕ) (all : LogShortfalls) → log_shortfalls (counters_at gbc next) mixed_report.sessions (pinned_counted accepting given all_blocks) ≡ all
      → pinned_shortfalls accepting given mixed.log (counters_at gbc next) ≡ all
  up_to gbc next all computed = (λ i. log_shortfalls (counters_at gbc next) (report i).sessions (pinned_counted accepting given (blocks_are i))) ∙ computed

  -- ---- under which payload

  one_given : (q : List ℕ) → Has given q → own_payload ≡ q
  one_given q (inl e) = e
  one_given q (inr h) = absurd h

  claimant : IsOnlyClaimant accepting given (of_session (blocks (notes mixed.log)) (own_session small)) own_payload
  claimant = record {
    is = record {
      given = contains_from_has given own_payload (inl refl);
      claims_it = ap (λ bs. claims accepting own_payload (of_session bs (own_session small))) blocks_are ∙ claims_own;
    };
    only = λ q c. sym (one_given q (has_from_contains given q c.given));
  }

  joined_so : pinned_joined accepting given (blocks (notes mixed.log)) (own_session small) ≡ Ok own_payload
  joined_so = ap (λ bs. pinned_joined accepting given bs (own_session small)) blocks_are ∙ joined_own

  pub same_payload : (p q : List ℕ) → ◌≡◌ {A = Result (List ℕ) SessionState} (Ok p) (Ok q) → p ≡ q
  same_payload p q e = cc

  no_other : IsJoinedUnderNoOther mixed given
  no_other payload e = sym (same_payload own_payload payload (sym joined_so ∙ e))

  -- ---- nothing is forged

  said_by : (t u : List ℕ) (said : BlockContent) (other : block.Signature) → said_in (reading t) ≡ Some said → t ≡ u → said_in (reading u) ≡ Some (Hashes other) → said ≡ Hashes other
  said_by t u said other first e second =
      let both : Some said ≡ Some (Hashes other) = sym first ∙ ap (λ v. said_in (reading v)) e ∙ second in cc

  plain_says_nothing : (octet : ℕ) (u : List ℕ) (other : block.Signature) → reading (message octet) ≡ readings.Plain → message octet ≡ u → said_in (reading u) ≡ Some (Hashes other) → ⊥
  plain_says_nothing octet u other plain e second =
      let no : None ≡ Some (Hashes other) = sym (ap said_in plain) ∙ ap (λ v. said_in (reading v)) e ∙ second in cc

  pub as_sent : (chain : List (List Turn)) → Has (emitted_by chain) own_text → (t : List ℕ) (said : block.Signature) → Has mixed.log t
      → said_in (reading t) ≡ Some (Hashes said) → bytes_eq said.signature mark ≡ true → IsAsSent chain said
  as_sent chain sent t said (inl e) read valid = absurd (let no = said_by forged_certificate t (Fragment (stating 85 84)) said strange_certificate.read e read in cc)
  as_sent chain sent t said (inr (inl e)) read valid = absurd (
      let same = said_by forged_block t (Hashes (hashed 2 84 strange_hash)) said forged_read.text_is.read e read in
      let no : false ≡ true = ap (λ c. bytes_eq (signature_of c) mark) same ∙ valid in
      cc)
  as_sent chain sent t said (inr (inr (inl e))) read valid = absurd (let no = said_by certificate t (Fragment (stating 78 83)) said own_certificate.read e read in cc)
  as_sent chain sent t said (inr (inr (inr (inl e)))) read valid =
      let both = said_by own_text t (Hashes (hashed 1 83 two_hashes)) said own_read.text_is.read e read in
      let same : hashed 1 83 two_hashes ≡ said = cc in
      record {
        message = own_text;
        sent = contains_from_has (emitted_by chain) own_text sent;
        block = said;
        read = own_read.read ∙ ap (λ (d : block.Signature). readings.Signature d) same;
        same = record { group = refl; gbc = refl; first = refl; hashes = refl };
      }
  as_sent chain sent t said (inr (inr (inr (inr (inl e))))) read valid = absurd (plain_says_nothing 57 t said strange_plain e read)
  as_sent chain sent t said (inr (inr (inr (inr (inr (inl e)))))) read valid = absurd (plain_says_nothing 50 t said own_plain e read)
  as_sent chain sent t said (inr (inr (inr (inr (inr (inr h)))))) read valid = absurd h

  nothing_forged : (chain : List (List Turn)) → Has (emitted_by chain) own_text → NothingIsForged (record mixed { chain = chain })
  nothing_forged chain sent b said c own_one says_so valid =
      let t = stored_block mixed.log b (has_from_contains (blocks (notes mixed.log)) b c) in
      as_sent chain sent t.0 said (has-slice_get mixed.log b.place t.0 t.1) (t.2.said_is ∙ ap (λ (x : BlockContent). Some x) says_so)
      (sym (ap (λ (x : BlockContent). bytes_eq (signature_of x) mark) says_so) ∙ valid)

  -- ---- what arrived, and what is lost

  arrived : (chain : List (List Turn)) → Has chain first_turns → HasPayload chain mixed.log
  arrived chain h = record {
    begun = record {
      turns = first_turns;
      turn = begun;
      of_chain = contains_from_has chain first_turns h;
      of_originator = contains_from_has first_turns begun (inr (inr (inr (inl refl))));
      begins = refl;
    };
    copies = λ m c. there m (has_from_contains (certificate ∷ []) m c);
  }
    where
      there : (m : List ℕ) → Has (certificate ∷ []) m → Contains mixed.log m
      there m (inl e) = contains_from_has mixed.log m (inr (inr (inl e)))
      there m (inr i) = absurd i

  covered : (chain : List (List Turn)) → Has (emitted_by chain) own_text → HasBlock (record mixed { chain = chain }) (number 2)
  covered chain h = record {
    message = own_text;
    block = hashed 1 83 two_hashes;
    stored = contains_from_has mixed.log own_text (inr (inr (inr (inl refl))));
    sent = contains_from_has (emitted_by chain) own_text h;
    read = own_read.read;
    group = refl;
    first = omega arith;
    last = omega arith;
  }

  pub lost : (octet : ℕ) → (of_message 57 ≡ of_message octet → ⊥) → (of_message 50 ≡ of_message octet → ⊥) → IsLost mixed (message octet)
  lost octet strange own n c t e = none n (has_from_contains mixed.log n c) t e
    where
      block_no : (m : List ℕ) (said : BlockContent) → Says m said → (n : List ℕ) → m ≡ n → is_normal (note n) ≡ true → ⊥
      block_no m said s n same t = not_normal signatures certificates_read m said s (ap (λ u. is_normal (note u)) same ∙ t)

      none : (n : List ℕ) → Has mixed.log n → is_normal (note n) ≡ true → hash_of algs.Sha256 n ≡ of_message octet → ⊥
      none n (inl e) t h = block_no forged_certificate (Fragment (stating 85 84)) strange_certificate n e t
      none n (inr (inl e)) t h = block_no forged_block (Hashes (hashed 2 84 strange_hash)) forged_read.text_is n e t
      none n (inr (inr (inl e))) t h = block_no certificate (Fragment (stating 78 83)) own_certificate n e t
      none n (inr (inr (inr (inl e)))) t h = block_no own_text (Hashes (hashed 1 83 two_hashes)) own_read.text_is n e t
      none n (inr (inr (inr (inr (inl e))))) t h = strange (ap (hash_of algs.Sha256) e ∙ h)
      none n (inr (inr (inr (inr (inr (inl e)))))) t h = own (ap (hash_of algs.Sha256) e ∙ h)
      none n (inr (inr (inr (inr (inr (inr h)))))) t i = absurd h

  -- ---- the block behind the listed message

  kept_third : Contains (map (λ (b : BlockMessage). b.place) (kept accepting given all_blocks)) 3
  unfolding claims keeps cover parts_at stamp_in stamp_and_rest_in blob_in payload_in payload_text
  kept_third = contains_from_has (1 ∷ 2 ∷ 3 ∷ []) 3 (inr (inr (inl refl)))

  witnessed : IsWitnessedByKept accepting given mixed.log (number 2) 5
  witnessed = record {
    message = message 50;
    stored = refl;
    no_block = plain_note 50 own_plain;
    block_place = 3;
    text = own_text;
    block_stored = refl;
    block_kept = subst (λ bs. Contains (map (λ (b : BlockMessage). b.place) (kept accepting given bs)) 3) (sym blocks_are) kept_third;
    said = hashed 1 83 two_hashes;
    read = own_read.read;
    session_is = own_read.text_is.session_is;
    group_is = refl;
    index = 1;
    number = refl;
    hash = refl;
    payload = own_payload;
    payload_joined = joined_so;
    octets = own_read.text_is.octets;
    octets_signed = own_read.text_is.signed_is;
    said_yes = refl;
  }

  -- ---- all of it

  pub own_sent : Has (emitted_by mixed.chain) own_text
  own_sent = inr (inr (inr (inr (inl refl))))

  own_sent_ahead : Has (emitted_by mixed_ahead.chain) own_text
  own_sent_ahead = inr (inr (inr (inr (inl refl))))

  newest : AreNewest mixed_ahead next_life (next_is 7) → AreNewest mixed_ahead next_life (counters_at 4 7)
  newest w = record {
    counters = w.counters;
    least = w.least;
    numbers = λ n c. contains_from_has (counters_at 4 7) (number_kept mixed_ahead n) (inr (has_from_contains (next_is 7) (number_kept mixed_ahead n) (w.numbers n c)));
  }

  premises : IsChain small mixed.chain → MeetsPremises
  premises chain = record {
    chain = chain;
    unforged = record { nothing = nothing_forged mixed.chain own_sent; no_other = no_other };
    arrived = arrived mixed.chain (inr (inl refl));
    accepts = λ m octets said c d read signed_is valid. valid;
    trusted = refl;
    is_given = contains_from_has given own_payload (inl refl);
    claimant = claimant;
    covered = covered mixed.chain own_sent;
    reach = reach;
    last_is = refl;
    last_lost = lost 52 apart_57_52 apart_50_52;
    first_lost = lost 49 apart_57_49 apart_50_49;
  }

  premises_ahead : LostLogIsThis → MeetsPremisesAhead
  premises_ahead l = record {
    ahead = record { chain = l.is_case.chain; turns = refl };
    unforged = record { nothing = nothing_forged mixed_ahead.chain own_sent_ahead; no_other = no_other };
    arrived = arrived mixed_ahead.chain (inr (inl refl));
    accepts = λ m octets said c d read signed_is valid. valid;
    trusted = refl;
    is_given = contains_from_has given own_payload (inl refl);
    claimant = claimant;
    covered = covered mixed_ahead.chain own_sent_ahead;
    listed_numbered = listed_numbered;
    last_given = last_given;
    last_numbered = last_numbered;
    last_lost = lost 52 apart_57_52 apart_50_52;
    newest = newest (record { counters = l.newest.counters; least = l.newest.least; numbers = l.newest.numbers });
    below = let seven = kept_seven in omega (arith, seven);
  }

  pub small_unforged : PremisesAreMet → LostLogIsThis → SmallUnforgedIsThis
  unfolding witnessed
  small_unforged met l = record {
    premises = premises met.lossy_is_case.chain;
    premises_ahead = premises_ahead l;
    disputed = ap (λ bs. joined accepting (of_session bs (own_session small))) blocks_are ∙ disputed;
    report = report;
    report_ahead = report;
    listed = told (pinned_in mixed given) 5 (ap (λ (r : Report). r.sessions) report) (entry.Listed 2 5) (inr (inl refl));
    stored = refl;
    its_message = refl;
    witnessed = witnessed;
    by_own_block = refl;
    listed_ahead = told (pinned_in mixed_ahead given) 5 (ap (λ (r : Report). r.sessions) report) (entry.Listed 2 5) (inr (inl refl));
    gap = told (pinned_in mixed given) 5 (ap (λ (r : Report). r.sessions) report) (entry.Gap 1 whys.Lost) (inl refl);
    missing = up_to 2 5 (missing_to 1 4) missing_own;
    in_tail = in_tail 1 4 (pinned_shortfalls accepting given mixed.log (counters_at 2 5)) 4 (up_to 2 5 (missing_to 1 4) missing_own) (omega arith) (omega arith);
    block_below = let two = kept_two in omega (arith, two);
    block_missing = in_run 1 4 (pinned_shortfalls accepting given mixed.log (counters_at 2 5)) 1 (up_to 2 5 (missing_to 1 4) missing_own) (omega arith) (omega arith);
    missing_ahead = up_to 4 7 (missing_to 3 6) missing_next;
    in_tail_ahead = in_tail 3 6 (pinned_shortfalls accepting given mixed.log (counters_at 4 7)) 6 (up_to 4 7 (missing_to 3 6) missing_next) (omega arith) (omega arith);
  }
