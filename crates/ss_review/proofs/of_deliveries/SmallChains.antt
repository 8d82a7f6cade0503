-- The small chains are chains, their logs deliver from them, and the premises of the laws are met.
use Rattle.std.proofs.Common.{◌≡◌, inl, inr, ℕ, zero, suc, ◌+◌, ◌<◌, ◌≤◌, Bool, true, false, cond, not, List, [], ◌∷◌, ◌++◌, length, refl, sym, ap, ◌∙◌, subst, arith}
use Rattle.std.specs.Prelude.{◌≢◌, None, Some, nat_le, ◌==◌, if◌then◌else◌}
use Rattle.std.specs.List.{All, AllPairs, Contains, list_all, count_by}
use Rattle.std.specs.declared.cmp.Ordering.TheVariants.{Less, Equal}
use Rattle.std.specs.Str.{bytes_eq, IsAscii}
use Rattle.std.proofs.lemmas.Bool.{cases_Bool, both_ways, eqb-true}
use Rattle.std.proofs.lemmas.Cmp.{tied_itself}
use Rattle.std.proofs.lemmas.Option.{same_Some}
use Rattle.std.proofs.lemmas.Slice.Eq.{bytes_eq-Decides}
use Rattle.std.proofs.lemmas.Str.{IsUtf8-from_ascii, is_utf8-from_IsUtf8}
use Rattle.std.proofs.lemmas.List.Elements.{All-nil, All-cons}
use Rattle.ss_message.specs.Message.{MessageValue, is_msg}
use Rattle.ss_message.specs.Octets.{is_text}
use Rattle.ss_payload.specs.declared.cuts.Cut.{Cut}
use Rattle.ss_payload.specs.Cuts.{AreCuts, octet_count}
use Rattle.ss_payload.specs.Payload.{payload_text}
use Rattle.ss_block.specs.declared.hash.Alg.TheVariants as algs
use Rattle.ss_block.specs.declared.hash.Hash.{Hash}
use Rattle.ss_block.specs.declared.session.Session.{Session}
use Rattle.ss_block.specs.declared.reading.Reading.{Reading}
use Rattle.ss_block.specs.declared.reading.Reading.TheVariants as readings
use Rattle.ss_block.specs.Block as block
use Rattle.ss_block.specs.Hashes.{pair, hash_of}
use Rattle.ss_block.specs.Order.{session_cmp}
use Rattle.ss_block.specs.OrderLaws.{session_cmp_total}
use Rattle.ss_block.specs.Reading.{reading}
use Rattle.ss_block.specs.Writing.{signature_text}
use Rattle.ss_block.specs.ReadingLaws.{ReadingsAreOfValues}
use Rattle.ss_block.specs.WritingLaws.{IsHash, SignaturesAreRead, CertificatesAreRead}
use Rattle.ss_origin.specs.declared.config.Config.{Config}
use Rattle.ss_origin.specs.declared.fault.OriginFault.{OriginFault}
use Rattle.ss_origin.specs.declared.fault.OriginFault.TheVariants.{NotBegun, NotSyslog, HasBlock, NumbersSpent, CounterSpent}
use Rattle.ss_origin.specs.Configs.{is_config}
use Rattle.ss_origin.specs.Counting.{Start, number_in, anew, resumed}
use Rattle.ss_origin.specs.Calls.{Submit, Flush, spri_in, messages_of, pending_of}
use Rattle.ss_origin.specs.State.{State, first_pending, state, counters_of}
use Rattle.ss_origin.specs.Setting.{IsSetting}
use Rattle.ss_origin.specs.Emission.{certificate_of, signature_in, block_of, blocks_of, IsSealed}
use Rattle.ss_origin.specs.Refusals.{first_fault, is_unparsed, is_plain, is_counter_spent, fault_of}
use Rattle.ss_origin.specs.Chain.{Turn, calls_of, AreTurns, start_behind, emitted_by}
use Rattle.ss_origin.specs.SignedLaws.{IsPending}
use Rattle.ss_origin.specs.Ahead.{ended_with, AreAtLeast}
use Rattle.ss_origin.specs.AheadLaws.{IsGiven}
use Rattle.ss_review.specs.keep.BlockMessage.{Hashes, Fragment}
use Rattle.ss_review.specs.keep.Notes.{note, notes}
use Rattle.ss_review.specs.keep.Contents.{said_in, blocks}
use Rattle.ss_review.specs.announced.Announced.{keys}
use Rattle.ss_review.specs.deliveries.Delivery.{own_session, is_normal, IsDelivered, sent, normal, submitted_to, HasBegun, HasPayload, NothingPending, IsWholeDelivery}
use Rattle.ss_review.specs.report.Meaning.{IsTold}
use Rattle.ss_review.specs.deliveries.DeliveryLaws.{IsCase, says, report_in, rows_in, IsListedAsJoined, HashesTellPairs, OthersWantOthers}
use Rattle.ss_review.specs.deliveries.DeliveryLaws as deliveries
use Rattle.ss_review.specs.deliveries.Delivered.{own_number, SentBlocksAreStored}
use Rattle.ss_review.specs.deliveries.AheadDelivery.{IsCaseAhead, IsSkipped, JoinedAheadByFragments, AnnouncedAheadByBlocks, SkippedNumbersAreInHoles}
use Rattle.ss_review.specs.counted.KeptLaws.{IsLost}
use Rattle.ss_review.specs.deliveries.SmallChains.{mark, small, message, certificate, begun, turns_before, first_turns, next_turns, whole_turns, lossy, whole, bare, PremisesAreMet, ahead, ahead_lives, PremisesAheadAreMet}
use Rattle.ss_review.specs.deliveries.SmallChains as chains
use Rattle.ss_review.proofs.of_numbers.Announcements.{announced_key}
use Rattle.ss_review.proofs.of_deliveries.DigestOctets.{AreOctets, hash_is_hash}
use Rattle.ss_review.proofs.of_lists.Keyed.{has-slice_get}
use Rattle.ss_octets.proofs.Members.{Has, has_from_contains, contains_from_has}
use Rattle.ss_origin.proofs.Numbering.{counters_tell}
use Rattle.ss_review.proofs.of_kept_messages.NotesTold.{block_read}
use Rattle.ss_review.proofs.of_deliveries.StoredBlocks.{plain_normal, block_not_normal}
use Rattle.ss_review.proofs.of_reports.Witnesses.{stored_block}

-- ---- the setting

no_octets : AreOctets []
no_octets i = omega arith

mark_octets : AreOctets mark
mark_octets zero = omega arith
mark_octets (suc i) = omega arith

pub is_setting : IsSetting small
unfolding is_config payload_text is_text
is_setting = record {
  fit = record { config = refl; octets = omega arith };
  head = record { pri = omega arith; hostname = refl; app_name = refl; procid = refl; msgid = refl };
  payload = record { stamp = refl; blob = refl; octets = no_octets };
}

-- ---- messages

pub plain_message : ReadingsAreOfValues → (octet : ℕ) → is_msg (Some (octet ∷ [])) ≡ true → reading (message octet) ≡ readings.Plain
plain_message values octet e =
    let v : MessageValue = record { pri = 13; stamp = None; hostname = None; app_name = None; procid = None; msgid = None; elements = []; msg = Some (octet ∷ []) } in
    values.0 (message octet) v
    (record { pri = omega arith; stamp = refl; hostname = refl; app_name = refl; procid = refl; msgid = refl; names = refl; raws = refl; ids = refl; msg = e })
    refl

-- ---- blocks

abbrev text_of : ℕ → ℕ → List Hash → List ℕ
text_of gbc first hashes = signature_text small.config.head None (record (signature_in small.config 0 gbc first hashes) { signature = mark })

signature_sealed : SignaturesAreRead → (old : State) (gbc : ℕ) (hashes : List Hash) → gbc < 10000000000 → 1 ≤ first_pending old 0
    → first_pending old 0 + length hashes ≤ 10000000000
    → 1 ≤ length hashes → length hashes ≤ 99 → list_all (block.is_of algs.Sha256) hashes ≡ true → All IsHash hashes
    → IsSealed small None (block_of small.config old (gbc, record { spri = 0; hashes = hashes })) (text_of gbc (first_pending old 0) hashes)
signature_sealed read old gbc hashes count some last some_hash most own are =
    let b : block.Signature = record (signature_in small.config 0 gbc (first_pending old 0) hashes) { signature = mark } in
    record {
      signature = mark;
      some_octet = omega arith;
      at_most_1024 = omega arith;
      valid = refl;
      text = refl;
      read = read small.config.head None b is_setting.head refl
          (record {
            rsid = omega arith;
            group = record { sg = omega arith; spri = omega arith };
            gbc = omega arith;
            some_first = some;
            some_hash = some_hash;
            at_most_99_hashes = most;
            hashes = own;
            last = last;
          })
          are mark_octets (omega arith);
    }

abbrev whole_cut : Cut
whole_cut = record { index = 1; len = 3 }

payload_ascii : IsAscii (45 ∷ 32 ∷ 78 ∷ [])
payload_ascii zero = omega arith
payload_ascii (suc zero) = omega arith
payload_ascii (suc (suc zero)) = omega arith
payload_ascii (suc (suc (suc i))) = omega arith

certificate_sealed : CertificatesAreRead → IsSealed small None (certificate_of small.config (payload_text small.payload) whole_cut) certificate
unfolding payload_text
certificate_sealed read = record {
  signature = mark;
  some_octet = omega arith;
  at_most_1024 = omega arith;
  valid = refl;
  text = refl;
  read = read small.config.head None _ is_setting.head refl
      (record {
        rsid = omega arith;
        group = record { sg = omega arith; spri = omega arith };
        total = omega arith;
        some_index = omega arith;
        some_octet = omega arith;
        at_most_9999_octets = omega arith;
        within = omega arith;
        fragment = is_utf8-from_IsUtf8 (45 ∷ 32 ∷ 78 ∷ []) (IsUtf8-from_ascii (45 ∷ 32 ∷ 78 ∷ []) payload_ascii);
      })
      mark_octets (omega arith);
}

-- ---- the one cut

nothing_behind : {X : Type 0} (before : List X) (c : X) (after : List X) → [] ≡ before ++ c ∷ after → ⊥
nothing_behind [] c after e = cc
nothing_behind (b ∷ before) c after e = cc

only_one : {X : Type 0} (x : X) (before : List X) (c : X) (after : List X) → x ∷ [] ≡ before ++ c ∷ after → (before ≡ []) × (x ≡ c)
only_one x [] c after e = (refl, cc)
only_one x (b ∷ before) c after e =
    let tail : [] ≡ before ++ c ∷ after = cc in
    absurd (nothing_behind before c after tail)

not_two : {X : Type 0} (x : X) (before : List X) (c next : X) (after : List X) → x ∷ [] ≡ before ++ c ∷ next ∷ after → ⊥
not_two x [] c next after e = cc
not_two x (b ∷ before) c next after e =
    let tail : [] ≡ before ++ c ∷ next ∷ after = cc in
    nothing_behind before c (next ∷ after) tail

one_cut : AreCuts (length (payload_text small.payload)) 20 (whole_cut ∷ [])
unfolding payload_text
one_cut = record {
  follow = λ before c after e. (let o = only_one whole_cut before c after e in
      sym (ap (λ (d : Cut). d.index) o.1) ∙ ap (λ (ds : List Cut). 1 + octet_count ds) (sym o.0));
  end = refl;
  full = λ before c next after e. absurd (not_two whole_cut before c next after e);
  last = λ before c e. (let same = (only_one whole_cut before c [] e).1 in
      let len : 3 ≡ c.len = ap (λ (d : Cut). d.len) same in
      (omega (arith, len), omega (arith, len)));
}

-- ---- calls

-- the faults of a message that is read so
abbrev faults_at : Config → State → List ℕ → Reading → List (Bool × OriginFault)
faults_at c s m r =
    (not s.begun, NotBegun)
    ∷ (is_unparsed r, NotSyslog)
    ∷ (not (is_plain r), HasBlock)
    ∷ (nat_le 10000000000 (s.groups (spri_in c.grouping m)).number, NumbersSpent)
    ∷ (is_counter_spent c s (Submit m None), CounterSpent)
    ∷ []

accepted : (s : State) (m : List ℕ) → reading m ≡ readings.Plain → first_fault (faults_at small.config s m readings.Plain) ≡ None → fault_of small.config s (Submit m None) ≡ None
accepted s m plain e = ap (λ r. first_fault (faults_at small.config s m r)) plain ∙ e

-- the laws of reading
pub record Laws : Type 0 where
  pub values : ReadingsAreOfValues
  pub signatures : SignaturesAreRead
  pub certificates : CertificatesAreRead

module _ (laws : Laws) where
  of_one : (old : State) (gbc octet : ℕ) → gbc < 10000000000 → 1 ≤ first_pending old 0 → first_pending old 0 < 10000000000
      → let hs = hash_of algs.Sha256 (message octet) ∷ [] in
      IsSealed small None (block_of small.config old (gbc, record { spri = 0; hashes = hs })) (text_of gbc (first_pending old 0) hs)
  of_one old gbc octet count some last =
      signature_sealed laws.signatures old gbc (hash_of algs.Sha256 (message octet) ∷ []) count some (omega (arith, last)) (omega arith) (omega arith) refl
      (All-cons IsHash (hash_of algs.Sha256 (message octet)) [] (hash_is_hash (message octet)) (All-nil IsHash))

  of_two : (old : State) (gbc octet other : ℕ) → gbc < 10000000000 → 1 ≤ first_pending old 0 → first_pending old 0 + 1 < 10000000000
      → let hs = hash_of algs.Sha256 (message octet) ∷ hash_of algs.Sha256 (message other) ∷ [] in
      IsSealed small None (block_of small.config old (gbc, record { spri = 0; hashes = hs })) (text_of gbc (first_pending old 0) hs)
  of_two old gbc octet other count some last =
      signature_sealed laws.signatures old gbc (hash_of algs.Sha256 (message octet) ∷ hash_of algs.Sha256 (message other) ∷ []) count some (omega (arith, last)) (omega arith) (omega arith) refl
      (All-cons IsHash (hash_of algs.Sha256 (message octet)) (hash_of algs.Sha256 (message other) ∷ []) (hash_is_hash (message octet))
      (All-cons IsHash (hash_of algs.Sha256 (message other)) [] (hash_is_hash (message other)) (All-nil IsHash)))

  begins : AreTurns small anew (begun ∷ [])
  begins = (
    tt,
    refl,
    record {
      due = certificate_of small.config (payload_text small.payload) whole_cut ∷ [];
      are_due = (whole_cut ∷ [], one_cut, refl);
      sent = record { messages = certificate ∷ []; sealed = (certificate_sealed laws.certificates, tt); sent_are = refl };
    },
  )

  pub first_are : AreTurns small anew first_turns
  unfolding pending_of
  first_are = (
    (
      (
        begins,
        accepted (state small.config anew (calls_of (begun ∷ []))) (message 49) (plain_message laws.values 49 refl) refl,
        record { due = []; are_due = refl; sent = record { messages = []; sealed = tt; sent_are = refl } },
      ),
      accepted (state small.config anew (calls_of (chains.given 49 ∷ begun ∷ []))) (message 50) (plain_message laws.values 50 refl) refl,
      record {
        due = blocks_of small.config (state small.config anew (calls_of (chains.given 49 ∷ begun ∷ []))) (Submit (message 50) None);
        are_due = refl;
        sent = record {
          messages = chains.block 0 1 (message 49 ∷ message 50 ∷ []) ∷ [];
          sealed = (of_two (state small.config anew (calls_of (chains.given 49 ∷ begun ∷ []))) 0 49 50 (omega arith) (omega arith) (omega arith), tt);
          sent_are = refl;
        };
      },
    ),
    accepted (state small.config anew (calls_of turns_before)) (message 51) (plain_message laws.values 51 refl) refl,
    record { due = []; are_due = refl; sent = record { messages = []; sealed = tt; sent_are = refl } },
  )

  pub whole_are : AreTurns small anew whole_turns
  unfolding pending_of
  whole_are = (
    (
      begins,
      accepted (state small.config anew (calls_of (begun ∷ []))) (message 49) (plain_message laws.values 49 refl) refl,
      record { due = []; are_due = refl; sent = record { messages = []; sealed = tt; sent_are = refl } },
    ),
    refl,
    record {
      due = blocks_of small.config (state small.config anew (calls_of (chains.given 49 ∷ begun ∷ []))) (Flush None);
      are_due = refl;
      sent = record { messages = chains.block 0 1 (message 49 ∷ []) ∷ []; sealed = (of_one (state small.config anew (calls_of (chains.given 49 ∷ begun ∷ []))) 0 49 (omega arith) (omega arith) (omega arith), tt); sent_are = refl };
    },
  )

  pub next_are : AreTurns small (start_behind small.config (first_turns ∷ [])) (next_turns 1 4)
  unfolding pending_of
  next_are = (
    (
      tt,
      accepted (state small.config (start_behind small.config (first_turns ∷ [])) []) (message 52) (plain_message laws.values 52 refl) refl,
      record { due = []; are_due = refl; sent = record { messages = []; sealed = tt; sent_are = refl } },
    ),
    refl,
    record {
      due = blocks_of small.config (state small.config (start_behind small.config (first_turns ∷ [])) (calls_of (chains.given 52 ∷ []))) (Flush None);
      are_due = refl;
      sent = record { messages = chains.block 1 4 (message 52 ∷ []) ∷ []; sealed = (of_one (state small.config (start_behind small.config (first_turns ∷ [])) (calls_of (chains.given 52 ∷ []))) 1 52 (omega arith) (omega arith) (omega arith), tt); sent_are = refl };
    },
  )

  -- ---- messages of the logs

  abbrev before_end : State
  before_end = state small.config anew (calls_of (chains.given 49 ∷ begun ∷ []))

  sealed_whole : IsSealed small None (block_of small.config before_end (0, record { spri = 0; hashes = hash_of algs.Sha256 (message 49) ∷ [] })) (text_of 0 (first_pending before_end 0) (hash_of algs.Sha256 (message 49) ∷ []))
  unfolding pending_of
  sealed_whole = of_one before_end 0 49 (omega arith) (omega arith) (omega arith)

  abbrev whole_block : List ℕ
  whole_block = chains.block 0 1 (message 49 ∷ [])

  abbrev read_whole : block.Signature
  read_whole = record (signature_in small.config 0 0 1 (hash_of algs.Sha256 (message 49) ∷ [])) { signature = sealed_whole.signature }

  block_reads : (b : block.Signature) × (reading whole_block ≡ readings.Signature b)
  unfolding pending_of
  block_reads = (read_whole, sealed_whole.read.read)

  certificate_reads : (b : block.Certificate) × (reading certificate ≡ readings.Certificate b)
  certificate_reads = (_, (certificate_sealed laws.certificates).read.read)

  plain_at : (octet : ℕ) → is_msg (Some (octet ∷ [])) ≡ true → is_normal (note (message octet)) ≡ true
  plain_at octet e = plain_normal (message octet) (plain_message laws.values octet e)

  signature_not_normal : is_normal (note whole_block) ≡ true → ⊥
  signature_not_normal n = let r = block_reads in both_ways (is_normal (note whole_block)) (block_not_normal whole_block (Hashes r.0) (ap said_in r.1)) n

  certificate_not_normal : is_normal (note certificate) ≡ true → ⊥
  certificate_not_normal n = let r = certificate_reads in both_ways (is_normal (note certificate)) (block_not_normal certificate (Fragment r.0) (ap said_in r.1)) n

  -- ---- a log with losses

  lossy_log : (m : List ℕ) → Has lossy.log m → IsDelivered small lossy.chain m
  lossy_log m (inl e) = sent (contains_from_has (emitted_by lossy.chain) m (inl e))
  lossy_log m (inr (inl e)) = normal (subst (λ t. is_normal (note t) ≡ true) e (plain_at 57 refl))
  lossy_log m (inr (inr (inl e))) = sent (contains_from_has (emitted_by lossy.chain) m (inr (inr (inr (inl e)))))
  lossy_log m (inr (inr (inr (inl e)))) = sent (contains_from_has (emitted_by lossy.chain) m (inr (inr (inr (inr (inr (inr (inl e))))))))
  lossy_log m (inr (inr (inr (inr (inl e))))) = sent (contains_from_has (emitted_by lossy.chain) m (inr (inr (inr (inl e)))))
  lossy_log m (inr (inr (inr (inr (inr (inl e)))))) = sent (contains_from_has (emitted_by lossy.chain) m (inl e))
  lossy_log m (inr (inr (inr (inr (inr (inr h)))))) = absurd h

  pub lossy_is_case : IsCase lossy
  lossy_is_case = record {
    chain = record { setting = is_setting; chained = ((tt, first_are), next_are) };
    delivers = λ m c. lossy_log m (has_from_contains lossy.log m c);
    trusts = refl;
    accepts = λ m octets said c d read signed valid. valid;
  }

  pub last_is_pending : IsPending small.config [] (chains.given 51) turns_before (message 51)
  unfolding pending_of
  last_is_pending = omega arith

  -- ---- a whole log

  pub whole_is_case : IsCase whole
  whole_is_case = record {
    chain = record { setting = is_setting; chained = ((tt, whole_are), tt) };
    delivers = λ m c. sent c;
    trusts = refl;
    accepts = λ m octets said c d read signed valid. valid;
  }

  pub has_begun : HasBegun whole.chain
  has_begun = record {
    turns = whole_turns;
    turn = begun;
    of_chain = contains_from_has whole.chain whole_turns (inr (inl refl));
    of_originator = contains_from_has whole_turns begun (inr (inr (inl refl)));
    begins = refl;
  }

  certificate_arrived : (m : List ℕ) → Has (certificate ∷ []) m → Contains whole.log m
  certificate_arrived m (inl e) = contains_from_has whole.log m (inr (inr (inl e)))
  certificate_arrived m (inr h) = absurd h

  pub has_payload : HasPayload whole.chain whole.log
  unfolding has_begun
  has_payload = record { begun = has_begun; copies = λ m c. certificate_arrived m (has_from_contains (certificate ∷ []) m c) }

  none_left : (turns : List Turn) (spri : ℕ) → Has whole.chain turns → pending_of small.config spri (calls_of turns) ≡ []
  unfolding pending_of
  none_left turns spri (inl e) = subst (λ ts. pending_of small.config spri (calls_of ts) ≡ []) e refl
  none_left turns spri (inr (inl e)) = subst (λ ts. pending_of small.config spri (calls_of ts) ≡ []) e refl
  none_left turns spri (inr (inr h)) = absurd h

  pub nothing_pending : NothingPending small.config whole.chain
  nothing_pending turns c spri = none_left turns spri (has_from_contains whole.chain turns c)

  -- a message without a block is none that is read otherwise
  other_text : (n : List ℕ) → (is_normal (note n) ≡ true → ⊥) → bytes_eq (message 49) n ≡ false
  other_text n block = elim (cases_Bool (bytes_eq (message 49) n)) [
    | inl t ↦ absurd (block (subst (λ m. is_normal (note m) ≡ true) ((bytes_eq-Decides (message 49) n).0 t) (plain_at 49 refl)))
    | inr f ↦ f
  ]

  counted_once : (p : List ℕ → Bool) (a b c : List ℕ) → p a ≡ false → p b ≡ true → p c ≡ false → count_by p (a ∷ b ∷ c ∷ []) ≡ count_by p (b ∷ [])
  counted_once p a b c one two three = (λ i. 0 + cond (one i) 1 0 + cond (two i) 1 0 + cond (three i) 1 0) ∙ sym (ap (λ (t : Bool). 0 + cond t 1 0) two)

  as_often : (m : List ℕ) → Has (submitted_to whole.chain) m → count_by (bytes_eq m) whole.log ≡ count_by (bytes_eq m) (submitted_to whole.chain)
  as_often m (inl e) =
      subst (λ n. count_by (bytes_eq n) whole.log ≡ count_by (bytes_eq n) (submitted_to whole.chain)) e
      (counted_once (bytes_eq (message 49)) whole_block (message 49) certificate
      (other_text whole_block signature_not_normal)
      ((bytes_eq-Decides (message 49) (message 49)).1 refl)
      (other_text certificate certificate_not_normal))
  as_often m (inr h) = absurd h

  pub whole_delivery : IsWholeDelivery whole.chain whole.log
  whole_delivery = record {
    sent = λ m c. c;
    messages = λ m c. as_often m (has_from_contains (submitted_to whole.chain) m c);
    blocks = λ m c n. c;
  }

  pub block_whole : deliveries.HasBlock whole (own_number whole 0 1)
  unfolding pending_of
  block_whole = record {
    message = whole_block;
    block = read_whole;
    stored = contains_from_has whole.log whole_block (inl refl);
    sent = contains_from_has (emitted_by whole.chain) whole_block (inl refl);
    read = sealed_whole.read.read;
    group = refl;
    first = omega arith;
    last = omega arith;
  }

  -- the one signature block in the log has the GBC 0
  pub gbc_whole : (m : List ℕ) (b : block.Signature) → Has whole.log m → reading m ≡ readings.Signature b → b.gbc ≡ 0
  unfolding pending_of
  gbc_whole m b (inl e) read =
      let own : readings.Signature read_whole ≡ readings.Signature b = sym sealed_whole.read.read ∙ ap reading e ∙ read in
      let same : read_whole ≡ b = cc in
      sym (ap (λ (d : block.Signature). d.gbc) same)
  gbc_whole m b (inr (inl e)) read =
      let no : readings.Plain ≡ readings.Signature b = sym (plain_message laws.values 49 refl) ∙ ap reading e ∙ read in
      absurd (cc)
  gbc_whole m b (inr (inr (inl e))) read =
      let c = certificate_reads in
      let no : readings.Certificate c.0 ≡ readings.Signature b = sym c.1 ∙ ap reading e ∙ read in
      absurd (cc)
  gbc_whole m b (inr (inr (inr h))) read = absurd h

  pub message_whole : deliveries.IsStored whole (message 49)
  message_whole = record { message = message 49; stored = contains_from_has whole.log (message 49) (inr (inl refl)); no_block = plain_at 49 refl; pair_is = refl }

  -- the one message without a block in the log is the one that was submitted
  the_message : (n : List ℕ) → Has whole.log n → is_normal (note n) ≡ true → message 49 ≡ n
  the_message n (inl e) t = absurd (signature_not_normal (subst (λ m. is_normal (note m) ≡ true) (sym e) t))
  the_message n (inr (inl e)) t = e
  the_message n (inr (inr (inl e))) t = absurd (certificate_not_normal (subst (λ m. is_normal (note m) ≡ true) (sym e) t))
  the_message n (inr (inr (inr h))) t = absurd h

  submitted_one : (m : List ℕ) → Has (submitted_to whole.chain) m → message 49 ≡ m
  submitted_one m (inl e) = e
  submitted_one m (inr h) = absurd h

  pub hashes_tell_pairs : HashesTellPairs whole
  hashes_tell_pairs m n c d t e =
      ap pair (sym (submitted_one m (has_from_contains (submitted_to whole.chain) m c)) ∙ the_message n (has_from_contains whole.log n d) t)

  -- ---- blocks alone

  bare_log : (m : List ℕ) → Has bare.log m → Contains (emitted_by bare.chain) m × (is_normal (note m) ≡ true → ⊥)
  bare_log m (inl e) = (contains_from_has (emitted_by bare.chain) m (inr (inr (inl e))), λ t. certificate_not_normal (subst (λ n. is_normal (note n) ≡ true) (sym e) t))
  bare_log m (inr (inl e)) = (
    contains_from_has (emitted_by bare.chain) m (inl e),
    λ t. signature_not_normal (subst (λ n. is_normal (note n) ≡ true) (sym e) t),
  )
  bare_log m (inr (inr h)) = absurd h

  pub bare_is_case : IsCase bare
  bare_is_case = record {
    chain = record { setting = is_setting; chained = (tt, whole_are) };
    delivers = λ m c. sent (bare_log m (has_from_contains bare.log m c)).0;
    trusts = refl;
    accepts = λ m octets said c d read signed valid. valid;
  }

  pub only_message_is_lost : IsLost bare (message 49)
  only_message_is_lost n c t = absurd ((bare_log n (has_from_contains bare.log n c)).1 t)

  -- ---- originators that go on ahead

  abbrev behind_first : Start
  behind_first = resumed (record { gbc = 3; groups = record { spri = 0; number = 6 } ∷ [] })

  abbrev before_flush : State
  before_flush = state small.config behind_first (calls_of (chains.given 52 ∷ []))

  ahead_are : AreTurns small behind_first (next_turns 3 6)
  unfolding pending_of
  ahead_are = (
    (
      tt,
      accepted (state small.config behind_first []) (message 52) (plain_message laws.values 52 refl) refl,
      record { due = []; are_due = refl; sent = record { messages = []; sealed = tt; sent_are = refl } },
    ),
    refl,
    record {
      due = blocks_of small.config before_flush (Flush None);
      are_due = refl;
      sent = record { messages = chains.block 3 6 (message 52 ∷ []) ∷ []; sealed = (of_one before_flush 3 52 (omega arith) (omega arith) (omega arith), tt); sent_are = refl };
    },
  )

  other_group : (n : ℕ) → (0 == suc n) ≡ false
  other_group n = elim (cases_Bool (0 == suc n)) [
    | inl t ↦ absurd (let e = eqb-true 0 (suc n) t in omega (arith, e))
    | inr f ↦ f
  ]

  abbrev one_if : Bool → ℕ → List (List ℕ)
  one_if b octet = if b then message octet ∷ [] else []

  at_least : AreAtLeast (counters_of (state small.config anew (calls_of first_turns))) behind_first.counters
  unfolding pending_of
  at_least = record { gbc = omega arith; numbers = each }
    where
      each : (spri : ℕ) → spri < 192 → number_in (counters_of (state small.config anew (calls_of first_turns))).groups spri ≤ number_in behind_first.counters.groups spri
      each zero small_one = omega arith
      each (suc n) small_one =
          let told = counters_tell small.config anew (calls_of first_turns) (suc n) small_one in
          let none : length (messages_of small.config.grouping (suc n) (calls_of first_turns)) ≡ 0
          = ap (λ (b : Bool). length ((([] ++ one_if b 49) ++ one_if b 50) ++ one_if b 51)) (other_group n) in
          let first : number_in behind_first.counters.groups (suc n) ≡ 1 = ap (λ (b : Bool). if b then 6 else 1) (other_group n) in
          omega (arith, told, none, first)

  ahead_log : (m : List ℕ) → Has ahead.log m → Contains (emitted_by ahead.chain) m
  ahead_log m (inl e) = contains_from_has (emitted_by ahead.chain) m (inl e)
  ahead_log m (inr (inl e)) = contains_from_has (emitted_by ahead.chain) m (inr (inr (inr (inr (inr (inr (inl e)))))))
  ahead_log m (inr (inr (inl e))) = contains_from_has (emitted_by ahead.chain) m (inl e)
  ahead_log m (inr (inr (inr h))) = absurd h

  pub ahead_is_case : IsCaseAhead ahead ahead_lives
  ahead_is_case = record {
    chain = record { setting = is_setting; chained = ((tt, refl, first_are), (behind_first.counters, refl, at_least), ahead_are) };
    turns = refl;
    delivers = λ m c. sent (ahead_log m (has_from_contains ahead.log m c));
    trusts = refl;
    accepts = λ m octets said c d read signed valid. valid;
  }

  pub skipped : (number : ℕ) → 4 ≤ number → number < 6 → IsSkipped small.config ahead_lives 0 number
  skipped number least below =
      let last : number_in (ended_with small.config (record { start = anew; turns = first_turns })).groups 0 ≡ 4 = refl in
      record {
        newer = [];
        next = record { start = behind_first; turns = next_turns 3 6 };
        last = record { start = anew; turns = first_turns };
        older = [];
        lives_are = refl;
        small = omega arith;
        least = omega (arith, least, last);
        below = below;
      }

  last_is_given : IsGiven ahead_lives (message 52)
  last_is_given = record {
    newer = [];
    life = record { start = behind_first; turns = next_turns 3 6 };
    older = record { start = anew; turns = first_turns } ∷ [];
    lives_are = refl;
    later = chains.flushed (chains.block 3 6 (message 52 ∷ [])) ∷ [];
    turn = chains.given 52;
    earlier = [];
    turns_are = refl;
    stamp = None;
    call = refl;
  }

  begun_ahead : HasBegun ahead.chain
  begun_ahead = record {
    turns = first_turns;
    turn = begun;
    of_chain = contains_from_has ahead.chain first_turns (inr (inl refl));
    of_originator = contains_from_has first_turns begun (inr (inr (inr (inl refl))));
    begins = refl;
  }

  arrived_ahead : (m : List ℕ) → Has (certificate ∷ []) m → Contains ahead.log m
  arrived_ahead m (inl e) = contains_from_has ahead.log m (inr (inl e))
  arrived_ahead m (inr h) = absurd h

  payload_ahead : HasPayload ahead.chain ahead.log
  unfolding begun_ahead
  payload_ahead = record { begun = begun_ahead; copies = λ m c. arrived_ahead m (has_from_contains (certificate ∷ []) m c) }

  sealed_ahead : IsSealed small None (block_of small.config before_flush (3, record { spri = 0; hashes = hash_of algs.Sha256 (message 52) ∷ [] })) (text_of 3 (first_pending before_flush 0) (hash_of algs.Sha256 (message 52) ∷ []))
  unfolding pending_of
  sealed_ahead = of_one before_flush 3 52 (omega arith) (omega arith) (omega arith)

  block_ahead : deliveries.HasBlock ahead (own_number ahead 0 6)
  unfolding pending_of
  block_ahead = record {
    message = chains.block 3 6 (message 52 ∷ []);
    block = record (signature_in small.config 0 3 6 (hash_of algs.Sha256 (message 52) ∷ [])) { signature = sealed_ahead.signature };
    stored = contains_from_has ahead.log (chains.block 3 6 (message 52 ∷ [])) (inl refl);
    sent = contains_from_has (emitted_by ahead.chain) (chains.block 3 6 (message 52 ∷ [])) (inl refl);
    read = sealed_ahead.read.read;
    group = refl;
    first = omega arith;
    last = omega arith;
  }

  pub premises_ahead_are_met : JoinedAheadByFragments → AnnouncedAheadByBlocks → SkippedNumbersAreInHoles → PremisesAheadAreMet
  premises_ahead_are_met joined announced holes =
      let l : IsListedAsJoined ahead = (joined ahead ahead_lives ahead_is_case).1 payload_ahead in
      let told : IsTold (report_in ahead) (own_number ahead 0 6) = (announced ahead ahead_lives ahead_is_case (own_number ahead 0 6) refl).0.1 (l, block_ahead) in
      let four = skipped 4 (omega arith) (omega arith) in
      let five = skipped 5 (omega arith) (omega arith) in
      record {
        ahead_is_case = ahead_is_case;
        last_is_given = last_is_given;
        first_is_skipped = four;
        last_is_skipped = five;
        greater_is_told = told;
        first_is_in_hole = (holes ahead ahead_lives ahead_is_case 0 4 four).1 6 (omega arith) told;
        last_is_in_hole = (holes ahead ahead_lives ahead_is_case 0 5 five).1 6 (omega arith) told;
      }

pub pairs_differ : AllPairs (λ m n. pair m ≢ pair n) (submitted_to whole.chain)
pairs_differ i j d less below =
    let one : length (submitted_to whole.chain) ≡ 1 = refl in
    absurd (omega (arith, less, below, one))

-- each block of the log is of the session, so no other session wants a message
pub others_want_others : SentBlocksAreStored → Laws → OthersWantOthers whole
others_want_others stored laws k m c less s =
    let a = announced_key (says whole) (blocks (notes whole.log)) k (has_from_contains (keys (rows_in whole)) k c) in
    let b = a.1.message in
    let t = stored_block whole.log b (has_from_contains (blocks (notes whole.log)) b a.1.stored) in
    let there : Contains whole.log t.0 = contains_from_has whole.log t.0 (has-slice_get whole.log b.place t.0 t.1) in
    let n = stored whole (whole_is_case laws) t.0 there there (block_not_normal t.0 b.said t.2.said_is) in
    let own : b.session ≡ own_session small
    = same_Some b.session (own_session small) (sym t.2.session_is ∙ (block_read n.stored_block.place t.0 n.stored_block n.read).session_is ∙ ap (λ (o : Session). Some o) n.own) in
    let not_less : Equal ≡ Less = sym (tied_itself session_cmp_total (own_session small)) ∙ ap (λ o. session_cmp o (own_session small)) (sym own ∙ a.1.session_is) ∙ less in
    absurd (let no : Equal ≡ Less = not_less in cc)

pub premises_are_met : SentBlocksAreStored → Laws → PremisesAreMet
premises_are_met stored laws = record {
  lossy_is_case = lossy_is_case laws;
  last_is_pending = last_is_pending laws;
  whole_is_case = whole_is_case laws;
  has_begun = has_begun laws;
  has_payload = has_payload laws;
  nothing_pending = nothing_pending laws;
  whole_delivery = whole_delivery laws;
  hashes_tell_pairs = hashes_tell_pairs laws;
  others_want_others = others_want_others stored laws;
  pairs_differ = pairs_differ;
  bare_is_case = bare_is_case laws;
  only_message_is_lost = only_message_is_lost laws;
}
