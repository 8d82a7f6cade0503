-- A payload that claims a session: what its certificate blocks state together, alone and beside another claimant.
use Rattle.std.proofs.Common.{◌≡◌, inl, inr, ℕ, ◌+◌, ◌-◌, ◌<◌, ◌≤◌, Bool, true, ◌&&◌, List, [], ◌∷◌, length, filter, refl, sym, ap, ◌∙◌, subst, arith}
use Rattle.std.specs.Prelude.{nat_le, nat_lt, slice_get, slice_index, Option, Some, None, is_some, Result, Ok, Err}
use Rattle.std.specs.List.{list_all, range_with_len}
use Rattle.std.proofs.lemmas.Bool.{cases_eq, le-leb, lt-ltb, leb-true, ltb-true, and_parts, and_from}
use Rattle.std.proofs.lemmas.Option.{get_or_from_slice_get, same_Some}
use Rattle.ss_block.specs.Block as block
use Rattle.ss_block.specs.Joining.{Stated, placed, HasTotal, HasOctet, IsDisputed, HasGap}
use Rattle.ss_block.specs.Payload.{PayloadValue}
use Rattle.ss_block.specs.PayloadReading.{stamp_and_rest_in, payload_in}
use Rattle.ss_octets.specs.Cut.{parts_at}
use Rattle.ss_review.specs.keep.BlockMessage.{BlockMessage, BlockContent, Fragment}
use Rattle.ss_review.specs.declared.report.session_report.SessionState.{SessionState}
use Rattle.ss_review.specs.declared.report.session_report.SessionState.TheVariants as states
use Rattle.ss_review.specs.sessions.Payloads.{certificate_of, certificates, has_index, cover, is_payload}
use Rattle.ss_review.specs.sessions.States.{stated_by, StatesText, IsCovered, IsPayloadBlock}
use Rattle.ss_review.specs.sessions.Verified.{Answers, signature_of, is_valid, joined, state_in}
use Rattle.ss_octets.proofs.Members.{Has, contains_from_has, has-filter, from_has-filter, has-filter_map, from_has-filter_map}
use Rattle.ss_review.proofs.of_lists.Tests.{any_member, member_any, all_member, member_all, in_range, from_in_range}
use Rattle.ss_review.proofs.of_sessions.Stating.{IsStatedBy, stated_by-IsStatedBy, has-placed}
use Rattle.ss_review.proofs.of_sessions.StatesTold.{fragment_of, joined_under, in_state}
use Rattle.ss_review.proofs.of_sessions.Fragments.{HasFragment, total_of, has-total, octet_of, has-octet, one_total}
use Rattle.ss_review.specs.pinned.Pinned.{agrees_in, speaks_for, claims}
use Rattle.ss_review.specs.pinned.Claimants.{AreWithin}
use Rattle.ss_review.proofs.of_pinned.Agreeing.{Says, agreeing_says, differ_at}

-- ---- what claims a session

-- a certificate block that speaks for the payload has an octet at the index
pub record SpeaksAt (says : Answers) (own : List BlockMessage) (p : List ℕ) (index : ℕ) : Type 0 where
  pub message : BlockMessage
  pub stored : Has own message
  pub said : block.Certificate
  pub says_so : message.said ≡ Fragment said
  pub speaks : speaks_for says p message ≡ true
  pub from : said.index ≤ index
  pub to : index < said.index + length said.fragment

pub record Claims (says : Answers) (own : List BlockMessage) (p : List ℕ) : Type 0 where
  pub block_is : IsPayloadBlock p
  pub trusts : says.trusted p ≡ true
  pub spoken : (index : ℕ) → 1 ≤ index → index ≤ length p → SpeaksAt says own p index

some_payload : (o : Option PayloadValue) → is_some o ≡ true → (value : PayloadValue) × (o ≡ Some value)
some_payload None e = absurd (cc)
some_payload (Some value) e = (value, refl)

abbrev within : ℕ → block.Certificate → Bool
within i c = nat_le c.index i && nat_lt i (c.index + length c.fragment)

pub of_claims : (says : Answers) (own : List BlockMessage) (p : List ℕ) → claims says p own ≡ true → Claims says own p
unfolding claims cover
of_claims says own p e =
    let speaking = filter (speaks_for says p) own in
    let all = list_all (has_index (certificates speaking)) (range_with_len 1 (length p)) in
    let outer = and_parts (is_payload p && says.trusted p) all e in
    let inner = and_parts (is_payload p) (says.trusted p) outer.0 in
    record {
      block_is = some_payload (payload_in p) inner.0;
      trusts = inner.1;
      spoken = λ index low high.
          (let w : (c : block.Certificate) × Has (certificates speaking) c × (within index c ≡ true)
          = any_member (within index) (certificates speaking)
          (all_member (has_index (certificates speaking)) (range_with_len 1 (length p)) outer.1 index (in_range 1 (length p) index low (omega (arith, high)))) in
          let m : (b : BlockMessage) × Has speaking b × (certificate_of b.said ≡ Some w.0) = from_has-filter_map (λ (b : BlockMessage). certificate_of b.said) speaking w.0 w.1 in
          let f = from_has-filter (speaks_for says p) own m.0 m.1 in
          let at = and_parts (nat_le w.0.index index) (nat_lt index (w.0.index + length w.0.fragment)) w.2 in
          record {
            message = m.0;
            stored = f.0;
            said = w.0;
            says_so = fragment_of m.0.said w.0 m.2;
            speaks = f.1;
            from = leb-true w.0.index index at.0;
            to = ltb-true index (w.0.index + length w.0.fragment) at.1;
          });
    }

pub to_claims : (says : Answers) (own : List BlockMessage) (p : List ℕ) → Claims says own p → claims says p own ≡ true
unfolding claims cover
to_claims says own p is =
    let speaking = filter (speaks_for says p) own in
    let all = list_all (has_index (certificates speaking)) (range_with_len 1 (length p)) in
    and_from (is_payload p && says.trusted p) all
    (and_from (is_payload p) (says.trusted p) (ap is_some is.block_is.1) is.trusts)
    (member_all (has_index (certificates speaking)) (range_with_len 1 (length p)) (λ index h.
    (let r : (1 ≤ index) × (index < 1 + length p) = from_in_range 1 (length p) index h in
    let o = is.spoken index r.0 (omega (arith, r.1)) in
    member_any (within index) (certificates speaking) o.said
    (has-filter_map (λ (b : BlockMessage). certificate_of b.said) speaking o.message o.said
    (has-filter (speaks_for says p) own o.message o.stored o.speaks) (ap certificate_of o.says_so))
    (and_from (nat_le o.said.index index) (nat_lt index (o.said.index + length o.said.fragment))
    (le-leb o.said.index index o.from) (lt-ltb index (o.said.index + length o.said.fragment) o.to)))))

-- a payload block has an octet
no_payload : payload_in [] ≡ None
unfolding payload_in stamp_and_rest_in parts_at
no_payload = refl

pub some_octet : (p : List ℕ) → IsPayloadBlock p → 1 ≤ length p
some_octet [] is = absurd (let no : None ≡ Some is.0 = sym no_payload ∙ is.1 in cc)
some_octet (x ∷ p) is = omega arith

-- ---- what who speaks for it says

pub valid_speaker : (says : Answers) (p : List ℕ) (b : BlockMessage) → speaks_for says p b ≡ true → is_valid says p b ≡ true
valid_speaker says p b e = (and_parts (agrees_in p b.said) (is_valid says p b) e).1

pub speaker_says : (says : Answers) (p : List ℕ) (b : BlockMessage) (c : block.Certificate) → b.said ≡ Fragment c → 1 ≤ c.index → speaks_for says p b ≡ true → Says p c
speaker_says says p b c said some e =
    agreeing_says p c some (ap (agrees_in p) (sym said) ∙ (and_parts (agrees_in p b.said) (is_valid says p b) e).0)

module _ (says : Answers) (own : List BlockMessage) (are : AreWithin own) where
  abbrev s : Stated
  s = stated_by (certificates own)

  abbrev told : IsStatedBy s (certificates own)
  told = stated_by-IsStatedBy (certificates own)

  pub from_one : (b : BlockMessage) (c : block.Certificate) → Has own b → b.said ≡ Fragment c → 1 ≤ c.index
  from_one b c h e = (are b c (contains_from_has own b h) e).0

  module _ (p : List ℕ) (is : Claims says own p) where
    -- the octet at an index is stated, and so is the length
    record IsStatedAt (i : ℕ) : Type 0 where
      octet : ℕ
      has : HasOctet s (i + 1) octet
      stands : slice_get p i ≡ Some octet
      total : HasTotal s (length p)

    stated_at : (i : ℕ) → i < length p → IsStatedAt i
    stated_at i below =
        let o = is.spoken (i + 1) (omega arith) (omega (arith, below)) in
        let f : HasFragment own o.said = record { message = o.message; stored = o.stored; says_so = o.says_so } in
        let its = speaker_says says p o.message o.said o.says_so (from_one o.message o.said o.stored o.says_so) o.speaks in
        let w : (x : ℕ) × Has (placed o.said.index o.said.fragment) (i + 1, x) = has-placed o.said.index o.said.fragment (i + 1) o.from o.to in
        let at : i + 1 - 1 ≡ i = omega arith in
        record {
          octet = w.0;
          has = told.has_octet (i + 1, w.0) (has-octet own o.said (i + 1, w.0) f w.1);
          stands = ap (slice_get p) (sym at) ∙ (its.octet (i + 1) w.0 w.1).1;
          total = subst (HasTotal s) its.total (told.has_total o.said.total (has-total own o.said f));
        }

    index_is : (i : ℕ) (o : ℕ) → slice_get p i ≡ Some o → slice_index p i ≡ o
    index_is i o e = get_or_from_slice_get p i o 0 e

    length_stated : HasTotal s (length p)
    length_stated = (stated_at 0 (some_octet p is.block_is)).total

    gapless : ¬ IsDisputed s → HasGap s → ⊥
    unfolding HasGap
    gapless undisputed (inl none) = none (length p) length_stated
    gapless undisputed (inr g) =
        let long : g.0 ≡ length p = one_total s g.0 (length p) undisputed g.2 length_stated in
        let o = stated_at (g.1 - 1) (omega (arith, g.3, g.4, long)) in
        let at : g.1 - 1 + 1 ≡ g.1 = omega (arith, g.3) in
        g.5 o.octet (subst (λ i. HasOctet s i o.octet) at o.has)

    -- where nothing contradicts it, it is the one text that is stated
    states_text : ¬ IsDisputed s → StatesText s p
    states_text undisputed = record {
      undisputed = undisputed;
      gapless = gapless undisputed;
      text_is = record {
        total = length_stated;
        octets = λ i below. (let o = stated_at i below in subst (HasOctet s (i + 1)) (sym (index_is i o.octet o.stands)) o.has);
      };
    }

    covered : IsCovered says own p
    covered index low high =
        let o = is.spoken index low high in
        record {
          message = o.message;
          stored = contains_from_has own o.message o.stored;
          said = o.said;
          says_so = o.says_so;
          valid = sym (ap (λ (x : BlockContent). says.valid p o.message.signed (signature_of x)) o.says_so) ∙ valid_speaker says p o.message o.speaks;
          from = o.from;
          to = o.to;
        }

    -- and the session is joined under it
    pub joined_claimed : ¬ IsDisputed s → joined says own ≡ Ok p
    joined_claimed undisputed = joined_under says own p (states_text undisputed, is.block_is, is.trusts, covered)

  -- ---- nothing contradicts what all say

  module _ (p : List ℕ) (all : (c : block.Certificate) → HasFragment own c → Says p c) where
    octet_says : (i o : ℕ) → HasOctet s i o → (1 ≤ i) × (slice_get p (i - 1) ≡ Some o)
    octet_says i o h =
        let w = octet_of own (i, o) (told.octet i o h) in
        (all w.0 w.1).octet i o w.2

    total_says : (t : ℕ) → HasTotal s t → t ≡ length p
    total_says t h =
        let w = total_of own t (told.total t h) in
        sym w.2 ∙ (all w.0 w.1).total

    pub undisputed_where_all_agree : IsDisputed s → ⊥
    unfolding IsDisputed
    undisputed_where_all_agree (inl d) = d.4 (total_says d.0 d.2 ∙ sym (total_says d.1 d.3))
    undisputed_where_all_agree (inr d) = d.5 (same_Some d.1 d.2 (sym (octet_says d.0 d.1 d.3).1 ∙ (octet_says d.0 d.2 d.4).1))

  -- ---- two claimants contradict each other

  pub two_dispute : (p q : List ℕ) → Claims says own p → Claims says own q → (p ≡ q → ⊥) → IsDisputed s
  unfolding IsDisputed
  two_dispute p q is_p is_q differ =
      elim (cases_eq (length p) (length q)) [
        | inr apart ↦ inl (length p, length q, length_stated p is_p, length_stated q is_q, apart)
        | inl same ↦ (
            let d = differ_at p q same differ in
            let a = stated_at p is_p d.0 d.1 in
            let b = stated_at q is_q d.0 (omega (arith, d.1, same)) in
            inr (
              d.0 + 1,
              a.octet,
              b.octet,
              a.has,
              b.has,
              λ e.
                  d.2 (index_is p is_p d.0 a.octet a.stands ∙ e ∙ sym (index_is q is_q d.0 b.octet b.stands)),
            ))
      ]

-- ---- states

disputed_is : (r : Result (List ℕ) SessionState) → state_in r ≡ states.Disputed → r ≡ Err states.Disputed
disputed_is (Ok text) e = absurd (let no : states.Joined ≡ states.Disputed = e in cc)
disputed_is (Err state) e = ap Err e

pub joined_disputed : (says : Answers) (bs : List BlockMessage) → IsDisputed (stated_by (certificates bs)) → joined says bs ≡ Err states.Disputed
joined_disputed says bs d = disputed_is (joined says bs) (in_state says bs states.Disputed d)
