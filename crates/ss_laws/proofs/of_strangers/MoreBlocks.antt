-- The blocks of a session, and those to which strangers added some: what claims it, and under what it is joined.
use Rattle.std.proofs.Common.{◌≡◌, ◌⊎◌, inl, inr, ℕ, true, List, sym, ap, ◌∙◌, subst}
use Rattle.std.specs.Prelude.{Ok, Err}
use Rattle.std.proofs.lemmas.Bool.{and_parts, and_from, both_ways}
use Rattle.ss_block.specs.Block as block
use Rattle.ss_block.specs.declared.hash.Hash.{Hash}
use Rattle.ss_block.specs.declared.session.Session.{Session}
use Rattle.ss_block.specs.Joining.{HasTotal, HasOctet, IsDisputed}
use Rattle.ss_block.specs.OrderLaws.{hash_cmp_total}
use Rattle.ss_review.specs.keep.BlockMessage.{BlockMessage, Hashes}
use Rattle.ss_review.specs.declared.report.session_report.SessionState.TheVariants as states
use Rattle.ss_review.specs.announced.Announced.{Key, Row, rows, keys, hashes_for}
use Rattle.ss_review.specs.announced.Announcing.{Announces}
use Rattle.ss_review.specs.keep.Contents.{Contents}
use Rattle.ss_review.specs.sessions.Payloads.{certificates}
use Rattle.ss_review.specs.sessions.Sessions.{same_session, of_session}
use Rattle.ss_review.specs.sessions.States.{stated_by}
use Rattle.ss_review.specs.sessions.Verified.{Answers, signature_of, is_valid, joined, is_valid_in, is_verified}
use Rattle.ss_octets.proofs.Members.{Has, has_from_contains, contains_from_has, has-filter, from_has-filter}
use Rattle.ss_review.proofs.of_lists.Rising.{same_members}
use Rattle.ss_review.proofs.of_numbers.Announcements.{announced_row, has-rows, rows-rise, announced_key, has-announced_key, from_has-hashes_for, has-hashes_for, hashes_for-rise}
use Rattle.ss_review.proofs.of_reports.Witnesses.{verified_cases}
use Rattle.ss_review.proofs.of_sessions.Stating.{IsStatedBy, stated_by-IsStatedBy}
use Rattle.ss_review.proofs.of_sessions.StatesTold.{payload_told}
use Rattle.ss_review.proofs.of_sessions.Fragments.{HasFragment, total_of, has-total, octet_of, has-octet, StatesTotal}
use Rattle.ss_review.specs.pinned.Pinned.{agrees_in, speaks_for, kept}
use Rattle.ss_laws.specs.strangers.StateLaws.{pinned_joined, IsJoinedByGiven}
use Rattle.ss_review.specs.pinned.Claimants.{AreWithin, IsClaimant, IsOnlyClaimant, AreClaimants}
use Rattle.ss_laws.specs.strangers.Strangers.{AreCopies, IsForeign, IsAddedTo}
use Rattle.ss_review.proofs.of_pinned.Claims.{Claims, of_claims, to_claims, joined_claimed, valid_speaker}
use Rattle.ss_laws.proofs.of_strangers.JoinedByGiven.{own_within, joined_by_given}
use Rattle.ss_laws.proofs.of_strangers.ReportsAgree.{from_has-kept, has-kept, hashes_kept, joined_claims}

-- ---- copies

pub valid_copy : (says : Answers) (p : List ℕ) (b c : BlockMessage) → AreCopies b c → is_valid says p b ≡ is_valid says p c
valid_copy says p b c are = λ i. says.valid p (are.signed i) (signature_of (are.said i))

speaker_copy : (says : Answers) (p : List ℕ) (b c : BlockMessage) → AreCopies b c → speaks_for says p b ≡ true → speaks_for says p c ≡ true
speaker_copy says p b c are e =
    let both = and_parts (agrees_in p b.said) (is_valid says p b) e in
    and_from (agrees_in p c.said) (is_valid says p c) (ap (agrees_in p) (sym are.said) ∙ both.0) (sym (valid_copy says p b c are) ∙ both.1)

pub turned_copy : (b c : BlockMessage) → AreCopies b c → AreCopies c b
turned_copy b c are = record { session = sym are.session; said = sym are.said; signed = sym are.signed }

-- each of the first blocks has a copy among the others, which are copies or foreign
pub record HaveMore (says : Answers) (bs ds : List BlockMessage) : Type 0 where
  pub stays : (b : BlockMessage) → Has bs b → (c : BlockMessage) × Has ds c × AreCopies b c
  pub added : (c : BlockMessage) → Has ds c → ((b : BlockMessage) × Has bs b × AreCopies b c) ⊎ IsForeign says c

module _ (says : Answers) (bs ds : List BlockMessage) (more : HaveMore says bs ds) where
  abbrev of : List BlockMessage → Session → List BlockMessage
  of xs s = of_session xs s

  pub more_of_session : (s : Session) → HaveMore says (of bs s) (of ds s)
  more_of_session s = record { stays = there; added = back }
    where
      there : (b : BlockMessage) → Has (of bs s) b → (c : BlockMessage) × Has (of ds s) c × AreCopies b c
      there b h =
          let f = from_has-filter (λ (d : BlockMessage). same_session d.session s) bs b h in
          let w = more.stays b f.0 in
          (w.0, has-filter (λ (d : BlockMessage). same_session d.session s) ds w.0 w.1 (ap (λ t. same_session t s) (sym w.2.session) ∙ f.1), w.2)

      back : (c : BlockMessage) → Has (of ds s) c → ((b : BlockMessage) × Has (of bs s) b × AreCopies b c) ⊎ IsForeign says c
      back c h =
          let f = from_has-filter (λ (d : BlockMessage). same_session d.session s) ds c h in
          elim (more.added c f.0) [
            | inl w ↦ inl (w.0, has-filter (λ (d : BlockMessage). same_session d.session s) bs w.0 w.1 (ap (λ t. same_session t s) w.2.session ∙ f.1), w.2)
            | inr foreign ↦ inr foreign
          ]

  -- a block that is valid under a trusted payload is a copy
  pub not_foreign : (p : List ℕ) (c : BlockMessage) → Has ds c → says.trusted p ≡ true → is_valid says p c ≡ true → (b : BlockMessage) × Has bs b × AreCopies b c
  not_foreign p c h trusts valid =
      elim (more.added c h) [
        | inl w ↦ w
        | inr foreign ↦ absurd (both_ways (is_valid says p c) (foreign p trusts) valid)
      ]

  -- ---- claims

  pub claims_up : (p : List ℕ) → Claims says bs p → Claims says ds p
  claims_up p is = record {
    block_is = is.block_is;
    trusts = is.trusts;
    spoken = λ index low high.
        (let o = is.spoken index low high in
        let w = more.stays o.message o.stored in
        record {
          message = w.0;
          stored = w.1;
          said = o.said;
          says_so = sym w.2.said ∙ o.says_so;
          speaks = speaker_copy says p o.message w.0 w.2 o.speaks;
          from = o.from;
          to = o.to;
        });
  }

  pub claims_down : (p : List ℕ) → Claims says ds p → Claims says bs p
  claims_down p is = record {
    block_is = is.block_is;
    trusts = is.trusts;
    spoken = λ index low high.
        (let o = is.spoken index low high in
        let w = not_foreign p o.message o.stored is.trusts (valid_speaker says p o.message o.speaks) in
        record {
          message = w.0;
          stored = w.1;
          said = o.said;
          says_so = w.2.said ∙ o.says_so;
          speaks = speaker_copy says p o.message w.0 (turned_copy w.0 o.message w.2) o.speaks;
          from = o.from;
          to = o.to;
        });
  }

  -- ---- disputes

  abbrev told_bs : IsStatedBy (stated_by (certificates bs)) (certificates bs)
  told_bs = stated_by-IsStatedBy (certificates bs)

  abbrev told_ds : IsStatedBy (stated_by (certificates ds)) (certificates ds)
  told_ds = stated_by-IsStatedBy (certificates ds)

  fragment_up : (c : block.Certificate) → HasFragment bs c → HasFragment ds c
  fragment_up c f =
      let w = more.stays f.message f.stored in
      record { message = w.0; stored = w.1; says_so = sym w.2.said ∙ f.says_so }

  total_up : (t : ℕ) → HasTotal (stated_by (certificates bs)) t → HasTotal (stated_by (certificates ds)) t
  total_up t h =
      let w = total_of bs t (told_bs.total t h) in
      told_ds.has_total t (subst (StatesTotal ds) w.2 (has-total ds w.0 (fragment_up w.0 w.1)))

  octet_up : (i o : ℕ) → HasOctet (stated_by (certificates bs)) i o → HasOctet (stated_by (certificates ds)) i o
  octet_up i o h =
      let w = octet_of bs (i, o) (told_bs.octet i o h) in
      told_ds.has_octet (i, o) (has-octet ds w.0 (i, o) (fragment_up w.0 w.1) w.2)

  dispute_up : IsDisputed (stated_by (certificates bs)) → IsDisputed (stated_by (certificates ds))
  unfolding IsDisputed
  dispute_up (inl d) = inl (d.0, d.1, total_up d.0 d.2, total_up d.1 d.3, d.4)
  dispute_up (inr d) = inr (d.0, d.1, d.2, octet_up d.0 d.1 d.3, octet_up d.0 d.2 d.4, d.5)

  -- ---- joining

  -- what joins it with the others joins it without them
  pub joined_down : AreWithin bs → AreWithin ds → (p : List ℕ) → joined says ds ≡ Ok p → joined says bs ≡ Ok p
  joined_down low high p e =
      joined_claimed says bs low p (claims_down p (joined_claims says ds high p e))
      (λ d. (payload_told says ds p e).0.undisputed (dispute_up d))

-- ---- two logs

module _ (says : Answers) (ps : List (List ℕ)) (log more : Contents) (is : IsAddedTo says ps log more) where
  abbrev B : List BlockMessage
  B = log.blocks

  abbrev M : List BlockMessage
  M = more.blocks

  all_more : HaveMore says B M
  all_more = record {
    stays = λ b h. (let w = is.has_more.stays b (contains_from_has B b h) in (w.0, has_from_contains M w.0 w.1, w.2));
    added = λ c h. (elim (is.has_more.added c (contains_from_has M c h)) [
      | inl w ↦ inl (w.0, has_from_contains B w.0 w.1, w.2)
      | inr foreign ↦ inr foreign
    ]);
  }

  module _ (s : Session) where
    own_more : HaveMore says (of_session B s) (of_session M s)
    own_more = more_of_session says B M all_more s

    pub claimant_up : (p : List ℕ) → IsClaimant says ps (of_session B s) p → IsClaimant says ps (of_session M s) p
    claimant_up p c = record {
      given = c.given;
      claims_it = to_claims says (of_session M s) p (claims_up says (of_session B s) (of_session M s) own_more p (of_claims says (of_session B s) p c.claims_it));
    }

    claimant_down : (p : List ℕ) → IsClaimant says ps (of_session M s) p → IsClaimant says ps (of_session B s) p
    claimant_down p c = record {
      given = c.given;
      claims_it = to_claims says (of_session B s) p (claims_down says (of_session B s) (of_session M s) own_more p (of_claims says (of_session M s) p c.claims_it));
    }

    only_up : (p : List ℕ) → IsOnlyClaimant says ps (of_session B s) p → IsOnlyClaimant says ps (of_session M s) p
    only_up p one = record { is = claimant_up p one.is; only = λ q c. one.only q (claimant_down q c) }

    two_up : (p q : List ℕ) → AreClaimants says ps (of_session B s) p q → AreClaimants says ps (of_session M s) p q
    two_up p q two = record { first = claimant_up p two.first; second = claimant_up q two.second; differ = two.differ }

    abbrev before : IsJoinedByGiven says ps B s
    before = joined_by_given says ps B s is.within

    abbrev after : IsJoinedByGiven says ps M s
    after = joined_by_given says ps M s is.more_within

    -- a session that a given payload claims has the state and the payload that it had
    pub claimed_stays : (p : List ℕ) → IsClaimant says ps (of_session B s) p → pinned_joined says ps M s ≡ pinned_joined says ps B s
    claimed_stays p c =
        elim before.cases [
          | inl one ↦ after.one one.0 (only_up one.0 one.1) ∙ sym (before.one one.0 one.1)
          | inr others ↦ (elim others [
            | inl two ↦ after.two two.0 two.1 (two_up two.0 two.1 two.2) ∙ sym (before.two two.0 two.1 two.2)
            | inr none ↦ absurd (none p c)
          ])
        ]

    -- a session that is joined was joined before, under the same payload
    pub joined_before : (q : List ℕ) → pinned_joined says ps M s ≡ Ok q → pinned_joined says ps B s ≡ Ok q
    joined_before q e =
        elim before.cases [
          | inl one ↦ before.one one.0 one.1 ∙ sym (after.one one.0 (only_up one.0 one.1)) ∙ e
          | inr others ↦ (elim others [
            | inl two ↦ absurd (let no : Err states.Disputed ≡ Ok q = sym (after.two two.0 two.1 (two_up two.0 two.1 two.2)) ∙ e in cc)
            | inr none ↦ (
                let all : joined says (of_session M s) ≡ Ok q = ap (joined says) (sym (after.none (λ p c. none p (claimant_down p c)))) ∙ e in
                ap (joined says) (before.none none)
                ∙ joined_down says (of_session B s) (of_session M s) own_more (own_within says ps B s is.within) (own_within says ps M s is.more_within) q all)
          ])
        ]

  -- ---- what is announced

  abbrev pub K : List BlockMessage
  K = kept says ps B

  abbrev pub L : List BlockMessage
  L = kept says ps M

  verified_by : (bs : List BlockMessage) (b : BlockMessage) (q : List ℕ) → joined says (of_session bs b.session) ≡ Ok q → is_valid says q b ≡ true → is_verified says bs b ≡ true
  unfolding is_verified
  verified_by bs b q e v = ap (λ r. is_valid_in says r b) e ∙ v

  -- a verified signature block of the session among these says the same
  pub record HasCopy (bs : List BlockMessage) (b : BlockMessage) : Type 0 where
    pub copy : BlockMessage
    pub stored : Has bs copy
    pub copies : AreCopies b copy
    pub verified : is_verified says bs copy ≡ true

  -- in a session that has the state and the payload that it had
  pub verified_still : (b : BlockMessage) (said : block.Signature) → pinned_joined says ps M b.session ≡ pinned_joined says ps B b.session → Has K b → b.said ≡ Hashes said → is_verified says K b ≡ true → HasCopy L b
  verified_still b said same h says_so verified =
      let w = is.has_more.stays b (contains_from_has B b (from_has-kept says ps B b h).0) in
      let c = w.0 in
      let v = verified_cases says K b verified in
      let under : joined says (of_session L c.session) ≡ Ok v.0 = ap (λ s. pinned_joined says ps M s) (sym w.2.session) ∙ same ∙ v.1 in
      record {
        copy = c;
        stored = has-kept says ps M c (has_from_contains M c w.1) (hashes_kept says ps M c said (sym w.2.said ∙ says_so));
        copies = w.2;
        verified = verified_by L c v.0 under (sym (valid_copy says v.0 b c w.2) ∙ v.2);
      }

  -- what is verified was verified before, in a session with the same state and payload
  pub record WasVerified (c : BlockMessage) : Type 0 where
    pub copy : HasCopy K c
    pub same : pinned_joined says ps M c.session ≡ pinned_joined says ps B c.session

  pub verified_before : (c : BlockMessage) (said : block.Signature) → Has L c → c.said ≡ Hashes said → is_verified says L c ≡ true → WasVerified c
  verified_before c said h says_so verified =
      let inside = from_has-kept says ps M c h in
      let v = verified_cases says L c verified in
      let now : pinned_joined says ps M c.session ≡ Ok v.0 = v.1 in
      let trusts = (payload_told says (of_session L c.session) v.0 now).2 in
      let w = not_foreign says B M all_more v.0 c inside.0 trusts v.2 in
      let b = w.0 in
      let past : pinned_joined says ps B c.session ≡ Ok v.0 = joined_before c.session v.0 now in
      let under : joined says (of_session K b.session) ≡ Ok v.0 = ap (λ s. pinned_joined says ps B s) w.2.session ∙ past in
      record {
        copy = record {
          copy = b;
          stored = has-kept says ps B b w.1 (hashes_kept says ps B b said (w.2.said ∙ says_so));
          copies = turned_copy b c w.2;
          verified = verified_by K b v.0 under (valid_copy says v.0 b c w.2 ∙ v.2);
        };
        same = now ∙ sym past;
      }

  -- what a block announces, its copy does
  copy_announces : (bs ds : List BlockMessage) (k : Key) (h : Hash) (a : Announces says bs k h) → HasCopy ds a.message → Announces says ds k h
  copy_announces bs ds k h a w = record {
    message = w.copy;
    stored = contains_from_has ds w.copy w.stored;
    verified = w.verified;
    session_is = sym w.copies.session ∙ a.session_is;
    said = a.said;
    says_so = sym w.copies.said ∙ a.says_so;
    group_is = a.group_is;
    index = a.index;
    number = a.number;
    hash = a.hash;
  }

  abbrev pub IsSame : Session → Type 0
  IsSame s = pinned_joined says ps M s ≡ pinned_joined says ps B s

  -- of a session that has the state and the payload that it had
  pub announced_still : (k : Key) (h : Hash) → IsSame k.session → Announces says K k h → Announces says L k h
  announced_still k h same a =
      copy_announces K L k h a (verified_still a.message a.said (subst IsSame (sym a.session_is) same) (has_from_contains K a.message a.stored) a.says_so a.verified)

  -- what is announced was announced before, and the session has the state and the payload that it had
  pub record WasAnnounced (k : Key) (h : Hash) : Type 0 where
    pub announced : Announces says K k h
    pub same : IsSame k.session

  pub announced_before : (k : Key) (h : Hash) → Announces says L k h → WasAnnounced k h
  announced_before k h a =
      let w = verified_before a.message a.said (has_from_contains L a.message a.stored) a.says_so a.verified in
      record { announced = copy_announces L K k h a w.copy; same = subst IsSame a.session_is w.same }

  abbrev pub rs : List Row
  rs = rows says K

  abbrev pub rs_more : List Row
  rs_more = rows says L

  -- ---- keys

  pub key_before : (k : Key) → Has (keys rs_more) k → Has (keys rs) k × IsSame k.session
  key_before k h =
      let a = announced_key says L k h in
      let w = announced_before k a.0 a.1 in
      (has-announced_key says K k (a.0, w.announced), w.same)

  pub key_still : (k : Key) → IsSame k.session → Has (keys rs) k → Has (keys rs_more) k
  key_still k same h =
      let a = announced_key says K k h in
      has-announced_key says L k (a.0, announced_still k a.0 same a.1)

  -- the same is announced for a key
  pub same_hashes : (k : Key) → IsSame k.session → hashes_for rs_more k ≡ hashes_for rs k
  same_hashes k same =
      same_members hash_cmp_total (hashes_for rs_more k) (hashes_for rs k) (hashes_for-rise rs_more k (rows-rise says L)) (hashes_for-rise rs k (rows-rise says K))
      (λ h i. has-hashes_for rs k h (has-rows says K k h (announced_before k h (announced_row says L (record { key = k; hash = h }) (from_has-hashes_for rs_more k h i))).announced))
      (λ h i. has-hashes_for rs_more k h (has-rows says L k h (announced_still k h same (announced_row says K (record { key = k; hash = h }) (from_has-hashes_for rs k h i)))))
