-- Where no session is both disputed and claimed, a log has one report, whether payloads are given or not.
use Rattle.std.proofs.Common.{◌≡◌, ◌⊎◌, inl, inr, ℕ, ◌+◌, ◌-◌, ◌<◌, Bool, true, false, ◌&&◌, not, List, length, map, refl, sym, ap, ◌∙◌, subst, arith}
use Rattle.std.specs.Prelude.{Ok, Some, slice_index}
use Rattle.std.proofs.lemmas.Bool.{cases_Bool, and_from, false_from_ne_true, true≢false}
use Rattle.std.proofs.lemmas.Option.{slice_get-get_or, slice_get_within}
use Rattle.ss_block.specs.Block as block
use Rattle.ss_block.specs.declared.hash.Hash.{Hash}
use Rattle.ss_block.specs.declared.session.Session.{Session}
use Rattle.ss_block.specs.Joining.{placed}
use Rattle.ss_block.specs.OrderLaws.{session_cmp_total, session_cmp_exact}
use Rattle.ss_review.specs.keep.BlockMessage.{BlockMessage, BlockContent, Hashes, Fragment}
use Rattle.ss_review.specs.announced.Announced.{Key, rows}
use Rattle.ss_review.specs.announced.Announcing.{Announces}
use Rattle.ss_review.specs.report.Report.{groups, group_report, session_report, unlisted, refused, report_of}
use Rattle.ss_review.specs.sessions.Sessions.{same_session, sessions, of_session}
use Rattle.ss_review.specs.sessions.States.{HasValidOctet}
use Rattle.ss_review.specs.sessions.Verified.{Answers, signature_of, is_valid, joined, state_in, is_valid_in, is_verified}
use Rattle.ss_octets.proofs.Members.{Has, has_from_contains, contains_from_has, has-map, from_has-map, has-filter, from_has-filter}
use Rattle.ss_review.proofs.of_lists.Mapped.{filter_agree}
use Rattle.ss_review.proofs.of_lists.Rising.{same_members, in_order_same}
use Rattle.ss_review.proofs.of_lists.Sections.{map_agree}
use Rattle.ss_review.proofs.of_lists.TotalOrders.{row_cmp_total}
use Rattle.ss_review.proofs.of_numbers.Announcements.{announced_row, has-rows, rows-rise}
use Rattle.ss_review.proofs.of_sessions.StatesTold.{payload_told}
use Rattle.ss_review.proofs.of_sessions.Fragments.{HasFragment, fits_stated, has-total, has-octet}
use Rattle.ss_review.specs.pinned.Pinned.{agrees_in, speaks_for, is_signature, keeps, kept, pinned_contents, is_verified_pinned, refused_pinned}
use Rattle.ss_review.specs.pinned.Claimants.{AreWithin, IsClaimant}
use Rattle.ss_laws.specs.strangers.StateLaws.{IsUndisputedOrUnclaimed, ReportsAgree}
use Rattle.ss_review.proofs.of_pinned.Agreeing.{Says, from_placed, says_agreeing}
use Rattle.ss_review.proofs.of_pinned.Claims.{Claims, some_octet}
use Rattle.ss_review.proofs.of_pinned.KeptOfSessions.{session_is, is_session, claims_of, speaker_kept, signature_kept, unclaimed_kept, how_many}
use Rattle.ss_laws.proofs.of_strangers.JoinedByGiven.{own_within, claimed_undisputed, states_agree}

-- ---- rows

-- blocks that announce the same have the same rows
pub same_rows : (says : Answers) (bs ds : List BlockMessage)
    → ((k : Key) (h : Hash) → Announces says bs k h → Announces says ds k h) → ((k : Key) (h : Hash) → Announces says ds k h → Announces says bs k h)
    → rows says bs ≡ rows says ds
same_rows says bs ds there back =
    same_members row_cmp_total (rows says bs) (rows says ds) (rows-rise says bs) (rows-rise says ds)
    (λ r h. has-rows says ds r.key r.hash (there r.key r.hash (announced_row says bs r h)))
    (λ r h. has-rows says bs r.key r.hash (back r.key r.hash (announced_row says ds r h)))

-- ---- kept blocks

pub verified_is : (says : Answers) (bs ds : List BlockMessage) (b : BlockMessage) → joined says (of_session bs b.session) ≡ joined says (of_session ds b.session) → is_verified says bs b ≡ is_verified says ds b
unfolding is_verified
verified_is says bs ds b e = ap (λ r. is_valid_in says r b) e

module _ (says : Answers) (ps : List (List ℕ)) (bs : List BlockMessage) where
  abbrev pub keeps_it : BlockMessage → Bool
  keeps_it b = keeps says ps (of_session bs b.session) b

  pub from_has-kept : (b : BlockMessage) → Has (kept says ps bs) b → Has bs b × (keeps_it b ≡ true)
  from_has-kept b h = from_has-filter keeps_it bs b h

  pub has-kept : (b : BlockMessage) → Has bs b → keeps_it b ≡ true → Has (kept says ps bs) b
  has-kept b h e = has-filter keeps_it bs b h e

  pub hashes_kept : (b : BlockMessage) (said : block.Signature) → b.said ≡ Hashes said → keeps_it b ≡ true
  hashes_kept b said e = signature_kept says ps (of_session bs b.session) b (ap is_signature e)

  -- a session of which a block is left out has a claimant
  pub left_out_claimed : (b : BlockMessage) → keeps_it b ≡ false → (p : List ℕ) × IsClaimant says ps (of_session bs b.session) p
  left_out_claimed b e =
      elim (how_many says ps (of_session bs b.session)) [
        | inl one ↦ (one.0, one.1.is)
        | inr more ↦ (elim more [
          | inl two ↦ (two.0, two.2.first)
          | inr none ↦ absurd (true≢false (sym (unclaimed_kept says ps (of_session bs b.session) none b) ∙ e))
        ])
      ]

  -- no session is lost, because its claimant's blocks are kept
  session_kept : (s : Session) → Has (map (λ (b : BlockMessage). b.session) bs) s → Has (map (λ (b : BlockMessage). b.session) (kept says ps bs)) s
  session_kept s h =
      let w : (b : BlockMessage) × Has bs b × (b.session ≡ s) = from_has-map (λ (b : BlockMessage). b.session) bs s h in
      elim (cases_Bool (keeps_it w.0)) [
        | inl t ↦ subst (Has (map (λ (b : BlockMessage). b.session) (kept says ps bs))) w.2 (has-map (λ (b : BlockMessage). b.session) (kept says ps bs) w.0 (has-kept w.0 w.1 t))
        | inr f ↦ (
            let own = of_session bs w.0.session in
            let c = left_out_claimed w.0 f in
            let its = claims_of says ps own c.0 c.1 in
            let o = its.spoken 1 (omega arith) (some_octet c.0 its.block_is) in
            let i = from_has-filter (λ (d : BlockMessage). same_session d.session w.0.session) bs o.message o.stored in
            let same : o.message.session ≡ w.0.session = session_is o.message.session w.0.session i.1 in
            let k : keeps_it o.message ≡ true = ap (λ t. keeps says ps (of_session bs t) o.message) same ∙ speaker_kept says ps own c.0 c.1 o.message o.speaks in
            subst (Has (map (λ (b : BlockMessage). b.session) (kept says ps bs))) (same ∙ w.2) (has-map (λ (b : BlockMessage). b.session) (kept says ps bs) o.message (has-kept o.message i.0 k)))
      ]

  pub same_sessions : sessions (kept says ps bs) ≡ sessions bs
  same_sessions =
      in_order_same session_cmp_total session_cmp_exact (map (λ (b : BlockMessage). b.session) (kept says ps bs)) (map (λ (b : BlockMessage). b.session) bs)
      (λ s h. (let w : (b : BlockMessage) × Has (kept says ps bs) b × (b.session ≡ s) = from_has-map (λ (b : BlockMessage). b.session) (kept says ps bs) s h in
      subst (Has (map (λ (b : BlockMessage). b.session) bs)) w.2 (has-map (λ (b : BlockMessage). b.session) bs w.0 (from_has-kept w.0 w.1).0)))
      session_kept

  -- ---- where each session has the state that it has without given payloads

  module _ (states : (s : Session) → joined says (of_session (kept says ps bs) s) ≡ joined says (of_session bs s)) where
    announced_too : (k : Key) (h : Hash) → Announces says (kept says ps bs) k h → Announces says bs k h
    announced_too k h a = record {
      message = a.message;
      stored = contains_from_has bs a.message (from_has-kept a.message (has_from_contains (kept says ps bs) a.message a.stored)).0;
      verified = sym (verified_is says (kept says ps bs) bs a.message (states a.message.session)) ∙ a.verified;
      session_is = a.session_is;
      said = a.said;
      says_so = a.says_so;
      group_is = a.group_is;
      index = a.index;
      number = a.number;
      hash = a.hash;
    }

    announced_still : (k : Key) (h : Hash) → Announces says bs k h → Announces says (kept says ps bs) k h
    announced_still k h a = record {
      message = a.message;
      stored = contains_from_has (kept says ps bs) a.message (has-kept a.message (has_from_contains bs a.message a.stored) (hashes_kept a.message a.said a.says_so));
      verified = verified_is says (kept says ps bs) bs a.message (states a.message.session) ∙ a.verified;
      session_is = a.session_is;
      said = a.said;
      says_so = a.says_so;
      group_is = a.group_is;
      index = a.index;
      number = a.number;
      hash = a.hash;
    }

    pub kept_rows : rows says (kept says ps bs) ≡ rows says bs
    kept_rows = same_rows says (kept says ps bs) bs announced_too announced_still

-- ---- what is left out is unverified

-- a certificate block of a session in which nothing is disputed agrees with the payload under which it is joined
pub agreeing : (says : Answers) (own : List BlockMessage) (are : AreWithin own) (p : List ℕ) → joined says own ≡ Ok p → (b : BlockMessage) (c : block.Certificate) → Has own b → b.said ≡ Fragment c → agrees_in p b.said ≡ true
agreeing says own are p e b c h said =
    let fits = fits_stated own p (payload_told says own p e).0 in
    let f : HasFragment own c = record { message = b; stored = h; says_so = said } in
    let total : c.total ≡ length p = fits.total c.total (has-total own c f) in
    let range = are b c (contains_from_has own b h) said in
    let some = range.0 in
    let end = range.1 in
    let its : Says p c = record {
      total = total;
      octet = λ i o g.
          (let w = from_placed c.index c.fragment i o g in
          let at = w.1 in
          let inside = slice_get_within c.fragment w.0 o w.2 in
          let here : i ≡ i - 1 + 1 = omega (arith, at, some) in
          let below : i - 1 < length p = omega (arith, at, some, end, inside, total) in
          let is : slice_index p (i - 1) ≡ o = fits.octet (i - 1) o (has-octet own c (i - 1 + 1, o) f (subst (λ n. Has (placed c.index c.fragment) (n, o)) here g)) below in
          (omega (arith, at, some), slice_get-get_or p (i - 1) 0 below ∙ ap (λ (n : ℕ). Some n) is));
    } in
    ap (agrees_in p) said ∙ says_agreeing p c some its

-- a payload under which a session is joined claims it
pub joined_claims : (says : Answers) (ds : List BlockMessage) → AreWithin ds → (p : List ℕ) → joined says ds ≡ Ok p → Claims says ds p
joined_claims says ds are p e =
    let under = payload_told says ds p e in
    record {
      block_is = under.1;
      trusts = under.2;
      spoken = λ index low high.
          (let o : HasValidOctet says ds p index = under.3 index low high in
          let h = has_from_contains ds o.message o.stored in
          record {
            message = o.message;
            stored = h;
            said = o.said;
            says_so = o.says_so;
            speaks = and_from (agrees_in p o.message.said) (is_valid says p o.message)
                (agreeing says ds are p e o.message o.said h o.says_so)
                (ap (λ (x : BlockContent). says.valid p o.message.signed (signature_of x)) o.says_so ∙ o.valid);
            from = o.from;
            to = o.to;
          });
    }

said_cases : (said : BlockContent) → ((d : block.Signature) × (said ≡ Hashes d)) ⊎ ((c : block.Certificate) × (said ≡ Fragment c))
said_cases (Hashes d) = inl (d, refl)
said_cases (Fragment c) = inr (c, refl)

module _ (says : Answers) (ps : List (List ℕ)) (bs : List BlockMessage) (are : AreWithin bs) (each : (s : Session) → IsUndisputedOrUnclaimed says ps bs s) where
  abbrev now : BlockMessage → Bool
  now b = keeps_it says ps bs b

  left_out : (b : BlockMessage) → Has bs b → now b ≡ false → is_verified says bs b ≡ false
  unfolding is_verified
  left_out b h e =
      let own = of_session bs b.session in
      let mine : Has own b = has-filter (λ (d : BlockMessage). same_session d.session b.session) bs b h (is_session b.session b.session refl) in
      let c = left_out_claimed says ps bs b e in
      let under : joined says own ≡ Ok c.0 = elim (each b.session) [
        | inl undisputed ↦ (claimed_undisputed says ps bs b.session are undisputed c.0 c.1).1
        | inr none ↦ absurd (none c.0 c.1)
      ] in
      ap (λ r. is_valid_in says r b) under
      ∙ false_from_ne_true (is_valid says c.0 b) (λ valid.
      (let said : (f : block.Certificate) × (b.said ≡ Fragment f) = elim (said_cases b.said) [
        | inl s ↦ absurd (true≢false (sym (hashes_kept says ps bs b s.0 s.1) ∙ e))
        | inr f ↦ f
      ] in
      let agree = agreeing says own (own_within says ps bs b.session are) c.0 under b said.0 mine said.1 in
      let speaks : speaks_for says c.0 b ≡ true = and_from (agrees_in c.0 b.said) (is_valid says c.0 b) agree valid in
      true≢false (sym (speaker_kept says ps own c.0 c.1 b speaks) ∙ e)))

  abbrev Stays : Type 0
  Stays = (s : Session) → joined says (of_session (kept says ps bs) s) ≡ joined says (of_session bs s)

  stays : Stays
  stays s = states_agree says ps bs s are (each s)

  by_kept : (t : Bool) (b : BlockMessage) → Has bs b → now b ≡ t → is_verified_pinned says ps bs b ≡ is_verified says bs b
  by_kept true b h e = ap (λ k. k && is_verified says (kept says ps bs) b) e ∙ verified_is says (kept says ps bs) bs b (stays b.session)
  by_kept false b h e = ap (λ k. k && is_verified says (kept says ps bs) b) e ∙ sym (left_out b h e)

  same_refused : refused_pinned says ps bs ≡ refused says bs
  same_refused =
      ap (map (λ (b : BlockMessage). b.place))
      (filter_agree (λ b. not (is_verified_pinned says ps bs b)) (λ b. not (is_verified says bs b)) bs (λ b h. ap not (by_kept (now b) b h refl)))

pub reports_agree : ReportsAgree
unfolding report_of
reports_agree says ps log are each =
    let K = kept says ps log.blocks in
    let rs : rows says K ≡ rows says log.blocks = kept_rows says ps log.blocks (stays says ps log.blocks are each) in
    let ss : sessions K ≡ sessions log.blocks = same_sessions says ps log.blocks in
    let told : map (session_report says (pinned_contents says ps log) (rows says K)) (sessions K) ≡ map (session_report says log (rows says log.blocks)) (sessions log.blocks)
    = ap (map (session_report says (pinned_contents says ps log) (rows says K))) ss
    ∙ map_agree (session_report says (pinned_contents says ps log) (rows says K)) (session_report says log (rows says log.blocks)) (sessions log.blocks) (λ s h.
    (λ i. record {
      session = s;
      state = state_in (stays says ps log.blocks are each s i);
      groups = map (group_report log.normal (rs i) s) (groups (rs i) s);
    })) in
    λ i. record {
      sessions = told i;
      unlisted = unlisted log.normal (rs i);
      refused = same_refused says ps log.blocks are each i;
      spoilt = log.spoilt;
      count = log.count;
    }
