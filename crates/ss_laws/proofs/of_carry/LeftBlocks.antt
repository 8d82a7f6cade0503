-- One more night: if what is left of a session's blocks is enough, it states and covers with the new ones what all do.
use Rattle.std.proofs.Common.{◌≡◌, ◌⊎◌, inl, inr, ℕ, ◌≤◌, List, length, refl, sym, ◌∙◌, subst, arith}
use Rattle.std.specs.Prelude.{Result, Ok, Err}
use Rattle.ss_block.specs.Block as block
use Rattle.ss_block.specs.Joining.{Stated, placed}
use Rattle.ss_review.specs.declared.report.session_report.SessionState.{SessionState}
use Rattle.ss_review.specs.keep.BlockMessage.{BlockMessage}
use Rattle.ss_review.specs.sessions.Payloads.{certificates}
use Rattle.ss_review.specs.sessions.Verified.{Answers, joined}
use Rattle.ss_review.specs.sessions.States.{stated_by, HasValidOctet, IsJoinedUnder}
use Rattle.ss_octets.proofs.Members.{Has, has_from_contains}
use Rattle.ss_review.proofs.of_sessions.Stating.{IsStatedBy, stated_by-IsStatedBy, has-placed, from_has-placed}
use Rattle.ss_review.proofs.of_sessions.StatesTold.{payload_told}
use Rattle.ss_review.proofs.of_sessions.Fragments.{StatesTotal, StatesOctet, HasFragment, total_of, has-total, octet_of, has-octet, fragment_in, one_octet, Fits, fits_stated, fits_within, fits_one}
use Rattle.ss_laws.proofs.of_carry.SameStates.{Alike, valid_in}

-- these blocks join the session
abbrev pub Joins : Answers → List BlockMessage → Type 0
Joins says bs = (text : List ℕ) × (joined says bs ≡ Ok text)

-- each certificate block is in the ranges of one
abbrev pub AreInRange : List BlockMessage → Type 0
AreInRange bs = (c : block.Certificate) → HasFragment bs c → block.IsCertificate c

-- what is left of the blocks of a session
pub record IsEnough (says : Answers) (bs : List BlockMessage) (kept : BlockMessage → Type 0) : Type 0 where
  pub unjudged : ¬ Joins says bs → (b : BlockMessage) → Has bs b → kept b
  pub octets : (text : List ℕ) → joined says bs ≡ Ok text → (index : ℕ) → HasValidOctet says bs text index
      → (o : HasValidOctet says bs text index) × kept o.message

no_payload : (state : SessionState) (text : List ℕ) → Err state ≡ Ok text → ⊥
no_payload state text e = cc

pub joins_or_not : (r : Result (List ℕ) SessionState) → ((text : List ℕ) × (r ≡ Ok text)) ⊎ (((text : List ℕ) × (r ≡ Ok text)) → ⊥)
joins_or_not (Ok text) = inl (text, refl)
joins_or_not (Err state) = inr (λ w. no_payload state w.0 w.1)

-- ---- what is left of one night's blocks states and covers what they do

-- the blocks `ns`, and those of the next night
module _ (says : Answers) (ns more : List BlockMessage) (kept : BlockMessage → Type 0) (keep : (b : BlockMessage) → Has ns b → kept b → Has more b) where
  abbrev pub AreKept : Type 0
  AreKept =
      ((b : BlockMessage) → Has ns b → (d : BlockMessage) × Has more d)
      × ((t : ℕ) → StatesTotal ns t → StatesTotal more t)
      × ((p : ℕ × ℕ) → StatesOctet ns p → StatesOctet more p)
      × ((text : List ℕ) → Fits ns text → (index : ℕ) → HasValidOctet says ns text index → HasValidOctet says more text index)

  unjudged_kept : ((b : BlockMessage) → Has ns b → kept b) → AreKept
  unjudged_kept all = (
    λ b h. (b, keep b h (all b h)),
    λ t h. (let w = total_of ns t h in subst (StatesTotal more) w.2 (has-total more w.0 (stays w.0 w.1))),
    λ p h. (let w = octet_of ns p h in has-octet more w.0 p (stays w.0 w.1) w.2),
    λ text fits index o. (let h = has_from_contains ns o.message o.stored in valid_in says ns more text index o (keep o.message h (all o.message h))),
  )
    where
      stays : (c : block.Certificate) → HasFragment ns c → HasFragment more c
      stays c f = fragment_in ns more c f (keep f.message f.stored (all f.message f.stored))

  module _ (ranges : AreInRange ns) (enough : IsEnough says ns kept) (payload : List ℕ) (e : joined says ns ≡ Ok payload) where
    abbrev s : Stated
    s = stated_by (certificates ns)

    abbrev told : IsStatedBy s (certificates ns)
    told = stated_by-IsStatedBy (certificates ns)

    under : IsJoinedUnder says ns payload
    under = payload_told says ns payload e

    fits : Fits ns payload
    fits = fits_stated ns payload under.0

    some_octet : 1 ≤ length payload
    some_octet =
        let w = total_of ns (length payload) (told.total (length payload) under.0.text_is.total) in
        let r = ranges w.0 w.1 in
        omega (arith, r.some_index, r.some_octet, r.within, w.2)

    left_at : (index : ℕ) → 1 ≤ index → index ≤ length payload → (o : HasValidOctet says ns payload index) × kept o.message
    left_at index low high = enough.octets payload e index (under.3 index low high)

    stays_at : (index : ℕ) (o : HasValidOctet says ns payload index) → kept o.message → HasFragment more o.said × (o.said.total ≡ length payload)
    stays_at index o k =
        let h = has_from_contains ns o.message o.stored in
        let f : HasFragment ns o.said = record { message = o.message; stored = h; says_so = o.says_so } in
        (fragment_in ns more o.said f (keep o.message h k), fits.total o.said.total (has-total ns o.said f))

    judged_total : (t : ℕ) → StatesTotal ns t → StatesTotal more t
    judged_total t h =
        let o = left_at 1 (omega arith) some_octet in
        let w = stays_at 1 o.0 o.1 in
        subst (StatesTotal more) (w.1 ∙ sym (fits.total t h)) (has-total more o.0.said w.0)

    judged_octet : (p : ℕ × ℕ) → StatesOctet ns p → StatesOctet more p
    judged_octet p h =
        let w = octet_of ns p h in
        let r = ranges w.0 w.1 in
        let at = from_has-placed w.0.index w.0.fragment p w.2 in
        let long : w.0.total ≡ length payload = fits.total w.0.total (has-total ns w.0 w.1) in
        let o = left_at p.0 (omega (arith, r.some_index, at.0)) (omega (arith, r.within, at.1, long)) in
        let there : (q : ℕ) × Has (placed o.0.said.index o.0.said.fragment) (p.0, q) = has-placed o.0.said.index o.0.said.fragment p.0 o.0.from o.0.to in
        let f : HasFragment ns o.0.said = record { message = o.0.message; stored = has_from_contains ns o.0.message o.0.stored; says_so = o.0.says_so } in
        let same : there.0 ≡ p.1
        = one_octet s p.0 there.0 p.1 under.0.undisputed (told.has_octet (p.0, there.0) (has-octet ns o.0.said (p.0, there.0) f there.1)) (told.has_octet p h) in
        subst (λ q. StatesOctet more (p.0, q)) same (has-octet more o.0.said (p.0, there.0) (stays_at p.0 o.0 o.1).0 there.1)

    judged_valid : (text : List ℕ) → Fits ns text → (index : ℕ) → HasValidOctet says ns text index → HasValidOctet says more text index
    judged_valid text ok index =
        subst (λ (t : List ℕ). HasValidOctet says ns t index → HasValidOctet says more t index) (fits_one ns payload text under.0.text_is ok)
        (λ v.
        (let o = enough.octets payload e index v in
        valid_in says ns more payload index o.0 (keep o.0.message (has_from_contains ns o.0.message o.0.stored) o.1)))

    judged_kept : AreKept
    judged_kept = (
      λ b h. (let o = left_at 1 (omega arith) some_octet in (o.0.message, keep o.0.message (has_from_contains ns o.0.message o.0.stored) o.1)),
      judged_total,
      judged_octet,
      judged_valid,
    )

  pub left_kept : AreInRange ns → IsEnough says ns kept → AreKept
  left_kept ranges enough =
      elim (joins_or_not (joined says ns)) [
        | inl w ↦ judged_kept ranges enough w.0 w.1
        | inr n ↦ unjudged_kept (enough.unjudged n)
      ]

-- ---- one more night

-- blocks of one night and all so far, and those of the next night and all up to it, with the new ones
pub record IsNext (ns fs more ahead : List BlockMessage) (new kept : BlockMessage → Type 0) : Type 0 where
  pub night : (b : BlockMessage) → Has more b → new b ⊎ (Has ns b × kept b)
  pub night_new : (b : BlockMessage) → new b → Has more b
  pub night_kept : (b : BlockMessage) → Has ns b → kept b → Has more b
  pub all : (b : BlockMessage) → Has ahead b → new b ⊎ Has fs b
  pub all_new : (b : BlockMessage) → new b → Has ahead b
  pub all_old : (b : BlockMessage) → Has fs b → Has ahead b

module _ (says : Answers) (ns fs more ahead : List BlockMessage) (new kept : BlockMessage → Type 0) (n : IsNext ns fs more ahead new kept)
    (a : Alike says ns fs) (k : AreKept says ns more kept n.night_kept) where
  next_total : (c : block.Certificate) → HasFragment ahead c → StatesTotal more c.total
  next_total c f =
      elim (n.all f.message f.stored) [
        | inl w ↦ has-total more c (fragment_in ahead more c f (n.night_new f.message w))
        | inr h ↦ k.1 c.total (a.totals c.total (has-total fs c (fragment_in ahead fs c f h)))
      ]

  next_octet : (c : block.Certificate) (p : ℕ × ℕ) → HasFragment ahead c → Has (placed c.index c.fragment) p → StatesOctet more p
  next_octet c p f at =
      elim (n.all f.message f.stored) [
        | inl w ↦ has-octet more c p (fragment_in ahead more c f (n.night_new f.message w)) at
        | inr h ↦ k.2 p (a.octets p (has-octet fs c p (fragment_in ahead fs c f h) at))
      ]

  next_valid : (text : List ℕ) → Fits ahead text → (index : ℕ) → HasValidOctet says ahead text index → HasValidOctet says more text index
  next_valid text fits index o =
      let old : Fits fs text = fits_within fs ahead text n.all_old fits in
      elim (n.all o.message (has_from_contains ahead o.message o.stored)) [
        | inl w ↦ valid_in says ahead more text index o (n.night_new o.message w)
        | inr h ↦ k.3 text (fits_within ns fs text a.among old) index (a.covered text old index (valid_in says ahead fs text index o h))
      ]

  pub next_alike : Alike says more ahead
  next_alike = record {
    among = λ b h. elim (n.night b h) [ inl w ↦ n.all_new b w | inr w ↦ n.all_old b (a.among b w.0) ];
    some = λ b h. elim (n.all b h) [ inl w ↦ (b, n.night_new b w) | inr old ↦ (let d = a.some b old in k.0 d.0 d.1) ];
    totals = λ t h. (let w = total_of ahead t h in subst (StatesTotal more) w.2 (next_total w.0 w.1));
    octets = λ p h. (let w = octet_of ahead p h in next_octet w.0 p w.1 w.2);
    covered = next_valid;
  }
