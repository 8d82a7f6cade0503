-- The blocks of a session that are kept, and how they join it: which given payloads claim it decides.
use Rattle.std.proofs.Common.{◌≡◌, ◌⊎◌, inl, inr, ℕ, Bool, true, false, cond, ◌||◌, List, [], ◌∷◌, filter, refl, sym, ap, ◌∙◌, subst}
use Rattle.std.specs.Prelude.{Ok, Err}
use Rattle.std.specs.List.{list_any}
use Rattle.std.specs.Str.{bytes_eq}
use Rattle.std.specs.Ordering.{is_eq}
use Rattle.std.specs.Cmp.{Equal-is}
use Rattle.std.proofs.lemmas.Bool.{cases_Bool, both_ways, or_cases, or_left, or_right, true≢false}
use Rattle.std.proofs.lemmas.Cmp.{tied_itself}
use Rattle.std.proofs.lemmas.Slice.Eq.{bytes_eq-Decides}
use Rattle.ss_block.specs.Block as block
use Rattle.ss_block.specs.declared.session.Session.{Session}
use Rattle.ss_block.specs.Joining.{IsDisputed}
use Rattle.ss_block.specs.Order.{session_cmp}
use Rattle.ss_block.specs.OrderLaws.{session_cmp_total, session_cmp_exact}
use Rattle.ss_review.specs.keep.BlockMessage.{BlockMessage, BlockContent, Fragment}
use Rattle.ss_review.specs.declared.report.session_report.SessionState.TheVariants as states
use Rattle.ss_review.specs.report.Verdict.{is_none}
use Rattle.ss_review.specs.sessions.Payloads.{certificates}
use Rattle.ss_review.specs.sessions.Sessions.{same_session, of_session}
use Rattle.ss_review.specs.sessions.States.{stated_by}
use Rattle.ss_review.specs.sessions.Verified.{Answers, joined}
use Rattle.ss_octets.proofs.Members.{Has, has_from_contains, contains_from_has, has-filter, from_has-filter}
use Rattle.ss_review.proofs.of_lists.Tests.{any_member, member_any}
use Rattle.ss_review.specs.pinned.Pinned.{speaks_for, claims, claimants, is_signature, keeps, kept}
use Rattle.ss_review.specs.pinned.Claimants.{AreWithin, IsClaimant, IsUnclaimed, IsOnlyClaimant, AreClaimants}
use Rattle.ss_review.proofs.of_pinned.Claims.{Claims, of_claims, speaker_says, from_one, joined_claimed, undisputed_where_all_agree, two_dispute, joined_disputed}

-- ---- lists

none_left : {X : Type 0} (xs : List X) → ((x : X) → Has xs x → ⊥) → xs ≡ []
none_left [] none = refl
none_left (x ∷ xs) none = absurd (none x (inl refl))

keeps_at : {X : Type 0} (b : Bool) (x : X) (xs ys : List X) → b ≡ true → xs ≡ ys → cond b (x ∷ xs) xs ≡ x ∷ ys
keeps_at b x xs ys t e = ap (λ c. cond c (x ∷ xs) xs) t ∙ ap (λ zs. x ∷ zs) e

pub keeps_each : {X : Type 0} (p : X → Bool) (xs : List X) → ((x : X) → Has xs x → p x ≡ true) → filter p xs ≡ xs
keeps_each p [] all = refl
keeps_each p (x ∷ xs) all = keeps_at (p x) x (filter p xs) xs (all x (inl refl)) (keeps_each p xs (λ y h. all y (inr h)))

-- of what passes one test, another keeps what a third one does
module _ {X : Type 0} (p q r : X → Bool) (same : (x : X) → p x ≡ true → q x ≡ r x) where
  swapped_at : (a b : Bool) (x : X) (ys zs : List X) → p x ≡ a → q x ≡ b → filter p ys ≡ filter r zs
      → filter p (cond b (x ∷ ys) ys) ≡ filter r (cond a (x ∷ zs) zs)
  swapped_at true true x ys zs e f rest =
      ap (λ c. cond c (x ∷ filter p ys) (filter p ys)) e
      ∙ ap (λ ws. x ∷ ws) rest
      ∙ ap (λ c. cond c (x ∷ filter r zs) (filter r zs)) (sym f ∙ same x e)
  swapped_at true false x ys zs e f rest =
      rest ∙ ap (λ c. cond c (x ∷ filter r zs) (filter r zs)) (sym f ∙ same x e)
  swapped_at false true x ys zs e f rest = ap (λ c. cond c (x ∷ filter p ys) (filter p ys)) e ∙ rest
  swapped_at false false x ys zs e f rest = rest

  pub swapped : (xs : List X) → filter p (filter q xs) ≡ filter r (filter p xs)
  swapped [] = refl
  swapped (x ∷ xs) = swapped_at (p x) (q x) x (filter q xs) (filter p xs) refl refl (swapped xs)

-- ---- sessions

pub session_is : (a b : Session) → same_session a b ≡ true → a ≡ b
session_is a b e = session_cmp_exact a b ((Equal-is (session_cmp a b)).0 e)

pub is_session : (a b : Session) → a ≡ b → same_session a b ≡ true
is_session a b e = ap (λ s. is_eq (session_cmp s b)) e ∙ ap is_eq (tied_itself session_cmp_total b)

-- what is within payloads is so in each session
pub session_within : (bs : List BlockMessage) (s : Session) → AreWithin bs → AreWithin (of_session bs s)
session_within bs s are b c h e =
    are b c (contains_from_has bs b (from_has-filter (λ (d : BlockMessage). same_session d.session s) bs b (has_from_contains (of_session bs s) b h)).0) e

module _ (says : Answers) (ps : List (List ℕ)) where
  -- what is kept of a session
  abbrev pub left : List BlockMessage → List BlockMessage
  left own = filter (keeps says ps own) own

  pub kept_of_session : (bs : List BlockMessage) (s : Session) → of_session (kept says ps bs) s ≡ left (of_session bs s)
  kept_of_session bs s =
      swapped (λ (b : BlockMessage). same_session b.session s) (λ (b : BlockMessage). keeps says ps (of_session bs b.session) b) (keeps says ps (of_session bs s))
      (λ b e. ap (λ t. keeps says ps (of_session bs t) b) (session_is b.session s e)) bs

  -- ---- claimants

  module _ (own : List BlockMessage) where
    pub claimant_of : (p : List ℕ) → Has (claimants says ps own) p → IsClaimant says ps own p
    claimant_of p h =
        let f = from_has-filter (λ (q : List ℕ). claims says q own) ps p h in
        record { given = contains_from_has ps p f.0; claims_it = f.1 }

    pub has-claimant : (p : List ℕ) → IsClaimant says ps own p → Has (claimants says ps own) p
    has-claimant p is = has-filter (λ (q : List ℕ). claims says q own) ps p (has_from_contains ps p is.given) is.claims_it

    pub claims_of : (p : List ℕ) → IsClaimant says ps own p → Claims says own p
    claims_of p is = of_claims says own p is.claims_it

    -- ---- what is kept

    pub speaker_kept : (p : List ℕ) → IsClaimant says ps own p → (b : BlockMessage) → speaks_for says p b ≡ true → keeps says ps own b ≡ true
    unfolding keeps
    speaker_kept p is b e =
        let cs = claimants says ps own in
        or_right (is_signature b.said || is_none cs) (list_any (λ q. speaks_for says q b) cs) (member_any (λ q. speaks_for says q b) cs p (has-claimant p is) e)

    pub signature_kept : (b : BlockMessage) → is_signature b.said ≡ true → keeps says ps own b ≡ true
    unfolding keeps
    signature_kept b e =
        let cs = claimants says ps own in
        or_left (is_signature b.said || is_none cs) (list_any (λ q. speaks_for says q b) cs) (or_left (is_signature b.said) (is_none cs) e)

    pub unclaimed_kept : IsUnclaimed says ps own → (b : BlockMessage) → keeps says ps own b ≡ true
    unfolding keeps
    unclaimed_kept none b =
        let cs = claimants says ps own in
        let empty : cs ≡ [] = none_left cs (λ p h. none p (claimant_of p h)) in
        or_left (is_signature b.said || is_none cs) (list_any (λ q. speaks_for says q b) cs) (or_right (is_signature b.said) (is_none cs) (ap is_none empty))

    pub unclaimed_left : IsUnclaimed says ps own → left own ≡ own
    unclaimed_left none = keeps_each (keeps says ps own) own (λ b h. unclaimed_kept none b)

    not_signature : (said : BlockContent) (c : block.Certificate) → said ≡ Fragment c → is_signature said ≡ true → ⊥
    not_signature said c e t = true≢false (sym t ∙ ap is_signature e)

    some_claimant : (cs : List (List ℕ)) (p : List ℕ) → Has cs p → is_none cs ≡ true → ⊥
    some_claimant [] p h e = absurd h
    some_claimant (c ∷ cs) p h e = absurd (cc)

    -- a certificate block that is kept speaks for some claimant, if there is one
    pub kept_speaks : (p : List ℕ) → IsClaimant says ps own p → (b : BlockMessage) (c : block.Certificate) → b.said ≡ Fragment c → keeps says ps own b ≡ true
        → (q : List ℕ) × IsClaimant says ps own q × (speaks_for says q b ≡ true)
    unfolding keeps
    kept_speaks p is b c said e =
        let cs = claimants says ps own in
        elim (or_cases (is_signature b.said || is_none cs) (list_any (λ q. speaks_for says q b) cs) e) [
          | inl f ↦ (elim (or_cases (is_signature b.said) (is_none cs) f) [
            | inl t ↦ absurd (not_signature b.said c said t)
            | inr t ↦ absurd (some_claimant cs p (has-claimant p is) t)
          ])
          | inr f ↦ (let w = any_member (λ q. speaks_for says q b) cs f in (w.0, claimant_of w.0 w.1, w.2))
        ]

    -- ---- the state

    -- a claimant claims what is kept too
    pub claims_left : (p : List ℕ) → IsClaimant says ps own p → Claims says (left own) p
    claims_left p is =
        let all = claims_of p is in
        record {
          block_is = all.block_is;
          trusts = all.trusts;
          spoken = λ index low high.
              (let o = all.spoken index low high in
              record {
                message = o.message;
                stored = has-filter (keeps says ps own) own o.message o.stored (speaker_kept p is o.message o.speaks);
                said = o.said;
                says_so = o.says_so;
                speaks = o.speaks;
                from = o.from;
                to = o.to;
              });
        }

    module _ (are : AreWithin own) where
      within_left : AreWithin (left own)
      within_left b c h e = are b c (contains_from_has own b (from_has-filter (keeps says ps own) own b (has_from_contains (left own) b h)).0) e

      pub one_joined : (p : List ℕ) → IsOnlyClaimant says ps own p → joined says (left own) ≡ Ok p
      one_joined p one =
          joined_claimed says (left own) within_left p (claims_left p one.is)
          (undisputed_where_all_agree says (left own) within_left p (λ c f.
          (let h = from_has-filter (keeps says ps own) own f.message f.stored in
          let w = kept_speaks p one.is f.message c f.says_so h.1 in
          speaker_says says p f.message c f.says_so (from_one says own are f.message c h.0 f.says_so)
          (ap (λ q. speaks_for says q f.message) (sym (one.only w.0 w.1)) ∙ w.2))))

      pub two_joined : (p q : List ℕ) → AreClaimants says ps own p q → joined says (left own) ≡ Err states.Disputed
      two_joined p q two = joined_disputed says (left own) (two_dispute says (left own) within_left p q (claims_left p two.first) (claims_left q two.second) two.differ)

      -- where nothing is disputed, a claimant is the only one, and all of the blocks join the session under it
      pub one_undisputed : ¬ IsDisputed (stated_by (certificates own)) → (p : List ℕ) → IsClaimant says ps own p → IsOnlyClaimant says ps own p × (joined says own ≡ Ok p)
      one_undisputed undisputed p is = (
        record {
          is = is;
          only = λ q other. (elim (cases_Bool (bytes_eq q p)) [
            | inl t ↦ (bytes_eq-Decides q p).0 t
            | inr f ↦ absurd (undisputed (two_dispute says own are q p (claims_of q other) (claims_of p is) (λ e. both_ways (bytes_eq q p) f ((bytes_eq-Decides q p).1 e))))
          ]);
        },
        joined_claimed says own are p (claims_of p is) undisputed,
      )

    -- ---- how many claimants there are

    other_than : (p : List ℕ) (qs : List (List ℕ)) → ((q : List ℕ) → Has qs q → q ≡ p) ⊎ ((q : List ℕ) × Has qs q × (p ≡ q → ⊥))
    other_than p [] = inl (λ q h. absurd h)
    other_than p (c ∷ qs) =
        elim (cases_Bool (bytes_eq p c)) [
          | inr f ↦ inr (c, inl refl, λ e. both_ways (bytes_eq p c) f ((bytes_eq-Decides p c).1 e))
          | inl t ↦ (
              let same : p ≡ c = (bytes_eq-Decides p c).0 t in
              elim (other_than p qs) [
                | inl all ↦ inl (λ q h. is_same same all q h)
                | inr w ↦ inr (w.0, inr w.1, w.2)
              ])
        ]
      where
        is_same : p ≡ c → ((q : List ℕ) → Has qs q → q ≡ p) → (q : List ℕ) → Has (c ∷ qs) q → q ≡ p
        is_same same all q (inl e) = sym e ∙ sym same
        is_same same all q (inr h) = all q h

    abbrev Cases : Type 0
    Cases = ((p : List ℕ) × IsOnlyClaimant says ps own p) ⊎ (((p : List ℕ) × (q : List ℕ) × AreClaimants says ps own p q) ⊎ IsUnclaimed says ps own)

    cases_of : (cs : List (List ℕ)) → cs ≡ claimants says ps own → Cases
    cases_of [] e = inr (inr (λ p is. absurd (subst (λ xs. Has xs p) (sym e) (has-claimant p is))))
    cases_of (p ∷ cs) e =
        let first = claimant_of p (subst (λ xs. Has xs p) e (inl refl)) in
        elim (other_than p (p ∷ cs)) [
          | inl all ↦ inl (p, record { is = first; only = λ q is. all q (subst (λ xs. Has xs q) (sym e) (has-claimant q is)) })
          | inr w ↦ inr (inl (p, w.0, record { first = first; second = claimant_of w.0 (subst (λ xs. Has xs w.0) e w.1); differ = w.2 }))
        ]

    pub how_many : Cases
    how_many = cases_of (claimants says ps own) refl
