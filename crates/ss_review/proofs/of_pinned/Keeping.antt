-- Which blocks are kept, by what is known of the sessions of their log.
use Rattle.std.proofs.Common.{◌≡◌, inl, inr, ℕ, ◌+◌, ◌<◌, Bool, true, false, ◌||◌, List, [], ◌∷◌, ◌++◌, length, get_or, take, map, refl, sym, ap, ◌∙◌, subst, arith}
use Rattle.std.specs.Prelude.{Contains, Ok}
use Rattle.std.specs.declared.cmp.Ordering.{Ordering}
use Rattle.std.specs.declared.cmp.Ordering.TheVariants.{Less, Equal, Greater}
use Rattle.std.specs.List.{list_any}
use Rattle.std.specs.List.Sorted.{IsStrictlySortedBy, IsNonDecreasingBy, IsPartitionPoint}
use Rattle.std.specs.Ordering.{ordering_index}
use Rattle.std.proofs.lemmas.Bool.{cases_lt, true≢false, false_from_ne_true}
use Rattle.std.proofs.lemmas.Cmp.{tied_itself}
use Rattle.std.proofs.lemmas.List.{map_more, map-id}
use Rattle.std.proofs.lemmas.List.Folds.{list_any_at}
use Rattle.std.proofs.lemmas.Simd.{map-map}
use Rattle.ss_block.specs.declared.session.Session.{Session}
use Rattle.ss_block.specs.Order.{session_cmp}
use Rattle.ss_block.specs.OrderLaws.{session_cmp_total, session_cmp_exact}
use Rattle.ss_review.specs.keep.BlockMessage.{BlockMessage}
use Rattle.ss_review.specs.declared.pinned.claimant.Claimant.{Claimant}
use Rattle.ss_review.specs.declared.pinned.claimant.ClaimedSession.{ClaimedSession}
use Rattle.ss_review.specs.declared.questions.question.Question.{Question}
use Rattle.ss_review.specs.questions.Questions.{question_about, asked}
use Rattle.ss_review.specs.report.Verdict.{is_none}
use Rattle.ss_review.specs.sessions.Sectioned.{sections}
use Rattle.ss_review.specs.sessions.Sessions.{sessions, of_session}
use Rattle.ss_review.specs.sessions.Verified.{Answers}
use Rattle.ss_review.specs.pinned.Finding.{payloads_of, session_claimed, section_claimed, AreAskableUnder, IsAskableBlock}
use Rattle.ss_review.specs.pinned.Pinned.{is_signature, claims, claimants, keeps, speaks_for}
use Rattle.ss_octets.proofs.Members.{Has, has_from_contains, contains_from_has, has-append_cases, has-map, from_has-map, from_has-filter}
use Rattle.ss_review.proofs.of_lists.Rising.{rises-in_order}
use Rattle.ss_review.proofs.of_lists.Tests.{any_member, member_any}
use Rattle.ss_review.proofs.of_pinned.Asking.{claims_may}
use Rattle.ss_review.proofs.of_questions.AskableBlocks.{has-sessions, has-own}
use Rattle.ss_review.proofs.of_sessions.Verifying.{searchable}

-- ---- one claimant more

any_map : {X Y : Type 0} (p : Y → Bool) (g : X → Y) (xs : List X) → list_any p (map g xs) ≡ list_any (λ x. p (g x)) xs
any_map p g [] = refl
any_map p g (x ∷ xs) = ap (λ b. p (g x) || b) (any_map p g xs)

pub some_passes : {X Y : Type 0} (p : Y → Bool) (g : X → Y) (xs : List X) (i : ℕ) (d : X) → i < length xs → p (g (get_or xs i d)) ≡ true → list_any p (map g xs) ≡ true
some_passes p g xs i d below e = any_map p g xs ∙ list_any_at (λ x. p (g x)) xs i d below e

any_push : {Y : Type 0} (p : Y → Bool) (ys : List Y) (y : Y) → list_any p ys ≡ false → p y ≡ false → list_any p (ys ++ y ∷ []) ≡ false
any_push {Y} p ys y e f =
    false_from_ne_true (list_any p (ys ++ y ∷ [])) (λ t.
    (let w : (z : Y) × Has (ys ++ y ∷ []) z × (p z ≡ true) = any_member p (ys ++ y ∷ []) t in
    elim (has-append_cases ys (y ∷ []) w.0 w.1) [
      | inl h ↦ true≢false (sym (member_any p ys w.0 h w.2) ∙ e)
      | inr h ↦ (elim h [ inl q ↦ true≢false (sym (ap p q ∙ w.2) ∙ f) | inr n ↦ absurd n ])
    ]))

pub none_passes : {X Y : Type 0} (p : Y → Bool) (g : X → Y) (xs : List X) (i : ℕ) (d : X) → i < length xs → p (g (get_or xs i d)) ≡ false → list_any p (map g (take i xs)) ≡ false → list_any p (map g (take (i + 1) xs)) ≡ false
none_passes p g xs i d below f e = ap (list_any p) (map_more g xs i d below) ∙ any_push p (map g (take i xs)) (g (get_or xs i d)) e f

-- ---- the sessions of the log

module _ (says : Answers) (ps : List (List ℕ)) (bs : List BlockMessage) (xs : List ClaimedSession) (told : map session_claimed xs ≡ map (section_claimed says ps) (sections bs)) where
  -- each is a session with those that claim it
  pub claimed_by : (x : ClaimedSession) → Has xs x → Has (sessions bs) x.session.now × (payloads_of x.claimants.items ≡ claimants says ps (of_session bs x.session.now))
  claimed_by x h =
      let v : (s : Session × List BlockMessage) × Has (sections bs) s × (section_claimed says ps s ≡ session_claimed x)
      = from_has-map (section_claimed says ps) (sections bs) (session_claimed x) (subst (λ ys. Has ys (session_claimed x)) told (has-map session_claimed xs x h)) in
      let w : (s : Session) × Has (sessions bs) s × ((s, of_session bs s) ≡ v.0) = from_has-map (λ s. (s, of_session bs s)) (sessions bs) v.0 v.1 in
      let session : w.0 ≡ x.session.now = (λ i. (w.2 i).0) ∙ (λ i. (v.2 i).0) in (
        subst (Has (sessions bs)) session w.1,
        sym (λ i. (v.2 i).1) ∙ ap (claimants says ps) (sym (λ i. (w.2 i).1)) ∙ ap (λ s. claimants says ps (of_session bs s)) session,
      )

  sessions_are : map (λ (x : ClaimedSession). x.session.now) xs ≡ sessions bs
  sessions_are =
      sym (map-map (λ (p : Session × List (List ℕ)). p.0) session_claimed xs)
      ∙ ap (map (λ (p : Session × List (List ℕ)). p.0)) told
      ∙ map-map (λ (p : Session × List (List ℕ)). p.0) (section_claimed says ps) (sections bs)
      ∙ map-map (λ (s : Session × List BlockMessage). s.0) (λ s. (s, of_session bs s)) (sessions bs)
      ∙ map-id (sessions bs)

  module _ (b : BlockMessage) where
    abbrev order : ClaimedSession → Ordering
    order x = session_cmp x.session.now b.session

    pub found_keeps : (x : ClaimedSession) → Has xs x → x.session.now ≡ b.session
        → (is_signature b.said || is_none (payloads_of x.claimants.items) || list_any (λ p. speaks_for says p b) (payloads_of x.claimants.items)) ≡ keeps says ps (of_session bs b.session) b
    unfolding keeps
    found_keeps x h same =
        ap (λ cs. is_signature b.said || is_none cs || list_any (λ p. speaks_for says p b) cs)
        ((claimed_by x h).1 ∙ ap (λ s. claimants says ps (of_session bs s)) same)

    pub is_found : Has bs b → (i : ℕ) → (IsNonDecreasingBy (λ x. ordering_index (order x)) xs → IsPartitionPoint (λ x. order x ≡ Less) (λ x. order x ≡ Greater) xs i) → ⊥
    is_found h i parted =
        let up : IsStrictlySortedBy session_cmp (map (λ (x : ClaimedSession). x.session.now) xs)
        = subst (IsStrictlySortedBy session_cmp) (sym sessions_are) (rises-in_order session_cmp_total session_cmp_exact (map (λ (m : BlockMessage). m.session) bs)) in
        let apart = parted (searchable (λ (x : ClaimedSession). x.session.now) xs b.session up) in
        let w : (x : ClaimedSession) × Has xs x × (x.session.now ≡ b.session)
        = from_has-map (λ (x : ClaimedSession). x.session.now) xs b.session (subst (λ ks. Has ks b.session) (sym sessions_are) (has-sessions bs b h)) in
        let at : Contains xs w.0 = contains_from_has xs w.0 w.1 in
        let tie : order (get_or xs at.0 w.0) ≡ Equal = ap order at.2 ∙ ap (λ s. session_cmp s b.session) w.2 ∙ tied_itself session_cmp_total b.session in
        elim (cases_lt at.0 i) [
          | inl below ↦ (let no : Equal ≡ Less = sym tie ∙ apart.0 at.0 w.0 (omega arith) below in absurd (cc))
          | inr above ↦ (let no : Equal ≡ Greater = sym tie ∙ apart.1 at.0 w.0 above at.1 in absurd (cc))
        ]

  -- what may be asked of a block
  pub askable_block : {J : Type 0} (askable : J → Question → Type 0) (judge : J) → AreAskableUnder askable judge ps (sections bs) → (b : BlockMessage) → Contains bs b → IsAskableBlock askable judge xs b
  askable_block askable judge may b stored x c h same i =
      let p = c.payload.now in
      let own = of_session bs b.session in
      let is = claimed_by x (has_from_contains xs x h) in
      let claim : Has (claimants says ps own) p
      = subst (λ qs. Has qs p) (is.1 ∙ ap (λ s. claimants says ps (of_session bs s)) same)
      (has-map (λ (d : Claimant). d.payload.now) x.claimants.items c (has_from_contains x.claimants.items c i)) in
      let f = from_has-filter (λ (q : List ℕ). claims says q own) ps p claim in
      let has = has_from_contains bs b stored in
      let section : Has (sections bs) (b.session, own) = has-map (λ s. (s, of_session bs s)) (sessions bs) b.session (has-sessions bs b has) in
      may (b.session, own) (contains_from_has (sections bs) (b.session, own) section) p (contains_from_has ps p f.0) (claims_may says p own f.1)
      (question_about p b)
      (contains_from_has (asked own (Ok p)) (question_about p b) (inr (has-map (question_about p) own b (has-own bs b has))))
