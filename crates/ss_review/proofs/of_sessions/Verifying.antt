-- What a binary search among the joined sessions of a log tells of a block, and which blocks that leaves refused.
use Rattle.std.proofs.Common.{◌≡◌, inl, inr, ℕ, zero, suc, ◌+◌, ◌<◌, Bool, true, false, cond, not, List, [], ◌∷◌, ◌++◌, length, get_or, take, map, filter, refl, sym, ap, ◌∙◌, subst, add-one, arith}
use Rattle.std.specs.Prelude.{Result, Err, Contains}
use Rattle.std.specs.declared.cmp.Ordering.{Ordering}
use Rattle.std.specs.declared.cmp.Ordering.TheVariants.{Less, Equal, Greater}
use Rattle.std.specs.Ordering.{is_eq, is_lt, ordering_index, ordering_reverse}
use Rattle.std.specs.List.Sorted.{IsStrictlySortedBy, IsNonDecreasingBy, IsPartitionPoint}
use Rattle.std.proofs.lemmas.Bool.{cases_lt}
use Rattle.std.proofs.lemmas.List.{get_or_default, get_or-map, map-id, map-append}
use Rattle.std.proofs.lemmas.List.Elements.{filter_more}
use Rattle.std.proofs.lemmas.List.Sorted.{searchable_from_sorted}
use Rattle.std.proofs.lemmas.Simd.{map-map}
use Rattle.ss_block.specs.declared.session.Session.{Session}
use Rattle.ss_block.specs.Order.{session_cmp}
use Rattle.ss_block.specs.OrderLaws.{session_cmp_total, session_cmp_exact}
use Rattle.ss_review.specs.declared.report.session_report.SessionState.{SessionState}
use Rattle.ss_review.specs.declared.report.session_report.SessionState.TheVariants as states
use Rattle.ss_review.specs.keep.BlockMessage.{BlockMessage}
use Rattle.ss_review.specs.declared.sessions.joined_session.JoinedSession.{JoinedSession}
use Rattle.ss_review.specs.sessions.Sessions.{same_session, sessions, of_session}
use Rattle.ss_review.specs.sessions.Payloads.{is_disputed, stated_payload}
use Rattle.ss_review.specs.sessions.Verified.{Answers, joined, is_valid_in, is_verified}
use Rattle.ss_review.specs.announced.Numbered.{session_with_joined, sessions_joined}
use Rattle.ss_octets.proofs.Members.{Has, contains_from_has, has_from_contains, has-map, from_has-map}
use Rattle.ss_review.proofs.of_lists.Rising.{all_below, rises-in_order, has-in_order}
use Rattle.ss_review.proofs.of_lists.Sections.{keeps_none}

-- ---- keys that strictly rise can be searched

module _ {X : Type 0} (key : X → Session) where
  sorted_at : (xs : List X) → IsStrictlySortedBy session_cmp (map key xs) → (k : ℕ) (d : X) → suc k < length xs → is_lt (session_cmp (key (get_or xs (suc k) d)) (key (get_or xs k d))) ≡ false
  unfolding IsStrictlySortedBy
  sorted_at [] up k d below = absurd (omega (arith, below))
  sorted_at (x ∷ []) up k d below = absurd (omega (arith, below))
  sorted_at (x ∷ y ∷ ys) up zero d below =
      ap is_lt (session_cmp_total.antisymm (key y) (key x) ∙ ap ordering_reverse up.0.0)
  sorted_at (x ∷ y ∷ ys) up (suc k) d below = sorted_at (y ∷ ys) up.1 k d (omega (arith, below))

  pub searchable : (xs : List X) (s : Session) → IsStrictlySortedBy session_cmp (map key xs) → IsNonDecreasingBy (λ y. ordering_index (session_cmp (key y) s)) xs
  searchable xs s up = searchable_from_sorted session_cmp_total key xs s (λ k d from below. rw add-one (sorted_at xs up k d (omega (arith, below))))

-- ---- the session is among them

module _ (says : Answers) (bs : List BlockMessage) (b : BlockMessage) (xs : List JoinedSession) (told : map session_with_joined xs ≡ sessions_joined says bs) where
  found_with : (x : JoinedSession) → Has xs x → x.session ≡ b.session → is_valid_in says x.joined b ≡ is_verified says bs b
  unfolding is_verified
  found_with x h same =
      let w : (s : Session) × Has (sessions bs) s × ((s, joined says (of_session bs s)) ≡ session_with_joined x)
      = from_has-map (λ s. (s, joined says (of_session bs s))) (sessions bs) (session_with_joined x) (subst (λ ys. Has ys (session_with_joined x)) told (has-map session_with_joined xs x h)) in
      let at : w.0 ≡ b.session = (λ i. (w.2 i).0) ∙ same in
      ap (λ j. is_valid_in says j b) (sym (λ i. (w.2 i).1) ∙ ap (λ s. joined says (of_session bs s)) at)

  pub found : (k : ℕ) (d : JoinedSession) → k < length xs → session_cmp (get_or xs k d).session b.session ≡ Equal → is_valid_in says (get_or xs k d).joined b ≡ is_verified says bs b
  found k d below tie =
      let x = get_or xs k d in
      found_with x (has_from_contains xs x (k, below, get_or_default xs k x d below)) (session_cmp_exact x.session b.session tie)

-- ---- it isn't

pub unstated : (says : Answers) → joined says [] ≡ Err states.Incomplete
unfolding joined stated_payload is_disputed
unstated says = refl

module _ (says : Answers) (bs : List BlockMessage) (xs : List JoinedSession) (told : map session_with_joined xs ≡ sessions_joined says bs) where
  keys_are : map (λ (x : JoinedSession). x.session) xs ≡ sessions bs
  keys_are =
      sym (map-map (λ (p : Session × Result (List ℕ) SessionState). p.0) session_with_joined xs)
      ∙ ap (map (λ (p : Session × Result (List ℕ) SessionState). p.0)) told
      ∙ map-map (λ (p : Session × Result (List ℕ) SessionState). p.0) (λ s. (s, joined says (of_session bs s))) (sessions bs)
      ∙ map-id (sessions bs)

  pub sessions_rise : IsStrictlySortedBy session_cmp (map (λ (x : JoinedSession). x.session) xs)
  sessions_rise =
      subst (IsStrictlySortedBy session_cmp) (sym keys_are) (rises-in_order session_cmp_total session_cmp_exact (map (λ (m : BlockMessage). m.session) bs))

module _ (says : Answers) (bs : List BlockMessage) (b : BlockMessage) (xs : List JoinedSession) (told : map session_with_joined xs ≡ sessions_joined says bs) where
  abbrev order : JoinedSession → Ordering
  order x = session_cmp x.session b.session

  other : (i : ℕ) → IsPartitionPoint (λ x. order x ≡ Less) (λ x. order x ≡ Greater) xs i → (c : BlockMessage) → Has bs c → same_session c.session b.session ≡ false
  other i apart c h =
      let w : (x : JoinedSession) × Has xs x × (x.session ≡ c.session)
      = from_has-map (λ x. x.session) xs c.session (subst (λ ks. Has ks c.session) (sym (keys_are says bs xs told)) (has-in_order session_cmp_total session_cmp_exact c.session (map (λ (m : BlockMessage). m.session) bs) (has-map (λ (m : BlockMessage). m.session) bs c h))) in
      let at : Contains xs w.0 = contains_from_has xs w.0 w.1 in
      let same : order (get_or xs at.0 w.0) ≡ session_cmp c.session b.session = ap order at.2 ∙ ap (λ s. session_cmp s b.session) w.2 in
      ap is_eq (sym same)
      ∙ (elim (cases_lt at.0 i) [
        | inl below ↦ ap is_eq (apart.0 at.0 w.0 (omega arith) below)
        | inr above ↦ ap is_eq (apart.1 at.0 w.0 above at.1)
      ])

  pub not_found : (i : ℕ) → (IsNonDecreasingBy (λ x. ordering_index (order x)) xs → IsPartitionPoint (λ x. order x ≡ Less) (λ x. order x ≡ Greater) xs i) → false ≡ is_verified says bs b
  unfolding is_verified
  not_found i parted =
      let none : of_session bs b.session ≡ []
      = keeps_none (λ c. same_session c.session b.session) bs (all_below (λ c. same_session c.session b.session ≡ false) bs (other i (parted (searchable (λ (x : JoinedSession). x.session) xs b.session (sessions_rise says bs xs told))))) in
      sym (ap (λ ys. is_valid_in says (joined says ys) b) none ∙ ap (λ j. is_valid_in says j b) (unstated says))

-- ---- one block more

place_at : (v : Bool) (b : BlockMessage) → map (λ (c : BlockMessage). c.place) (cond (not v) (b ∷ []) []) ≡ cond v [] (b.place ∷ [])
place_at true b = refl
place_at false b = refl

pub refused_more : (f : BlockMessage → Bool) (bs : List BlockMessage) (n m : ℕ) (b : BlockMessage) (v : Bool) → n < length bs → m ≡ n + 1 → b ≡ get_or bs n b → v ≡ get_or (map f bs) n v
    → map (λ c. c.place) (filter (λ c. not (f c)) (take m bs)) ≡ map (λ c. c.place) (filter (λ c. not (f c)) (take n bs)) ++ cond v [] (b.place ∷ [])
refused_more f bs n m b v below next e told =
    let before = filter (λ c. not (f c)) (take n bs) in
    let same : f (get_or bs n b) ≡ v = sym (get_or-map f bs n b v below) ∙ sym told in
    ap (λ k. map (λ (c : BlockMessage). c.place) (filter (λ c. not (f c)) (take k bs))) next
    ∙ ap (map (λ (c : BlockMessage). c.place)) (filter_more (λ c. not (f c)) bs n b below)
    ∙ map-append (λ (c : BlockMessage). c.place) before (cond (not (f (get_or bs n b))) (get_or bs n b ∷ []) [])
    ∙ (λ i. map (λ (c : BlockMessage). c.place) before ++ map (λ (c : BlockMessage). c.place) (cond (not (same i)) (sym e i ∷ []) []))
    ∙ ap (λ ps. map (λ (c : BlockMessage). c.place) before ++ ps) (place_at v b)
