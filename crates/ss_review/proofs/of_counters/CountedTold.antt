-- What was found of sessions so far, with one more value or one more block, is what the blocks so far tell.
use Rattle.std.proofs.Common.{◌≡◌, inl, inr, ℕ, zero, suc, ◌+◌, ◌<◌, Bool, true, false, cond, List, [], ◌∷◌, ◌++◌, length, get_or, take, map, filter, refl, sym, ap, ◌∙◌, subst, arith}
use Rattle.std.specs.Prelude.{if◌then◌else◌, Result, None}
use Rattle.std.specs.declared.cmp.Ordering.TheVariants.{Less, Equal, Greater}
use Rattle.std.specs.Ordering.{nat_cmp, is_eq, ordering_index, ordering_reverse}
use Rattle.std.specs.List.{Contains, Any}
use Rattle.std.specs.List.Sorted.{IsStrictlySortedBy, IsNonDecreasingBy, IsPartitionPoint}
use Rattle.std.proofs.Math.ListN.{set}
use Rattle.std.proofs.lemmas.Bool.{cases_lt}
use Rattle.std.proofs.lemmas.Cmp.{tied_itself, nat_cmp_total}
use Rattle.std.proofs.lemmas.Grind.{flat_map-append}
use Rattle.std.proofs.lemmas.List.{append-nil, get_or_default, map-id}
use Rattle.std.proofs.lemmas.List.Elements.{filter_more, filter-append}
use Rattle.std.proofs.lemmas.Map.Lookups.{exact_unsigned}
use Rattle.std.proofs.lemmas.Simd.{map-map}
use Rattle.ss_block.specs.declared.session.Session.{Session}
use Rattle.ss_block.specs.Order.{session_cmp}
use Rattle.ss_block.specs.OrderLaws.{session_cmp_total, session_cmp_exact}
use Rattle.ss_review.specs.declared.report.session_report.SessionState.{SessionState}
use Rattle.ss_review.specs.keep.BlockMessage.{BlockMessage, BlockContent, Hashes, Fragment}
use Rattle.ss_review.specs.declared.sessions.joined_session.JoinedSession.{JoinedSession}
use Rattle.ss_review.specs.declared.counted.counting.SessionGbcs.{SessionGbcs}
use Rattle.ss_review.specs.Ordered.{in_order}
use Rattle.ss_review.specs.keep.Signatures.{gbc_of}
use Rattle.ss_review.specs.sessions.Sessions.{same_session, sessions, of_session}
use Rattle.ss_review.specs.sessions.Verified.{Answers, joined, is_verified}
use Rattle.ss_review.specs.announced.Numbered.{session_with_joined, sessions_joined}
use Rattle.ss_review.specs.counted.Counted.{gbc_said, gbcs_said, gbcs, counted_sessions}
use Rattle.ss_review.specs.counted.CountedSoFar.{found_of, nothing_of, with_gbc, gbcs_added, with_block, found_among, counted_in_order}
use Rattle.ss_octets.proofs.Members.{Has, has-map, contains_from_has, has_from_contains, all-has}
use Rattle.ss_review.proofs.of_lists.Rising.{rises-in_order, in_order_by}
use Rattle.ss_review.proofs.of_sessions.Verifying.{searchable}

abbrev session_of : SessionGbcs → Session
session_of f = f.session.now

-- ---- one more value of a session

below_differs : (s t : Session) → session_cmp t s ≡ Less → same_session s t ≡ false
below_differs s t e = ap is_eq (session_cmp_total.antisymm s t ∙ ap ordering_reverse e)

above_differs : (s t : Session) → session_cmp t s ≡ Greater → same_session s t ≡ false
above_differs s t e = ap is_eq (session_cmp_total.antisymm s t ∙ ap ordering_reverse e)

-- another session stays as it is
other_stays : (s : Session) (gbc : ℕ) (f : Session × List ℕ) → same_session s f.0 ≡ false → f ≡ with_gbc s gbc f
other_stays s gbc f e =
    let more : f.1 ≡ f.1 ++ (if same_session s f.0 then gbc ∷ [] else []) = sym (append-nil f.1) ∙ ap (λ b. f.1 ++ cond b (gbc ∷ []) []) (sym e) in
    λ i. (f.0, more i)

others_stay : (s : Session) (gbc : ℕ) (xs : List SessionGbcs) → ((x : SessionGbcs) → Has xs x → same_session s (session_of x) ≡ false) → map found_of xs ≡ map (with_gbc s gbc) (map found_of xs)
others_stay s gbc [] other = refl
others_stay s gbc (x ∷ xs) other =
    let head = other_stays s gbc (found_of x) (other x (inl refl)) in
    let rest = others_stay s gbc xs (λ y h. other y (inr h)) in
    λ i. head i ∷ rest i

module _ (s : Session) (gbc : ℕ) where
  pub found_more : (xs : List SessionGbcs) (k : ℕ) (d y : SessionGbcs) → IsStrictlySortedBy session_cmp (map session_of xs) → k < length xs → session_cmp (session_of (get_or xs k d)) s ≡ Equal
      → session_of y ≡ session_of (get_or xs k d) → y.gbcs.items ≡ (get_or xs k d).gbcs.items ++ gbc ∷ [] → map found_of (set xs k y) ≡ map (with_gbc s gbc) (map found_of xs)
  unfolding IsStrictlySortedBy
  found_more [] k d y up below tie same more = absurd (omega (arith, below))
  found_more (x ∷ xs) zero d y up below tie same more =
      let here : session_of x ≡ s = session_cmp_exact (session_of x) s tie in
      let rest = others_stay s gbc xs (λ z h. above_differs s (session_of z)
      (session_cmp_total.antisymm (session_of z) s ∙ ap ordering_reverse (subst (λ t. session_cmp t (session_of z) ≡ Less) here (all-has (λ t. session_cmp (session_of x) t ≡ Less) (map session_of xs) (session_of z) up.0 (has-map session_of xs z h))))) in
      let tied : same_session s (session_of x) ≡ true = ap (λ t. is_eq (session_cmp s t)) here ∙ ap is_eq (tied_itself session_cmp_total s) in
      let own : y.gbcs.items ≡ x.gbcs.items ++ (if same_session s (session_of x) then gbc ∷ [] else []) = more ∙ ap (λ b. x.gbcs.items ++ cond b (gbc ∷ []) []) (sym tied) in
      λ i. (same i, own i) ∷ rest i
  found_more (x ∷ xs) (suc k) d y up below tie same more =
      let at = session_of (get_or xs k d) in
      let there : at ≡ s = session_cmp_exact at s tie in
      let less : session_cmp (session_of x) s ≡ Less
      = subst (λ t. session_cmp (session_of x) t ≡ Less) there (all-has (λ t. session_cmp (session_of x) t ≡ Less) (map session_of xs) at up.0 (has-map session_of xs (get_or xs k d) (has_from_contains xs (get_or xs k d) (k, omega (arith, below), get_or_default xs k (get_or xs k d) d (omega (arith, below)))))) in
      let head = other_stays s gbc (found_of x) (below_differs s (session_of x) less) in
      let rest = found_more xs k d y up.1 (omega (arith, below)) tie same more in
      λ i. head i ∷ rest i

-- no session is this one
pub found_none : (s : Session) (gbc : ℕ) (xs : List SessionGbcs) (i : ℕ) → IsStrictlySortedBy session_cmp (map session_of xs)
    → (IsNonDecreasingBy (λ x. ordering_index (session_cmp (session_of x) s)) xs → IsPartitionPoint (λ x. session_cmp (session_of x) s ≡ Less) (λ x. session_cmp (session_of x) s ≡ Greater) xs i)
    → map found_of xs ≡ map (with_gbc s gbc) (map found_of xs)
found_none s gbc xs i up parted =
    let apart = parted (searchable session_of xs s up) in
    others_stay s gbc xs (λ x h.
    (let at : Contains xs x = contains_from_has xs x h in
    let told : same_session s (session_of (get_or xs at.0 x)) ≡ false
    = elim (cases_lt at.0 i) [
      | inl below ↦ below_differs s (session_of (get_or xs at.0 x)) (apart.0 at.0 x (omega arith) below)
      | inr above ↦ above_differs s (session_of (get_or xs at.0 x)) (apart.1 at.0 x above at.1)
    ] in
    ap (λ y. same_session s (session_of y)) (sym at.2) ∙ told))

-- ---- one more block

-- one that isn't verified adds nothing
pub unverified_adds_none : (b : BlockMessage) (fs : List (Session × List ℕ)) → fs ≡ map (with_block false b) fs
unverified_adds_none b [] = refl
unverified_adds_none b (f ∷ fs) =
    let more = sym (append-nil f.1) in
    let rest = unverified_adds_none b fs in
    λ i. (f.0, more i) ∷ rest i

none_of : (b : Bool) → cond b (let none : List ℕ = [] in none) [] ≡ []
none_of true = refl
none_of false = refl

none_said : (said : BlockContent) → gbc_of said ≡ None → gbc_said said ≡ []
none_said (Hashes b) e = cc
none_said (Fragment c) e = refl

-- a block with no GBC adds nothing
pub none_adds_none : (b : BlockMessage) (fs : List (Session × List ℕ)) → gbc_of b.said ≡ None → fs ≡ map (with_block true b) fs
none_adds_none b [] e = refl
none_adds_none b (f ∷ fs) e =
    let more : f.1 ≡ f.1 ++ gbcs_added true b f.0
    = sym (append-nil f.1) ∙ ap (λ gs. f.1 ++ gs) (sym (none_of (same_session b.session f.0))) ∙ ap (λ gs. f.1 ++ cond (same_session b.session f.0) gs []) (sym (none_said b.said e)) in
    let rest = none_adds_none b fs e in
    λ i. (f.0, more i) ∷ rest i

-- ---- the blocks so far

module _ (test : BlockMessage → Bool) where
  one_more : (mine verified : Bool) (b : BlockMessage) → test b ≡ verified → gbcs_said (filter test (cond mine (b ∷ []) [])) ≡ cond verified (cond mine (gbc_said b.said) []) []
  one_more true true b e = ap (λ t. gbcs_said (cond t (b ∷ []) [])) e ∙ append-nil (gbc_said b.said)
  one_more true false b e = ap (λ t. gbcs_said (cond t (b ∷ []) [])) e
  one_more false true b e = refl
  one_more false false b e = refl

  session_more : (bs : List BlockMessage) (n m : ℕ) (b : BlockMessage) (v : Bool) (s : Session) → n < length bs → m ≡ n + 1 → b ≡ get_or bs n b → v ≡ test b
      → gbcs_said (filter test (of_session (take m bs) s)) ≡ gbcs_said (filter test (of_session (take n bs) s)) ++ gbcs_added v b s
  session_more bs n m b v s below next here told =
      let before = of_session (take n bs) s in
      let mine = same_session b.session s in
      ap (λ k. gbcs_said (filter test (of_session (take k bs) s))) next
      ∙ ap (λ xs. gbcs_said (filter test xs)) (filter_more (λ (c : BlockMessage). same_session c.session s) bs n b below)
      ∙ (λ i. gbcs_said (filter test (before ++ cond (same_session (sym here i).session s) (sym here i ∷ []) [])))
      ∙ ap gbcs_said (filter-append test before (cond mine (b ∷ []) []))
      ∙ flat_map-append (λ (c : BlockMessage). gbc_said c.said) (filter test before) (filter test (cond mine (b ∷ []) []))
      ∙ ap (λ gs. gbcs_said (filter test before) ++ gs) (one_more mine v b (sym told))

  pub among_more : (ss : List Session) (bs : List BlockMessage) (n m : ℕ) (b : BlockMessage) (v : Bool) → n < length bs → m ≡ n + 1 → b ≡ get_or bs n b → v ≡ test b
      → map (with_block v b) (found_among test ss (take n bs)) ≡ found_among test ss (take m bs)
  among_more [] bs n m b v below next here told = refl
  among_more (s ∷ ss) bs n m b v below next here told =
      let head = sym (session_more bs n m b v s below next here told) in
      let rest = among_more ss bs n m b v below next here told in
      λ i. (s, head i) ∷ rest i

-- ---- the sessions

module _ (says : Answers) (bs : List BlockMessage) where
  pub nothing_yet : (xs : List JoinedSession) → map session_with_joined xs ≡ sessions_joined says bs → map nothing_of xs ≡ found_among (is_verified says bs) (sessions bs) []
  nothing_yet xs told =
      let bare : Session × Result (List ℕ) SessionState → Session × List ℕ = λ p. (p.0, []) in
      sym (map-map bare session_with_joined xs)
      ∙ ap (map bare) told
      ∙ map-map bare (λ s. (s, joined says (of_session bs s))) (sessions bs)

  -- they rise
  pub found_rise : (xs : List SessionGbcs) (some : List BlockMessage) → map found_of xs ≡ found_among (is_verified says bs) (sessions bs) some → IsStrictlySortedBy session_cmp (map session_of xs)
  found_rise xs some told =
      let first : Session × List ℕ → Session = λ f. f.0 in
      let are : sessions bs ≡ map session_of xs
      = sym (map-id (sessions bs))
      ∙ sym (map-map first (λ s. (s, gbcs_said (filter (is_verified says bs) (of_session some s)))) (sessions bs))
      ∙ sym (ap (map first) told)
      ∙ map-map first found_of xs in
      subst (IsStrictlySortedBy session_cmp) are (rises-in_order session_cmp_total session_cmp_exact (map (λ (b : BlockMessage). b.session) bs))

  -- the values in order are those of the session
  pub all_counted : map counted_in_order (found_among (is_verified says bs) (sessions bs) bs) ≡ counted_sessions says bs
  unfolding gbcs
  all_counted = map-map counted_in_order (λ s. (s, gbcs_said (filter (is_verified says bs) (of_session bs s)))) (sessions bs)

-- values that were put in order
pub gbcs_in_order : (xs ys : List ℕ) → IsStrictlySortedBy nat_cmp ys → ((x : ℕ) → Contains xs x → Any (λ y. nat_cmp x y ≡ Equal) ys) → ((x : ℕ) → Contains ys x → Contains xs x) → ys ≡ in_order nat_cmp xs
gbcs_in_order xs ys rises keeps adds_none =
    sym (map-id ys)
    ∙ in_order_by nat_cmp_total exact_unsigned (λ (n : ℕ). n) nat_cmp (λ a b. refl) xs ys rises keeps adds_none
    ∙ ap (in_order nat_cmp) (map-id xs)

-- ---- a list that is written back whole

take_front : {X : Type 0} (xs ys : List X) → take (length xs) (xs ++ ys) ≡ xs
take_front [] ys = refl
take_front (x ∷ xs) ys = ap (λ zs. x ∷ zs) (take_front xs ys)

pub written_back : {X : Type 0} (new ys : List X) (count : ℕ) → count ≡ length new → take count (new ++ ys) ≡ new
written_back new ys count e = ap (λ n. take n (new ++ ys)) e ∙ take_front new ys
