-- What certificate blocks state together: as sets, and as it is computed from the list of them.
use Rattle.std.proofs.Common.{◌≡◌, ℕ, zero, suc, ◌+◌, ◌<◌, ◌≤◌, ◌⊎◌, inl, inr, Bool, true, false, cond, ◌&&◌, ◌||◌, not, List, [], ◌∷◌, ◌++◌, length, get_or, take, map, Bor, refl, sym, ap, ◌∙◌, subst, arith}
use Rattle.std.specs.Prelude.{◌≢◌, ◌==◌, nat_le, nat_lt, slice_index, Some, find, Err}
use Rattle.std.specs.FinSet as set
use Rattle.std.specs.FinSet.{IsAntisymmetric, contains-union, contains-from_list, contains-insert, contains-empty, nat_cmp-IsAntisymmetric}
use Rattle.std.specs.List.{list_any, list_all, range_with_len}
use Rattle.std.specs.declared.cmp.Ordering.{Ordering}
use Rattle.std.specs.Ordering.{nat_cmp, eq_by_cmp, is_eq}
use Rattle.std.specs.Cmp.{IsTotalOrder, Equal-is, nat_cmp_total}
use Rattle.std.proofs.lemmas.Bool.{cases_eq, eqb-true, eqb-false, eq-eqb, ne_eqb, not-true, le-leb, lt-ltb, leb-true, ltb-true, true≢false, or_cases, or_left, or_right, and_parts, and_from, false_from_ne_true}
use Rattle.std.proofs.lemmas.Cmp.{then_total, on_total, tied_itself}
use Rattle.std.proofs.lemmas.List.{map_more}
use Rattle.std.proofs.lemmas.List.Elements.{filter_map-append}
use Rattle.std.proofs.lemmas.List.Sums.{fold-append}
use Rattle.std.proofs.lemmas.Map.Lookups.{exact_pairs}
use Rattle.std.proofs.Math.Bool.{or-false, or_assoc}
use Rattle.std.proofs.lemmas.List.Folds.{list_any-append}
use Rattle.ss_block.specs.Block as block
use Rattle.ss_payload.specs.declared.joiner.JoinState.{JoinState}
use Rattle.ss_payload.specs.declared.joiner.JoinState.TheVariants.{Incomplete, Disputed, Whole}
use Rattle.ss_block.specs.Joining.{Stated, placed_cmp, placed, nothing_stated, with_fragment, HasTotal, HasOctet, IsDisputed, HasGap, HasState, IsPayload}
use Rattle.ss_review.specs.keep.BlockMessage.{BlockMessage}
use Rattle.ss_review.specs.declared.report.session_report.SessionState.TheVariants as states
use Rattle.ss_review.specs.sessions.Payloads.{certificate_of, certificates, octets, clash, is_disputed, has_index, cover, lacks_some, octet_found, octet_at, joined_text, payload_or_malformed, stated_payload}
use Rattle.ss_review.specs.sessions.Stated.{stated_after, stated_in_turn, unjoined}
use Rattle.ss_octets.proofs.Members.{Has, has-map, from_has-map, has-flat_map, from_has-flat_map}
use Rattle.ss_review.proofs.of_lists.Tests.{any_member, member_any, all_member, not_all, in_range, from_in_range}
use Rattle.ss_review.specs.sessions.States.{stated_by}

placed_cmp_total : IsTotalOrder placed_cmp
placed_cmp_total = then_total (on_total (λ (p : ℕ × ℕ). p.0) nat_cmp_total) (on_total (λ (p : ℕ × ℕ). p.1) nat_cmp_total)

placed_cmp-IsAntisymmetric : IsAntisymmetric placed_cmp
placed_cmp-IsAntisymmetric = exact_pairs nat_cmp nat_cmp nat_cmp-IsAntisymmetric nat_cmp-IsAntisymmetric

-- ---- sets and lists

module _ {K : Type 0} {R : K → K → Ordering} (o : IsTotalOrder R) (exact : IsAntisymmetric R) where
  listed_from_test : (ks : List K) (q : K) → list_any (eq_by_cmp R q) ks ≡ true → Has ks q
  listed_from_test ks q e =
      let w : (x : K) × Has ks x × (eq_by_cmp R q x ≡ true) = any_member (eq_by_cmp R q) ks e in
      subst (Has ks) (sym (exact q w.0 ((Equal-is (R q w.0)).0 w.2))) w.1

  test_from_listed : (ks : List K) (q : K) → Has ks q → list_any (eq_by_cmp R q) ks ≡ true
  test_from_listed ks q h = member_any (eq_by_cmp R q) ks q h (ap is_eq (tied_itself o q))

-- ---- what is stated by fragments that come in turn

abbrev totals_of : List block.Certificate → List ℕ
totals_of cs = map (λ c. c.total) cs

turned : (a b c : Bool) → ((a || b) || c) ≡ (b || (a || c))
turned true true c = refl
turned true false c = refl
turned false b c = refl

total_stated : (s : Stated) (cs : List block.Certificate) (t : ℕ) → set.contains (stated_after s cs).totals t ≡ (set.contains s.totals t || list_any (eq_by_cmp nat_cmp t) (totals_of cs))
unfolding with_fragment
total_stated s [] t = sym (or-false (set.contains s.totals t))
total_stated s (c ∷ cs) t =
    total_stated (with_fragment s c.total c.index c.fragment) cs t
    ∙ ap (λ b. b || list_any (eq_by_cmp nat_cmp t) (totals_of cs)) (contains-insert nat_cmp_total s.totals c.total t)
    ∙ turned (eq_by_cmp nat_cmp t c.total) (set.contains s.totals t) (list_any (eq_by_cmp nat_cmp t) (totals_of cs))

octet_stated : (s : Stated) (cs : List block.Certificate) (p : ℕ × ℕ) → set.contains (stated_after s cs).octets p ≡ (set.contains s.octets p || list_any (eq_by_cmp placed_cmp p) (octets cs))
unfolding with_fragment
octet_stated s [] p = sym (or-false (set.contains s.octets p))
octet_stated s (c ∷ cs) p =
    let is = eq_by_cmp placed_cmp p in
    let own = placed c.index c.fragment in
    octet_stated (with_fragment s c.total c.index c.fragment) cs p
    ∙ ap (λ b. b || list_any is (octets cs)) (contains-union placed_cmp_total s.octets (set.from_list own) p ∙ ap (λ b. set.contains s.octets p || b) (contains-from_list placed_cmp_total own p))
    ∙ or_assoc (set.contains s.octets p) (list_any is own) (list_any is (octets cs))
    ∙ ap (λ b. set.contains s.octets p || b) (sym (list_any-append is own (octets cs)))

-- one more fragment
pub stated_push : (cs : List block.Certificate) (c : block.Certificate) → stated_in_turn (cs ++ c ∷ []) ≡ with_fragment (stated_in_turn cs) c.total c.index c.fragment
stated_push cs c = fold-append (λ s (d : block.Certificate). with_fragment s d.total d.index d.fragment) nothing_stated cs (c ∷ [])

-- what is stated is what the fragments state, and nothing else
pub record IsStatedBy (s : Stated) (cs : List block.Certificate) : Type 0 where
  pub total : (t : ℕ) → HasTotal s t → Has (totals_of cs) t
  pub has_total : (t : ℕ) → Has (totals_of cs) t → HasTotal s t
  pub octet : (i o : ℕ) → HasOctet s i o → Has (octets cs) (i, o)
  pub has_octet : (p : ℕ × ℕ) → Has (octets cs) p → HasOctet s p.0 p.1

told_by_tests : (s : Stated) (cs : List block.Certificate)
    → ((t : ℕ) → set.contains s.totals t ≡ list_any (eq_by_cmp nat_cmp t) (totals_of cs))
    → ((p : ℕ × ℕ) → set.contains s.octets p ≡ list_any (eq_by_cmp placed_cmp p) (octets cs))
    → IsStatedBy s cs
told_by_tests s cs totals octets_are = record {
  total = λ t h. listed_from_test nat_cmp_total nat_cmp-IsAntisymmetric (totals_of cs) t (sym (totals t) ∙ h);
  has_total = λ t h. totals t ∙ test_from_listed nat_cmp_total nat_cmp-IsAntisymmetric (totals_of cs) t h;
  octet = λ i o h. listed_from_test placed_cmp_total placed_cmp-IsAntisymmetric (octets cs) (i, o) (sym (octets_are (i, o)) ∙ h);
  has_octet = λ p h. octets_are p ∙ test_from_listed placed_cmp_total placed_cmp-IsAntisymmetric (octets cs) p h;
}

pub stated_in_turn-IsStatedBy : (cs : List block.Certificate) → IsStatedBy (stated_in_turn cs) cs
unfolding nothing_stated
stated_in_turn-IsStatedBy cs =
    told_by_tests (stated_in_turn cs) cs
    (λ t. total_stated nothing_stated cs t ∙ ap (λ b. b || list_any (eq_by_cmp nat_cmp t) (totals_of cs)) (contains-empty nat_cmp t))
    (λ p. octet_stated nothing_stated cs p ∙ ap (λ b. b || list_any (eq_by_cmp placed_cmp p) (octets cs)) (contains-empty placed_cmp p))

pub stated_by-IsStatedBy : (cs : List block.Certificate) → IsStatedBy (stated_by cs) cs
unfolding stated_by
stated_by-IsStatedBy cs =
    told_by_tests (stated_by cs) cs (λ t. contains-from_list nat_cmp_total (totals_of cs) t) (λ p. contains-from_list placed_cmp_total (octets cs) p)

-- ---- the octets of one fragment

pub has-placed : (index : ℕ) (fragment : List ℕ) (i : ℕ) → index ≤ i → i < index + length fragment → (o : ℕ) × Has (placed index fragment) (i, o)
has-placed index [] i low high = absurd (omega arith)
has-placed index (x ∷ xs) i low high =
    elim (cases_eq index i) [
      | inl e ↦ (x, inl (λ j. (e j, x)))
      | inr apart ↦ (let w : (o : ℕ) × Has (placed (index + 1) xs) (i, o) = has-placed (index + 1) xs i (omega (arith, apart)) (omega arith) in (w.0, inr w.1))
    ]

pub from_has-placed : (index : ℕ) (fragment : List ℕ) (p : ℕ × ℕ) → Has (placed index fragment) p → (index ≤ p.0) × (p.0 < index + length fragment)
from_has-placed index [] p h = absurd h
from_has-placed index (x ∷ xs) p (inl e) = let at : index ≡ p.0 = ap (λ (q : ℕ × ℕ). q.0) e in (omega (arith, at), omega (arith, at))
from_has-placed index (x ∷ xs) p (inr h) =
    let w : (index + 1 ≤ p.0) × (p.0 < index + 1 + length xs) = from_has-placed (index + 1) xs p h in
    (omega (arith, w.0), omega (arith, w.1))

within_true : (c : block.Certificate) (i : ℕ) → c.index ≤ i → i < c.index + length c.fragment → (nat_le c.index i && nat_lt i (c.index + length c.fragment)) ≡ true
within_true c i low high = and_from (nat_le c.index i) (nat_lt i (c.index + length c.fragment)) (le-leb c.index i low) (lt-ltb i (c.index + length c.fragment) high)

within_from : (c : block.Certificate) (i : ℕ) → (nat_le c.index i && nat_lt i (c.index + length c.fragment)) ≡ true → (c.index ≤ i) × (i < c.index + length c.fragment)
within_from c i e = let b = and_parts (nat_le c.index i) (nat_lt i (c.index + length c.fragment)) e in (leb-true c.index i b.0, ltb-true i (c.index + length c.fragment) b.1)

-- an index has an octet exactly where some fragment covers it
index_from_octet : (cs : List block.Certificate) (p : ℕ × ℕ) → Has (octets cs) p → has_index cs p.0 ≡ true
index_from_octet cs p h =
    let w : (c : block.Certificate) × Has cs c × Has (placed c.index c.fragment) p = from_has-flat_map (λ (c : block.Certificate). placed c.index c.fragment) cs p h in
    let b = from_has-placed w.0.index w.0.fragment p w.2 in
    member_any (λ (c : block.Certificate). nat_le c.index p.0 && nat_lt p.0 (c.index + length c.fragment)) cs w.0 w.1 (within_true w.0 p.0 b.0 b.1)

pub octet_from_index : (cs : List block.Certificate) (i : ℕ) → has_index cs i ≡ true → (o : ℕ) × Has (octets cs) (i, o)
octet_from_index cs i e =
    let w : (c : block.Certificate) × Has cs c × ((nat_le c.index i && nat_lt i (c.index + length c.fragment)) ≡ true)
    = any_member (λ (c : block.Certificate). nat_le c.index i && nat_lt i (c.index + length c.fragment)) cs e in
    let b = within_from w.0 i w.2 in
    let f : (o : ℕ) × Has (placed w.0.index w.0.fragment) (i, o) = has-placed w.0.index w.0.fragment i b.0 b.1 in
    (f.0, has-flat_map (λ (c : block.Certificate). placed c.index c.fragment) cs w.0 (i, f.0) w.1 f.1)

-- ---- disputes

differ : (x y : ℕ) → not (x == y) ≡ true → x ≢ y
differ x y e = eqb-false x y (not-true _ e)

unlike : (x y : ℕ) → x ≢ y → not (x == y) ≡ true
unlike x y n = ap not (ne_eqb x y n)

pub disputed_from : (cs : List block.Certificate) (s : Stated) → IsStatedBy s cs → is_disputed cs ≡ true → IsDisputed s
unfolding is_disputed IsDisputed
disputed_from cs s told e =
    elim (or_cases _ _ e) [
      | inl a ↦ (
          let c : (c : block.Certificate) × Has cs c × (list_any (λ (d : block.Certificate). not (c.total == d.total)) cs ≡ true)
          = any_member (λ (c : block.Certificate). list_any (λ (d : block.Certificate). not (c.total == d.total)) cs) cs a in
          let d : (d : block.Certificate) × Has cs d × (not (c.0.total == d.total) ≡ true) = any_member (λ (d : block.Certificate). not (c.0.total == d.total)) cs c.2 in
          inl (c.0.total, d.0.total, told.has_total c.0.total (has-map (λ (c : block.Certificate). c.total) cs c.0 c.1), told.has_total d.0.total (has-map (λ (c : block.Certificate). c.total) cs d.0 d.1), differ c.0.total d.0.total d.2))
      | inr b ↦ (
          let p : (p : ℕ × ℕ) × Has (octets cs) p × (list_any (clash p) (octets cs) ≡ true) = any_member (λ (p : ℕ × ℕ). list_any (clash p) (octets cs)) (octets cs) b in
          let q : (q : ℕ × ℕ) × Has (octets cs) q × (clash p.0 q ≡ true) = any_member (clash p.0) (octets cs) p.2 in
          let t = and_parts _ _ q.2 in
          inr (p.0.0, p.0.1, q.0.1, told.has_octet p.0 p.1, subst (λ i. HasOctet s i q.0.1) (sym (eqb-true p.0.0 q.0.0 t.0)) (told.has_octet q.0 q.1), differ p.0.1 q.0.1 t.1))
    ]

pub disputed_to : (cs : List block.Certificate) (s : Stated) → IsStatedBy s cs → IsDisputed s → is_disputed cs ≡ true
unfolding is_disputed IsDisputed
disputed_to cs s told (inl d) =
    let c : (c : block.Certificate) × Has cs c × (c.total ≡ d.0) = from_has-map (λ (c : block.Certificate). c.total) cs d.0 (told.total d.0 d.2) in
    let e : (c : block.Certificate) × Has cs c × (c.total ≡ d.1) = from_has-map (λ (c : block.Certificate). c.total) cs d.1 (told.total d.1 d.3) in
    or_left _ _ (member_any (λ (c : block.Certificate). list_any (λ (d : block.Certificate). not (c.total == d.total)) cs) cs c.0 c.1
    (member_any (λ (d : block.Certificate). not (c.0.total == d.total)) cs e.0 e.1 (unlike c.0.total e.0.total (λ same. d.4 (sym c.2 ∙ same ∙ e.2)))))
disputed_to cs s told (inr d) =
    or_right _ _ (member_any (λ (p : ℕ × ℕ). list_any (clash p) (octets cs)) (octets cs) (d.0, d.1) (told.octet d.0 d.1 d.3)
    (member_any (clash (d.0, d.1)) (octets cs) (d.0, d.2) (told.octet d.0 d.2 d.4) (and_from _ _ (eq-eqb d.0 d.0 refl) (unlike d.1 d.2 d.5))))

pub not_disputed : (cs : List block.Certificate) (s : Stated) → IsStatedBy s cs → ¬ IsDisputed s → is_disputed cs ≡ false
not_disputed cs s told n = false_from_ne_true (is_disputed cs) (λ holds. n (disputed_from cs s told holds))

-- where nothing is disputed, two totals are one
one_total : (s : Stated) (t u : ℕ) → ¬ IsDisputed s → HasTotal s t → HasTotal s u → t ≡ u
unfolding IsDisputed
one_total s t u n h k = elim (cases_eq t u) [ inl e ↦ e | inr apart ↦ absurd (n (inl (t, u, h, k, apart))) ]

-- and two octets at one index
one_octet : (s : Stated) (i o p : ℕ) → ¬ IsDisputed s → HasOctet s i o → HasOctet s i p → o ≡ p
unfolding IsDisputed
one_octet s i o p n h k = elim (cases_eq o p) [ inl e ↦ e | inr apart ↦ absurd (n (inr (i, o, p, h, k, apart))) ]

-- ---- gaps

pub lacks_from_gap : (cs : List block.Certificate) (s : Stated) → IsStatedBy s cs → ¬ IsDisputed s → HasGap s → lacks_some cs ≡ true
unfolding HasGap cover
lacks_from_gap [] s told n g = refl
lacks_from_gap (c ∷ cs) s told n (inl none) = absurd (none c.total (told.has_total c.total (inl refl)))
lacks_from_gap (c ∷ cs) s told n (inr g) =
    let same : g.0 ≡ c.total = one_total s g.0 c.total n g.2 (told.has_total c.total (inl refl)) in
    ap not
    (false_from_ne_true (list_all (has_index (c ∷ cs)) (range_with_len 1 c.total)) (λ holds.
    (let o : (o : ℕ) × Has (octets (c ∷ cs)) (g.1, o)
    = octet_from_index (c ∷ cs) g.1 (all_member (has_index (c ∷ cs)) (range_with_len 1 c.total) holds g.1 (in_range 1 c.total g.1 g.3 (omega (arith, g.4, same)))) in
    g.5 o.0 (told.has_octet (g.1, o.0) o.1))))

pub gap_from_lacks : (cs : List block.Certificate) (s : Stated) → IsStatedBy s cs → lacks_some cs ≡ true → HasGap s
unfolding HasGap cover
gap_from_lacks [] s told e = inl (λ t h. told.total t h)
gap_from_lacks (c ∷ cs) s told e =
    let w : (i : ℕ) × Has (range_with_len 1 c.total) i × (has_index (c ∷ cs) i ≡ false) = not_all (has_index (c ∷ cs)) (range_with_len 1 c.total) (not-true _ e) in
    let r = from_in_range 1 c.total w.0 w.1 in
    inr (
      c.total,
      w.0,
      told.has_total c.total (inl refl),
      r.0,
      omega (arith, r.1),
      λ o h. (let no : true ≡ false = sym (index_from_octet (c ∷ cs) (w.0, o) (told.octet w.0 o h)) ∙ w.2 in true≢false no),
    )

pub not_lacking : (cs : List block.Certificate) (s : Stated) → IsStatedBy s cs → ¬ HasGap s → lacks_some cs ≡ false
not_lacking cs s told n = false_from_ne_true (lacks_some cs) (λ holds. n (gap_from_lacks cs s told holds))

-- ---- the text

found_at : (b : Bool) (p : ℕ × ℕ) (ps : List (ℕ × ℕ)) (i o : ℕ) → (p.0 == i) ≡ b → ((w : ℕ) × (octet_at ps i ≡ w) × Has ps (i, w)) ⊎ (p ≡ (i, o))
    → (w : ℕ) × (octet_found (cond b (Some p) (find (λ q. q.0 == i) ps)) ≡ w) × Has (p ∷ ps) (i, w)
found_at true p ps i o t h = (p.1, refl, inl (λ j. (eqb-true p.0 i t j, p.1)))
found_at false p ps i o t (inl w) = (w.0, w.1, inr w.2)
found_at false p ps i o t (inr e) = absurd (eqb-false p.0 i t (ap (λ (q : ℕ × ℕ). q.0) e))

pub found : (ps : List (ℕ × ℕ)) (i o : ℕ) → Has ps (i, o) → (w : ℕ) × (octet_at ps i ≡ w) × Has ps (i, w)
found [] i o h = absurd h
found (p ∷ ps) i o (inl e) = found_at (p.0 == i) p ps i o refl (inr e)
found (p ∷ ps) i o (inr h) = found_at (p.0 == i) p ps i o refl (inl (found ps i o h))

range_text : (f : ℕ → ℕ) (a n : ℕ) (text : List ℕ) → length text ≡ n → ((i : ℕ) → i < n → f (a + i) ≡ slice_index text i) → map f (range_with_len a n) ≡ text
range_text f a zero [] l e = refl
range_text f a zero (x ∷ xs) l e = absurd (omega (arith, l))
range_text f a (suc n) [] l e = absurd (omega (arith, l))
range_text f a (suc n) (x ∷ xs) l e =
    let here : a ≡ a + 0 = omega arith in
    let head : f a ≡ x = ap f here ∙ e 0 (omega arith) in
    let rest : map f (range_with_len (a + 1) n) ≡ xs
    = range_text f (a + 1) n xs (omega (arith, l)) (λ i h. (let next : a + 1 + i ≡ a + suc i = omega arith in ap f next ∙ e (suc i) (omega (arith, h)))) in
    λ j. head j ∷ rest j

pub text_is : (cs : List block.Certificate) (s : Stated) → IsStatedBy s cs → ¬ IsDisputed s → (text : List ℕ) → IsPayload s text → joined_text cs ≡ text
unfolding joined_text
text_is [] s told n text p = absurd (told.total (length text) p.total)
text_is (c ∷ cs) s told n text p =
    let long : length text ≡ c.total = one_total s (length text) c.total n p.total (told.has_total c.total (inl refl)) in
    range_text (octet_at (octets (c ∷ cs))) 1 c.total text long (λ i h.
    (let stated : HasOctet s (i + 1) (slice_index text i) = p.octets i (omega (arith, h, long)) in
    let w : (w : ℕ) × (octet_at (octets (c ∷ cs)) (i + 1) ≡ w) × Has (octets (c ∷ cs)) (i + 1, w) = found (octets (c ∷ cs)) (i + 1) (slice_index text i) (told.octet (i + 1) (slice_index text i) stated) in
    let turned : 1 + i ≡ i + 1 = omega arith in
    ap (octet_at (octets (c ∷ cs))) turned ∙ w.1 ∙ one_octet s (i + 1) w.0 (slice_index text i) n (told.has_octet (i + 1, w.0) w.2) stated))

-- ---- what is stated, by the state of a joiner

pub whole_payload : (cs : List block.Certificate) (s : Stated) → IsStatedBy s cs → HasState s Whole → (text : List ℕ) → IsPayload s text → stated_payload cs ≡ payload_or_malformed text
unfolding stated_payload
whole_payload cs s told w text p =
    ap (λ b. cond b (Err states.Disputed) (cond (lacks_some cs) (Err states.Incomplete) (payload_or_malformed (joined_text cs)))) (not_disputed cs s told w.0)
    ∙ ap (λ b. cond b (Err states.Incomplete) (payload_or_malformed (joined_text cs))) (not_lacking cs s told w.1)
    ∙ ap payload_or_malformed (text_is cs s told w.0 text p)

pub unjoined_payload : (cs : List block.Certificate) (s : Stated) → IsStatedBy s cs → ¬ HasState s Whole → (state : JoinState) → HasState s state → stated_payload cs ≡ Err (unjoined state)
unfolding stated_payload
unjoined_payload cs s told n Disputed d =
    ap (λ b. cond b (Err states.Disputed) (cond (lacks_some cs) (Err states.Incomplete) (payload_or_malformed (joined_text cs)))) (disputed_to cs s told d)
unjoined_payload cs s told n Incomplete i =
    ap (λ b. cond b (Err states.Disputed) (cond (lacks_some cs) (Err states.Incomplete) (payload_or_malformed (joined_text cs)))) (not_disputed cs s told i.0)
    ∙ ap (λ b. cond b (Err states.Incomplete) (payload_or_malformed (joined_text cs))) (lacks_from_gap cs s told i.0 i.1)
unjoined_payload cs s told n Whole w = absurd (n w)

-- ---- the certificate blocks among blocks

pub certificates_more : (bs : List (Bor BlockMessage)) (i : ℕ) (b : Bor BlockMessage) → i < length bs → b ≡ get_or bs i b
    → certificates (map (λ (m : Bor BlockMessage). m.now) (take (i + 1) bs)) ≡ certificates (map (λ (m : Bor BlockMessage). m.now) (take i bs)) ++ certificates (b.now ∷ [])
certificates_more bs i b below e =
    ap certificates (map_more (λ (m : Bor BlockMessage). m.now) bs i b below)
    ∙ filter_map-append (λ (m : BlockMessage). certificate_of m.said) (map (λ (m : Bor BlockMessage). m.now) (take i bs)) ((get_or bs i b).now ∷ [])
    ∙ ap (λ (m : Bor BlockMessage). certificates (map (λ (m : Bor BlockMessage). m.now) (take i bs)) ++ certificates (m.now ∷ [])) (sym e)
