-- A map that holds payloads with their indexes, and then one more.
use Rattle.std.proofs.Common.{◌≡◌, ℕ, ◌+◌, ◌≤◌, Bool, true, false, not, List, [], ◌∷◌, ◌++◌, length, refl, sym, ap, ◌∙◌, subst, arith, cond, length-append}
use Rattle.std.specs.Prelude.{◌||◌, Option, Some, None}
use Rattle.std.specs.List.{position}
use Rattle.std.specs.Str.{bytes_eq}
use Rattle.std.specs.Ordering.{nat_cmp}
use Rattle.std.specs.Cmp.Lexicographic.{slice_cmp}
use Rattle.std.specs.BTreeMap.{BTreeMap, UpdatesBy, btree_map_len}
use Rattle.std.specs.Borrow.{Bor}
use Rattle.std.proofs.lemmas.Bool.{lt-ltb, le-ltb}
use Rattle.std.proofs.lemmas.Cmp.{nat_list_eq_equiv}
use Rattle.std.proofs.lemmas.Map.Text.{btree_map_updates_str}
use Rattle.std.proofs.lemmas.Option.{slice_get_within}
use Rattle.ss_report.specs.texts.Payloads.{index_among, is_among, with_payload}
use Rattle.ss_report.specs.texts.KnownPayloads.{Knows, found_in}
use Rattle.ss_report.proofs.of_writing.PayloadIndexes.{among_last, among_more, at_index, index_absent, index_behind, index_in_front, or_false, same}

found_case : (ws : List (List ℕ)) (p : List ℕ) (b : Bool) → is_among ws p ≡ b → position (bytes_eq p) ws ≡ cond b (Some (index_among ws p)) None
found_case ws p true is =
    let i = index_among ws p in
    ap (λ b. cond b (Some i) None) (lt-ltb i (length ws) (slice_get_within ws i p (at_index ws p is)))
found_case ws p false is =
    let i = index_among ws p in
    let past : length ws ≤ i = omega (arith, index_absent ws p is) in
    ap (λ b. cond b (Some i) None) (le-ltb i (length ws) past)

-- what is among them is found at its index
pub found_at : (ws : List (List ℕ)) (p : List ℕ) → position (bytes_eq p) ws ≡ cond (is_among ws p) (Some (index_among ws p)) None
found_at ws p = found_case ws p (is_among ws p) refl

-- what the map holds for the next payload
abbrev pub IsMarked : BTreeMap (Bor (List ℕ)) ℕ → List (List ℕ) → List ℕ → (index : ℕ) → (is_new : Bool) → Type 0
IsMarked m ps p index is_new = Knows m (with_payload ps p) × (index ≡ index_among (with_payload ps p) p) × (is_new ≡ not (is_among ps p))

abbrev pub IsMarkedAs : BTreeMap (Bor (List ℕ)) ℕ → List (List ℕ) → List ℕ → (index : ℕ) → (is_new b : Bool) → Type 0
IsMarkedAs m ps p index is_new b =
    Knows m (cond b ps (ps ++ p ∷ [])) × (index ≡ index_among (cond b ps (ps ++ p ∷ [])) p) × (is_new ≡ not b)

again_case : (m : BTreeMap (Bor (List ℕ)) ℕ) (ps : List (List ℕ)) (p : List ℕ) (index : ℕ) (b : Bool) → is_among ps p ≡ b → Knows m ps
    → Some index ≡ cond b (Some (index_among ps p)) None → IsMarkedAs m ps p index false b
again_case m ps p index true is knows found = (knows, cc, refl)
again_case m ps p index false is knows found = absurd cc

-- a payload that is found
pub marked_again : (m : BTreeMap (Bor (List ℕ)) ℕ) (ps : List (List ℕ)) (p : List ℕ) (index : ℕ) → Knows m ps → found_in m p ≡ Some index → IsMarked m ps p index false
marked_again m ps p index knows found =
    again_case m ps p index (is_among ps p) refl knows (sym found ∙ knows.found p ∙ found_at ps p)

equal_case : (ps : List (List ℕ)) (p q : List ℕ) (v : ℕ) → is_among ps p ≡ false → v ≡ length ps → p ≡ q
    → Some v ≡ cond (is_among (ps ++ p ∷ []) q) (Some (index_among (ps ++ p ∷ []) q)) None
equal_case ps p q v is many same =
    subst (λ r. Some v ≡ cond (is_among (ps ++ p ∷ []) r) (Some (index_among (ps ++ p ∷ []) r)) None) same
    (ap Some (many ∙ sym (index_behind ps [] p is)) ∙ ap (λ b. cond b (Some (index_among (ps ++ p ∷ []) p)) None) (sym (among_last ps p)))

other_case : (ps : List (List ℕ)) (p q : List ℕ) (b : Bool) → is_among ps q ≡ b
    → cond b (Some (index_among ps q)) None ≡ cond b (Some (index_among (ps ++ p ∷ []) q)) None
other_case ps p q true is = ap Some (sym (index_in_front ps (p ∷ []) q is))
other_case ps p q false is = refl

new_case : (ps : List (List ℕ)) (p q : List ℕ) (v : ℕ) (o : Option ℕ) (b : Bool) → bytes_eq p q ≡ b → is_among ps p ≡ false → v ≡ length ps
    → o ≡ cond (is_among ps q) (Some (index_among ps q)) None
    → cond b (Some v) o ≡ cond (is_among (ps ++ p ∷ []) q) (Some (index_among (ps ++ p ∷ []) q)) None
new_case ps p q v o true is absent many was = equal_case ps p q v absent many (same p q is)
new_case ps p q v o false is absent many was =
    let apart : is_among (ps ++ p ∷ []) q ≡ is_among ps q = among_more ps p q ∙ ap (λ b. is_among ps q || b) (nat_list_eq_equiv.symm q p ∙ is) ∙ or_false (is_among ps q) in
    was ∙ other_case ps p q (is_among ps q) refl ∙ ap (λ b. cond b (Some (index_among (ps ++ p ∷ []) q)) None) (sym apart)

-- the map after the payload was put in under the number of those before
put_in : (m n : BTreeMap (Bor (List ℕ)) ℕ) (ps : List (List ℕ)) (p : List ℕ) (v : ℕ) → Knows m ps → is_among ps p ≡ false → v ≡ length ps
    → UpdatesBy (λ x y. slice_cmp nat_cmp x.now y.now) (λ k. slice_cmp nat_cmp p k.now) m n (Some v) → btree_map_len n ≡ btree_map_len m + 1
    → Knows n (ps ++ p ∷ [])
put_in m n ps p v knows absent many updates more = record {
  found = λ q. btree_map_updates_str p m n (Some v) updates q
      ∙ new_case ps p q v (found_in m q) (bytes_eq p q) refl absent many (knows.found q ∙ found_at ps q)
      ∙ sym (found_at (ps ++ p ∷ []) q);
  many = more ∙ ap (λ k. k + 1) knows.many ∙ sym (length-append ps (p ∷ []));
}

more_case : (m n : BTreeMap (Bor (List ℕ)) ℕ) (ps : List (List ℕ)) (p : List ℕ) (v : ℕ) (b : Bool) → is_among ps p ≡ b → Knows m ps → None ≡ cond b (Some (index_among ps p)) None
    → v ≡ length ps
    → UpdatesBy (λ x y. slice_cmp nat_cmp x.now y.now) (λ k. slice_cmp nat_cmp p k.now) m n (Some v) → btree_map_len n ≡ btree_map_len m + 1
    → IsMarkedAs n ps p v true b
more_case m n ps p v true is knows absent many updates more = absurd cc
more_case m n ps p v false is knows absent many updates more = (put_in m n ps p v knows is many updates more, many ∙ sym (index_behind ps [] p is), refl)

-- a payload that isn't found, and is put in
pub marked_new : (m n : BTreeMap (Bor (List ℕ)) ℕ) (ps : List (List ℕ)) (p : List ℕ) (v : ℕ) → Knows m ps → found_in m p ≡ None
    → v ≡ btree_map_len m
    → UpdatesBy (λ x y. slice_cmp nat_cmp x.now y.now) (λ k. slice_cmp nat_cmp p k.now) m n (Some v) → btree_map_len n ≡ btree_map_len m + 1
    → IsMarked n ps p v true
marked_new m n ps p v knows absent len updates more =
    more_case m n ps p v (is_among ps p) refl knows (sym absent ∙ knows.found p ∙ found_at ps p) (len ∙ knows.many) updates more
