-- Payloads, each once, and their indexes.
use Rattle.std.proofs.Common.{suc, ◌≡◌, ℕ, ◌+◌, Bool, true, false, not, List, [], ◌∷◌, ◌++◌, length, refl, sym, ap, ◌∙◌, subst, arith, append_assoc, append-nil, cond}
use Rattle.std.specs.Prelude.{◌||◌, Some, slice_get, fold}
use Rattle.std.specs.List.{IsDistinct}
use Rattle.std.specs.Str.{bytes_eq}
use Rattle.std.proofs.lemmas.List.Folds.{list_any-append}
use Rattle.std.proofs.lemmas.Slice.Eq.{bytes_eq-Decides}
use Rattle.std.proofs.lemmas.Cmp.{nat_list_eq_equiv}
use Rattle.std.proofs.lemmas.Map.Keys.{IsDistinct-push}
use Rattle.ss_report.specs.texts.Payloads.{each_once, index_among, is_among, mark, marks_behind, with_payload}

pub same : (p q : List ℕ) → bytes_eq p q ≡ true → p ≡ q
same p q e = (bytes_eq-Decides p q).0 e

pub itself : (p : List ℕ) → bytes_eq p p ≡ true
itself p = (bytes_eq-Decides p p).1 refl

pub or_false : (b : Bool) → (b || false) ≡ b
or_false true = refl
or_false false = refl

or_assoc : (a b c : Bool) → ((a || b) || c) ≡ (a || (b || c))
or_assoc true b c = refl
or_assoc false b c = refl

or_true : (a : Bool) → (a || true) ≡ true
or_true true = refl
or_true false = refl

-- what is among these, or equals one that is
pub covered : (ps : List (List ℕ)) (x p : List ℕ) (e : Bool) → bytes_eq p x ≡ e → is_among ps x ≡ true → is_among ps p ≡ (is_among ps p || e)
covered ps x p false is among = sym (or_false (is_among ps p))
covered ps x p true is among = subst (λ y. is_among ps y ≡ true) (sym (same p x is)) among ∙ sym (or_true (is_among ps p))

with_case : (ps : List (List ℕ)) (x p : List ℕ) (b : Bool) → is_among ps x ≡ b → is_among (cond b ps (ps ++ x ∷ [])) p ≡ (is_among ps p || bytes_eq p x)
with_case ps x p true is = covered ps x p (bytes_eq p x) refl is
with_case ps x p false is = list_any-append (bytes_eq p) ps (x ∷ []) ∙ ap (λ b. is_among ps p || b) (or_false (bytes_eq p x))

pub among_with : (ps : List (List ℕ)) (x p : List ℕ) → is_among (with_payload ps x) p ≡ (is_among ps p || bytes_eq p x)
among_with ps x p = with_case ps x p (is_among ps x) refl

pub among_folded : (ps xs : List (List ℕ)) (p : List ℕ) → is_among (fold with_payload ps xs) p ≡ (is_among ps p || is_among xs p)
among_folded ps [] p = sym (or_false (is_among ps p))
among_folded ps (x ∷ xs) p =
    among_folded (with_payload ps x) xs p ∙ ap (λ b. b || is_among xs p) (among_with ps x p) ∙ or_assoc (is_among ps p) (bytes_eq p x) (is_among xs p)

-- the same payloads are among them, each once
pub among_once : (xs : List (List ℕ)) (p : List ℕ) → is_among (each_once xs) p ≡ is_among xs p
unfolding each_once
among_once xs p = among_folded [] xs p

folded_more : (ps xs ys : List (List ℕ)) → fold with_payload ps (xs ++ ys) ≡ fold with_payload (fold with_payload ps xs) ys
folded_more ps [] ys = refl
folded_more ps (x ∷ xs) ys = folded_more (with_payload ps x) xs ys

pub once_more : (xs : List (List ℕ)) (p : List ℕ) → each_once (xs ++ p ∷ []) ≡ with_payload (each_once xs) p
unfolding each_once
once_more xs p = folded_more [] xs (p ∷ [])

with_behind : (ps : List (List ℕ)) (x : List ℕ) (b : Bool) → (zs : List (List ℕ)) × (cond b ps (ps ++ x ∷ []) ≡ ps ++ zs)
with_behind ps x true = ([], sym (append-nil ps))
with_behind ps x false = (x ∷ [], refl)

pub folded_behind : (ps xs : List (List ℕ)) → (zs : List (List ℕ)) × (fold with_payload ps xs ≡ ps ++ zs)
folded_behind ps [] = ([], sym (append-nil ps))
folded_behind ps (x ∷ xs) =
    let first = with_behind ps x (is_among ps x) in
    let rest = folded_behind (with_payload ps x) xs in
    (first.0 ++ rest.0, rest.1 ∙ ap (λ l. l ++ rest.0) first.1 ∙ append_assoc ps first.0 rest.0)

front_case : (x : List ℕ) (ws zs : List (List ℕ)) (p : List ℕ) (b : Bool) → (b || is_among ws p) ≡ true
    → (is_among ws p ≡ true → index_among (ws ++ zs) p ≡ index_among ws p)
    → cond (not b) (1 + index_among (ws ++ zs) p) 0 ≡ cond (not b) (1 + index_among ws p) 0
front_case x ws zs p true among rest = refl
front_case x ws zs p false among rest = ap (λ n. 1 + n) (rest among)

-- the index of a payload stays where others come after it
pub index_in_front : (ws zs : List (List ℕ)) (p : List ℕ) → is_among ws p ≡ true → index_among (ws ++ zs) p ≡ index_among ws p
index_in_front [] zs p among = absurd cc
index_in_front (x ∷ ws) zs p among = front_case x ws zs p (bytes_eq p x) among (index_in_front ws zs p)

missing_case : (ws zs : List (List ℕ)) (p : List ℕ) (b : Bool) → (b || is_among ws p) ≡ false
    → (is_among ws p ≡ false → index_among (ws ++ p ∷ zs) p ≡ length ws)
    → cond (not b) (1 + index_among (ws ++ p ∷ zs) p) 0 ≡ 1 + length ws
missing_case ws zs p true among rest = absurd cc
missing_case ws zs p false among rest = ap (λ n. 1 + n) (rest among)

-- after others, of which none equals it, its index is their number
pub index_behind : (ws zs : List (List ℕ)) (p : List ℕ) → is_among ws p ≡ false → index_among (ws ++ p ∷ zs) p ≡ length ws
index_behind [] zs p among = ap (λ b. cond (not b) (1 + index_among zs p) 0) (itself p)
index_behind (x ∷ ws) zs p among = missing_case ws zs p (bytes_eq p x) among (index_behind ws zs p) ∙ omega arith

at_case : (x : List ℕ) (ws : List (List ℕ)) (p : List ℕ) (b : Bool) → bytes_eq p x ≡ b → (b || is_among ws p) ≡ true
    → (is_among ws p ≡ true → slice_get ws (index_among ws p) ≡ Some p)
    → slice_get (x ∷ ws) (cond (not b) (1 + index_among ws p) 0) ≡ Some p
at_case x ws p true is among rest = ap Some (sym (same p x is))
at_case x ws p false is among rest =
    let n = index_among ws p in
    let more : 1 + n ≡ suc n = omega arith in ap (slice_get (x ∷ ws)) more ∙ rest among

-- a payload stands at its index
pub at_index : (ws : List (List ℕ)) (p : List ℕ) → is_among ws p ≡ true → slice_get ws (index_among ws p) ≡ Some p
at_index [] p among = absurd cc
at_index (x ∷ ws) p among = at_case x ws p (bytes_eq p x) refl among (at_index ws p)

pub among_last : (ws : List (List ℕ)) (p : List ℕ) → is_among (ws ++ p ∷ []) p ≡ true
among_last ws p = list_any-append (bytes_eq p) ws (p ∷ []) ∙ ap (λ b. is_among ws p || (b || false)) (itself p) ∙ or_true (is_among ws p)

next_case : (ws : List (List ℕ)) (p : List ℕ) (b : Bool) → is_among ws p ≡ b → is_among (cond b ws (ws ++ p ∷ [])) p ≡ true
next_case ws p true is = is
next_case ws p false is = among_last ws p

-- a payload is among them from then on
pub next_among : (ws : List (List ℕ)) (p : List ℕ) → is_among (with_payload ws p) p ≡ true
next_among ws p = next_case ws p (is_among ws p) refl

-- the index of a payload among all, each once, is that among those up to it
pub index_of_next : (known before : List (List ℕ)) (p : List ℕ) (rest : List (List ℕ)) → known ≡ each_once (before ++ p ∷ rest)
    → index_among known p ≡ index_among (with_payload (each_once before) p) p
unfolding each_once
index_of_next known before p rest is =
    let ws = each_once before in
    let behind = folded_behind (with_payload ws p) rest in
    ap (λ l. index_among l p) (is ∙ folded_more [] before (p ∷ rest) ∙ behind.1) ∙ index_in_front (with_payload ws p) behind.0 p (next_among ws p)

distinct_case : (ws : List (List ℕ)) (p : List ℕ) (b : Bool) → is_among ws p ≡ b → IsDistinct bytes_eq ws → IsDistinct bytes_eq (cond b ws (ws ++ p ∷ []))
distinct_case ws p true is distinct = distinct
distinct_case ws p false is distinct = IsDistinct-push nat_list_eq_equiv ws p distinct is

distinct_folded : (ws xs : List (List ℕ)) → IsDistinct bytes_eq ws → IsDistinct bytes_eq (fold with_payload ws xs)
distinct_folded ws [] distinct = distinct
distinct_folded ws (x ∷ xs) distinct = distinct_folded (with_payload ws x) xs (distinct_case ws x (is_among ws x) refl distinct)

nothing_distinct : IsDistinct bytes_eq []
unfolding IsDistinct
nothing_distinct = tt

-- none of them stands twice
pub distinct_once : (xs : List (List ℕ)) → IsDistinct bytes_eq (each_once xs)
unfolding each_once
distinct_once xs = distinct_folded [] xs nothing_distinct

-- with one more payload after them
pub among_more : (ps : List (List ℕ)) (x p : List ℕ) → is_among (ps ++ x ∷ []) p ≡ (is_among ps p || bytes_eq p x)
among_more ps x p = list_any-append (bytes_eq p) ps (x ∷ []) ∙ ap (λ b. is_among ps p || b) (or_false (bytes_eq p x))

pub marks_more : (known before xs : List (List ℕ)) (p : List ℕ) → marks_behind known before (xs ++ p ∷ []) ≡ marks_behind known before xs ++ mark known (before ++ xs) p ∷ []
marks_more known before [] p = ap (λ b. mark known b p ∷ []) (sym (append-nil before))
marks_more known before (x ∷ xs) p =
    ap (λ ms. mark known before x ∷ ms) (marks_more known (before ++ x ∷ []) xs p ∙ ap (λ b. marks_behind known (before ++ x ∷ []) xs ++ mark known b p ∷ []) (append_assoc before (x ∷ []) xs))

absent_case : (ws : List (List ℕ)) (p : List ℕ) (b : Bool) → (b || is_among ws p) ≡ false
    → (is_among ws p ≡ false → index_among ws p ≡ length ws)
    → cond (not b) (1 + index_among ws p) 0 ≡ 1 + length ws
absent_case ws p true among rest = absurd cc
absent_case ws p false among rest = ap (λ n. 1 + n) (rest among)

-- what isn't among them has their number
pub index_absent : (ws : List (List ℕ)) (p : List ℕ) → is_among ws p ≡ false → index_among ws p ≡ length ws
index_absent [] p among = refl
index_absent (x ∷ ws) p among = absent_case ws p (bytes_eq p x) among (index_absent ws p) ∙ omega arith
