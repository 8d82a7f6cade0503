-- What the first index that no fragment covers tells of all of them.
use Rattle.std.proofs.Common.{◌≡◌, ℕ, ◌+◌, ◌<◌, ◌≤◌, ◌⊎◌, inl, inr, Bool, true, false, cond, ◌&&◌, ◌||◌, List, [], ◌∷◌, ◌++◌, length, get_or, take, map, filter, Bor, refl, sym, ap, ◌∙◌, arith}
use Rattle.std.specs.Prelude.{nat_le, nat_lt, Option, Some, None, option_map}
use Rattle.std.specs.List.{list_all, range_with_len, cons_option}
use Rattle.std.specs.List.Sorted.{IsNonDecreasingBy, IsSorted, IsPermutation}
use Rattle.std.specs.declared.cmp.Ordering.{Ordering}
use Rattle.std.specs.declared.cmp.Ordering.TheVariants.{Less, Equal, Greater}
use Rattle.std.specs.Ordering.{nat_cmp, ordering_then, is_lt}
use Rattle.std.specs.Cmp.{IsTotalOrder}
use Rattle.std.proofs.lemmas.Bool.{ltb-true, ltb-false, leb-true, true≢false, cases_Bool, and_parts, false_from_ne_true}
use Rattle.std.proofs.lemmas.Cmp.{then_total, on_total, nat_cmp_total}
use Rattle.std.proofs.lemmas.List.{get_or_default, get_or-map, map_more, map-append}
use Rattle.std.proofs.lemmas.List.Elements.{filter-append, filter_map-append}
use Rattle.std.proofs.lemmas.List.Sorted.{sorted_far, ranks_by, list_any-IsPermutation}
use Rattle.std.proofs.lemmas.Simd.{map-map}
use Rattle.std.proofs.lemmas.Map.Keys.{ge_from_not_lt}
use Rattle.ss_block.specs.Block as block
use Rattle.ss_review.specs.declared.sessions.span.Span.{Span}
use Rattle.ss_review.specs.keep.BlockMessage.{BlockMessage}
use Rattle.ss_review.specs.sessions.Payloads.{certificate_of, certificates, has_index, cover}
use Rattle.ss_review.specs.sessions.Verified.{Answers, is_valid}
use Rattle.ss_review.specs.sessions.Covering.{span_of, spans_of, is_within, covers, IsFirstUncovered, accepted_span}
use Rattle.ss_octets.proofs.Members.{Has, contains_from_has}
use Rattle.ss_review.proofs.of_lists.Tests.{any_member, member_all, all_member, in_range, from_in_range}

covers_is : (cs : List block.Certificate) (i : ℕ) → covers (spans_of cs) i ≡ has_index cs i
covers_is [] i = refl
covers_is (c ∷ cs) i = ap (λ b. (nat_le c.index i && nat_lt i (c.index + length c.fragment)) || b) (covers_is cs i)

-- ---- all up to the total are covered exactly where the first that isn't is beyond it

pub cover_from_first : (cs : List block.Certificate) (total i : ℕ) → IsFirstUncovered (spans_of cs) i → total < i → cover cs total ≡ true
unfolding cover
cover_from_first cs total i first beyond =
    member_all (has_index cs) (range_with_len 1 total) (λ k h.
    (let r : (1 ≤ k) × (k < 1 + total) = from_in_range 1 total k h in
    sym (covers_is cs k) ∙ first.before k r.0 (omega (arith, r.1, beyond))))

pub first_from_cover : (cs : List block.Certificate) (total i : ℕ) → IsFirstUncovered (spans_of cs) i → i ≤ total → cover cs total ≡ false
unfolding cover
first_from_cover cs total i first within =
    false_from_ne_true (list_all (has_index cs) (range_with_len 1 total)) (λ holds.
    true≢false (sym (all_member (has_index cs) (range_with_len 1 total) holds i (in_range 1 total i first.some_index (omega (arith, within)))) ∙ (sym (covers_is cs i) ∙ first.at)))

pub cover_is : (cs : List block.Certificate) (total i : ℕ) → IsFirstUncovered (spans_of cs) i → nat_lt total i ≡ cover cs total
cover_is cs total i first =
    elim (cases_Bool (nat_lt total i)) [
      | inl beyond ↦ beyond ∙ sym (cover_from_first cs total i first (ltb-true total i beyond))
      | inr within ↦ within ∙ sym (first_from_cover cs total i first (ltb-false total i within))
    ]

-- ---- in any order

pub first_permuted : (xs ys : List Span) (i : ℕ) → IsPermutation xs ys → IsFirstUncovered ys i → IsFirstUncovered xs i
first_permuted xs ys i p first = record {
  some_index = first.some_index;
  before = λ k low high. list_any-IsPermutation (is_within k) xs ys p ∙ first.before k low high;
  at = list_any-IsPermutation (is_within i) xs ys p ∙ first.at;
}

abbrev pub span_cmp : Span → Span → Ordering
span_cmp x y = ordering_then (nat_cmp x.start y.start) (nat_cmp x.end y.end)

span_cmp_total : IsTotalOrder span_cmp
span_cmp_total = then_total (on_total (λ (s : Span). s.start) nat_cmp_total) (on_total (λ (s : Span). s.end) nat_cmp_total)

not_lt : (p q : Ordering) → is_lt (ordering_then p q) ≡ false → is_lt p ≡ false
not_lt Less q e = e
not_lt Equal q e = refl
not_lt Greater q e = refl

pub starts_rise : (xs : List Span) → IsSorted span_cmp xs → IsNonDecreasingBy (λ (s : Span). s.start) xs
starts_rise xs up = λ i j d le below.
    ge_from_not_lt (get_or xs j d).start (get_or xs i d).start
    (not_lt (nat_cmp (get_or xs j d).start (get_or xs i d).start) (nat_cmp (get_or xs j d).end (get_or xs i d).end)
    (sorted_far (λ x y. is_lt (span_cmp x y)) (ranks_by span_cmp_total (λ (s : Span). s)) xs up i j d le below))

-- ---- one span more

-- all spans so far end there, and all before it is covered
pub record IsReached (spans : List Span) (count reached : ℕ) : Type 0 where
  pub some_index : 1 ≤ reached
  pub before : (k : ℕ) → 1 ≤ k → k < reached → covers spans k ≡ true
  pub ends : (j : ℕ) (d : Span) → j < count → (get_or spans j d).end ≤ reached

pub nothing_reached : (spans : List Span) → IsReached spans 0 1
nothing_reached spans = record {
  some_index = omega arith;
  before = λ k low high. absurd (omega (arith, low, high));
  ends = λ j d below. absurd (omega (arith, below));
}

uncovered : (spans : List Span) (i : ℕ) → ((j : ℕ) (d : Span) → j < length spans → ((get_or spans j d).end ≤ i) ⊎ (i < (get_or spans j d).start)) → covers spans i ≡ false
uncovered spans i apart =
    false_from_ne_true (covers spans i) (λ holds.
    (let w : (s : Span) × Has spans s × (is_within i s ≡ true) = any_member (is_within i) spans holds in
    let c = contains_from_has spans w.0 w.1 in
    let b = and_parts (nat_le w.0.start i) (nat_lt i w.0.end) w.2 in
    let low : w.0.start ≤ i = leb-true w.0.start i b.0 in
    let high : i < w.0.end = ltb-true i w.0.end b.1 in
    let starts : (get_or spans c.0 w.0).start ≡ w.0.start = ap (λ (s : Span). s.start) c.2 in
    let ends : (get_or spans c.0 w.0).end ≡ w.0.end = ap (λ (s : Span). s.end) c.2 in
    elim (apart c.0 w.0 c.1) [ inl e ↦ omega (arith, e, ends, high) | inr s ↦ omega (arith, s, starts, low) ]))

-- the next span begins beyond it, and so do all behind
pub first_before : (spans : List Span) (i reached : ℕ) (d : Span) → IsNonDecreasingBy (λ (s : Span). s.start) spans → i < length spans → IsReached spans i reached → reached < (get_or spans i d).start → IsFirstUncovered spans reached
first_before spans i reached d rise below so_far beyond = record {
  some_index = so_far.some_index;
  before = so_far.before;
  at = uncovered spans reached (λ j e inside.
      elim (cases_Bool (nat_lt j i)) [
        | inl l ↦ inl (so_far.ends j e (ltb-true j i l))
        | inr g ↦ (
            let same : (get_or spans i d).start ≡ (get_or spans i e).start = ap (λ (s : Span). s.start) (get_or_default spans i d e below) in
            let later : (get_or spans i e).start ≤ (get_or spans j e).start = rise i j e (ltb-false j i g) inside in
            inr (omega (arith, beyond, same, later)))
      ]);
}

-- there are no more
pub first_at_end : (spans : List Span) (i reached : ℕ) → length spans ≤ i → IsReached spans i reached → IsFirstUncovered spans reached
first_at_end spans i reached over so_far = record {
  some_index = so_far.some_index;
  before = so_far.before;
  at = uncovered spans reached (λ j d inside. inl (so_far.ends j d (omega (arith, inside, over))));
}

-- ---- the spans of the valid certificate blocks

spans_at : (b : Bool) (m : BlockMessage) (o : Option block.Certificate) → certificate_of m.said ≡ o → spans_of (certificates (cond b (m ∷ []) [])) ≡ cons_option (cond b (option_map span_of o) None) []
spans_at true m None e = ap (λ p. spans_of (cons_option p [])) e
spans_at true m (Some c) e = ap (λ p. spans_of (cons_option p [])) e
spans_at false m o e = refl

-- the span of one block more that counts, if it does
pub spans_more : (f : BlockMessage → Bool) (bs : List (Bor BlockMessage)) (i : ℕ) (b : Bor BlockMessage) → i < length bs → b ≡ get_or bs i b
    → spans_of (certificates (filter f (map (λ (m : Bor BlockMessage). m.now) (take (i + 1) bs))))
    ≡ spans_of (certificates (filter f (map (λ (m : Bor BlockMessage). m.now) (take i bs)))) ++ spans_of (certificates (cond (f b.now) (b.now ∷ []) []))
spans_more f bs i b below e =
    let before = map (λ (m : Bor BlockMessage). m.now) (take i bs) in
    let here : map (λ (m : Bor BlockMessage). m.now) (take (i + 1) bs) ≡ before ++ b.now ∷ []
    = map_more (λ (m : Bor BlockMessage). m.now) bs i b below ∙ ap (λ (m : Bor BlockMessage). before ++ m.now ∷ []) (sym e) in
    ap (λ ms. spans_of (certificates (filter f ms))) here
    ∙ ap (λ ms. spans_of (certificates ms)) (filter-append f before (b.now ∷ []))
    ∙ ap spans_of (filter_map-append (λ (m : BlockMessage). certificate_of m.said) (filter f before) (cond (f b.now) (b.now ∷ []) []))
    ∙ map-append span_of (certificates (filter f before)) (certificates (cond (f b.now) (b.now ∷ []) []))

pub accepted_more : (says : Answers) (payload : List ℕ) (bs : List (Bor BlockMessage)) (i : ℕ) (b : Bor BlockMessage) → i < length bs → b ≡ get_or bs i b
    → spans_of (certificates (filter (is_valid says payload) (map (λ (m : Bor BlockMessage). m.now) (take (i + 1) bs))))
    ≡ spans_of (certificates (filter (is_valid says payload) (map (λ (m : Bor BlockMessage). m.now) (take i bs)))) ++ cons_option (accepted_span says payload b.now) []
accepted_more says payload bs i b below e =
    let before = map (λ (m : Bor BlockMessage). m.now) (take i bs) in
    spans_more (is_valid says payload) bs i b below e
    ∙ ap (λ ss. spans_of (certificates (filter (is_valid says payload) before)) ++ ss) (spans_at (is_valid says payload b.now) b.now (certificate_of b.now.said) refl)

-- the same, where a mark says whether it counts
pub spans_marked : (f : BlockMessage → Bool) (bs : List (Bor BlockMessage)) (marks : List Bool) (i : ℕ) (b : Bor BlockMessage) (v : Bool) → i < length bs → b ≡ get_or bs i b → v ≡ get_or marks i v
    → marks ≡ map f (map (λ (m : Bor BlockMessage). m.now) bs)
    → spans_of (certificates (filter f (map (λ (m : Bor BlockMessage). m.now) (take (i + 1) bs))))
    ≡ spans_of (certificates (filter f (map (λ (m : Bor BlockMessage). m.now) (take i bs)))) ++ spans_of (certificates (cond v (b.now ∷ []) []))
spans_marked f bs marks i b v below e at told =
    let before = spans_of (certificates (filter f (map (λ (m : Bor BlockMessage). m.now) (take i bs)))) in
    let here : marks ≡ map (λ (m : Bor BlockMessage). f m.now) bs = told ∙ map-map f (λ (m : Bor BlockMessage). m.now) bs in
    let same : f b.now ≡ v = ap (λ (m : Bor BlockMessage). f m.now) e ∙ sym (get_or-map (λ (m : Bor BlockMessage). f m.now) bs i b v below) ∙ sym (at ∙ ap (λ vs. get_or vs i v) here) in
    spans_more f bs i b below e ∙ ap (λ w. before ++ spans_of (certificates (cond w (b.now ∷ []) []))) same
