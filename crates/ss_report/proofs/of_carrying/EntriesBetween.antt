-- Where the entries of some numbers stand among entries whose numbers rise.
use Rattle.std.proofs.Common.{◌≡◌, ℕ, ◌+◌, ◌<◌, ◌≤◌, ◌&&◌, Bool, true, false, List, length, get_or, take, drop, map, filter, sym, ap, ◌∙◌, subst, arith}
use Rattle.std.specs.Prelude.{nat_le, nat_lt}
use Rattle.std.specs.Ordering.{nat_cmp}
use Rattle.std.specs.List.Sorted.{IsStrictlySortedBy, IsNonDecreasingBy, IsPartitionedBy, IsPartitionPoint}
use Rattle.std.proofs.lemmas.Bool.{ltb-true, ltb-false, lt-leb, le-leb}
use Rattle.std.proofs.lemmas.List.{get_or-map, get_or-drop, length-map, length-drop}
use Rattle.std.proofs.lemmas.List.Sorted.{IsPartitionedBy-ltb, IsNonDecreasingBy-drop}
use Rattle.std.proofs.lemmas.Map.Keys.{non_decreasing_from_sorted}
use Rattle.ss_review.specs.declared.report.entry.Entry.{Entry}
use Rattle.ss_review.specs.report.Meaning.{first_number}
use Rattle.ss_review.proofs.of_numbers.SessionRange.{filter_before, filter_within}

abbrev pub below : ℕ → Entry → Bool
below end e = nat_lt (first_number e) end

abbrev pub within : ℕ → ℕ → Entry → Bool
within first end e = nat_le first (first_number e) && nat_lt (first_number e) end

-- the test parts a list there
abbrev pub Parts : ℕ → List Entry → ℕ → Type 0
Parts end es i = IsPartitionPoint (λ e. below end e ≡ true) (λ e. below end e ≡ false) es i

outside : (first end : ℕ) (e : Entry) → below first e ≡ true → within first end e ≡ false
outside first end e t = ap (λ b. b && below end e) (lt-leb first (first_number e) (ltb-true (first_number e) first t))

behind : (first end : ℕ) (e : Entry) → below first e ≡ false → within first end e ≡ below end e
behind first end e t = ap (λ b. b && below end e) (le-leb first (first_number e) (ltb-false (first_number e) first t))

module _ (es : List Entry) (up : IsStrictlySortedBy nat_cmp (map first_number es)) where
  pub numbers_rise : IsNonDecreasingBy first_number es
  numbers_rise i j d le within_es =
      let inside : j < length (map first_number es) = omega (arith, length-map es first_number) in
      let low : get_or (map first_number es) i 0 ≡ first_number (get_or es i d) = get_or-map first_number es i d 0 (omega arith) in
      let high : get_or (map first_number es) j 0 ≡ first_number (get_or es j d) = get_or-map first_number es j d 0 within_es in
      omega (arith, non_decreasing_from_sorted (map first_number es) up i j 0 le inside, low, high)

  pub first_parted : (first : ℕ) → IsPartitionedBy (below first) es
  first_parted first = IsPartitionedBy-ltb first_number es first numbers_rise

  pub end_parted : (end start : ℕ) → IsPartitionedBy (below end) (drop start es)
  end_parted end start = IsPartitionedBy-ltb first_number (drop start es) end (IsNonDecreasingBy-drop first_number start es numbers_rise)

  module _ (first end : ℕ) (rest : List Entry) (start count : ℕ) (is : rest ≡ drop start es) (point : Parts first es start) where
    not_below : (k : ℕ) (d : Entry) → k < length rest → below first (get_or rest k d) ≡ false
    not_below k d inside =
        let here : k < length (drop start es) = subst (λ xs. k < length xs) is inside in
        ap (λ xs. below first (get_or xs k d)) is
        ∙ ap (below first) (get_or-drop start es k d)
        ∙ point.1 (start + k) d (omega arith) (omega (arith, length-drop start es))

    pub range_is : Parts end rest count → count ≤ length rest → take count rest ≡ filter (within first end) es
    range_is second bound =
        sym (filter_before (within first end) es start (λ k d low high. outside first end (get_or es k d) (point.0 k d low high))
        ∙ ap (filter (within first end)) (sym is)
        ∙ filter_within (within first end) rest count (
          (λ k d low high. behind first end (get_or rest k d) (not_below k d (omega arith)) ∙ second.0 k d low high),
          (λ k d low high. behind first end (get_or rest k d) (not_below k d high) ∙ second.1 k d low high),
        ))
