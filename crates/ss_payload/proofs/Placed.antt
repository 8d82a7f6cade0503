-- Which octets a fragment states at which indexes.
use Rattle.std.proofs.Common.{◌≡◌, ◌∙◌, ℕ, ◌+◌, ◌<◌, List, [], ◌∷◌, length, arith, refl, sym, ap, zero, suc}
use Rattle.std.specs.Prelude.{◌≢◌, Bool, true, false, ◌&&◌, ◌||◌, eqb, slice_index}
use Rattle.std.specs.List.{list_any}
use Rattle.std.specs.Ordering.{nat_cmp, eq_by_cmp, is_eq}
use Rattle.std.specs.Cmp.{IsTotalOrder, tied_then, unsigned_tied, nat_cmp_total}
use Rattle.std.proofs.lemmas.Cmp.{then_total, on_total}
use Rattle.std.proofs.lemmas.Bool.{and_left, or_from, eq-eqb, ne_eqb}
use Rattle.std.specs.FinSet as set
use Rattle.std.specs.FinSet.{IsAntisymmetric, contains-union, contains-from_list, contains-insert, nat_cmp-IsAntisymmetric}
use Rattle.std.proofs.lemmas.Map.Lookups.{exact_pairs}
use Rattle.ss_payload.specs.Joining.{Stated, placed_cmp, placed, with_fragment}

pub placed_cmp_total : IsTotalOrder placed_cmp
placed_cmp_total = then_total (on_total (λ (p : ℕ × ℕ). p.0) nat_cmp_total) (on_total (λ (p : ℕ × ℕ). p.1) nat_cmp_total)

pub placed_cmp-IsAntisymmetric : IsAntisymmetric placed_cmp
placed_cmp-IsAntisymmetric = exact_pairs nat_cmp nat_cmp nat_cmp-IsAntisymmetric nat_cmp-IsAntisymmetric

or_false : (a : Bool) → (a || false) ≡ a
or_false true = refl
or_false false = refl

same_place : (i o k x : ℕ) → eq_by_cmp placed_cmp (i, o) (k, x) ≡ (eqb i k && eqb o x)
same_place i o k x =
    sym (tied_then (nat_cmp i k) (nat_cmp o x))
    ∙ ap (λ (b : Bool). b && is_eq (nat_cmp o x)) (unsigned_tied i k)
    ∙ ap (λ (b : Bool). eqb i k && b) (unsigned_tied o x)

-- whether a fragment states an octet at an index
abbrev pub places : ℕ → List ℕ → ℕ → ℕ → Bool
places index octets i o = list_any (eq_by_cmp placed_cmp (i, o)) (placed index octets)

-- a fragment states nothing outside of its indexes
pub places_nothing : (octets : List ℕ) (index i o : ℕ) → ((j : ℕ) → j < length octets → i ≢ index + j) → places index octets i o ≡ false
places_nothing [] index i o apart = refl
places_nothing (x ∷ xs) index i o apart =
    or_from _ _
    (same_place i o index x ∙ and_left _ _ (ne_eqb i index (λ e. apart 0 (omega arith) (omega arith))))
    (places_nothing xs (index + 1) i o (λ j h e. apart (suc j) (omega arith) (omega arith)))

-- and at each of them the octet that stands there
pub places_one : (octets : List ℕ) (index j i o : ℕ) → i ≡ index + j → j < length octets → places index octets i o ≡ eqb o (slice_index octets j)
places_one [] index j i o e h = absurd (omega arith)
places_one (x ∷ xs) index zero i o e h =
    ap (λ (b : Bool). b || places (index + 1) xs i o) (same_place i o index x ∙ ap (λ (b : Bool). b && eqb o x) (eq-eqb i index (omega arith)))
    ∙ ap (λ (b : Bool). eqb o x || b) (places_nothing xs (index + 1) i o (λ j h f. omega arith))
    ∙ or_false (eqb o x)
places_one (x ∷ xs) index (suc j) i o e h =
    ap (λ (b : Bool). b || places (index + 1) xs i o) (same_place i o index x ∙ and_left _ _ (ne_eqb i index (λ f. omega arith)))
    ∙ places_one xs (index + 1) j i o (omega arith) (omega arith)

module _ (stated : Stated) (total index : ℕ) (octets : List ℕ) where
  -- the totals that are stated with a fragment
  pub totals_with : (t : ℕ) → set.contains (with_fragment stated total index octets).totals t ≡ (eqb t total || set.contains stated.totals t)
  unfolding with_fragment
  totals_with t = contains-insert nat_cmp_total stated.totals total t ∙ ap (λ (b : Bool). b || set.contains stated.totals t) (unsigned_tied t total)

  -- the octets that are stated with a fragment
  pub octets_with : (i o : ℕ) → set.contains (with_fragment stated total index octets).octets (i, o) ≡ (set.contains stated.octets (i, o) || places index octets i o)
  unfolding with_fragment
  octets_with i o = contains-union placed_cmp_total stated.octets (set.from_list (placed index octets)) (i, o)
      ∙ ap (λ (b : Bool). set.contains stated.octets (i, o) || b) (contains-from_list placed_cmp_total (placed index octets) (i, o))

  pub octets_outside : (i o : ℕ) → ((j : ℕ) → j < length octets → i ≢ index + j) → set.contains (with_fragment stated total index octets).octets (i, o) ≡ set.contains stated.octets (i, o)
  octets_outside i o apart = octets_with i o ∙ ap (λ (b : Bool). set.contains stated.octets (i, o) || b) (places_nothing octets index i o apart) ∙ or_false _

  pub octets_inside : (j o : ℕ) → j < length octets → set.contains (with_fragment stated total index octets).octets (index + j, o) ≡ (set.contains stated.octets (index + j, o) || eqb o (slice_index octets j))
  octets_inside j o h = octets_with (index + j) o ∙ ap (λ (b : Bool). set.contains stated.octets (index + j, o) || b) (places_one octets index j (index + j) o refl h)
