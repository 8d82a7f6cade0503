-- The places of a part rise, and are those of its notes.
use Rattle.std.proofs.Common.{◌≡◌, ℕ, zero, suc, ◌+◌, ◌==◌, List, [], ◌∷◌, length, map, filter, refl, sym, ap, ◌∙◌, subst, arith}
use Rattle.std.specs.declared.cmp.Ordering.TheVariants.{Less}
use Rattle.std.specs.List.{enumerate_from, range_with_len}
use Rattle.std.specs.List.Sorted.{IsStrictlySortedBy}
use Rattle.std.specs.Ordering.{nat_cmp}
use Rattle.std.proofs.lemmas.List.{length-map}
use Rattle.ss_review.specs.keep.Notes.{Note, note, notes}
use Rattle.ss_review.proofs.of_lists.Keyed.{less, keys_rise-filter}
use Rattle.ss_review.proofs.of_lists.Mapped.{map-map, filter-map}
use Rattle.ss_review.proofs.of_lists.Rising.{all_below}
use Rattle.ss_review.proofs.of_lists.Tests.{from_in_range}
use Rattle.ss_laws.specs.parts.Parts.{placed_of, messages_of, places_of}

pub range_rises : (a n : ℕ) → IsStrictlySortedBy nat_cmp (range_with_len a n)
unfolding IsStrictlySortedBy
range_rises a zero = tt
range_rises a (suc n) =
    (all_below (λ p. nat_cmp a p ≡ Less) (range_with_len (a + 1) n) (λ p h. less a p (omega (arith, (from_in_range (a + 1) n p h).0))), range_rises (a + 1) n)

pub enumerated : {X : Type 0} (a : ℕ) (xs : List X) → map (λ (n : ℕ × X). n.0) (enumerate_from a xs) ≡ range_with_len a (length xs)
enumerated a [] = refl
enumerated a (x ∷ xs) = ap (λ ns. a ∷ ns) (enumerated (a + 1) xs)

module _ {X : Type 0} (part : ℕ → ℕ) (k : ℕ) (xs : List X) where
  pub places_rise : IsStrictlySortedBy nat_cmp (places_of part k xs)
  places_rise =
      keys_rise-filter (λ (n : ℕ × X). n.0) nat_cmp (λ (n : ℕ × X). part n.0 == k) (enumerate_from 0 xs)
      (subst (IsStrictlySortedBy nat_cmp) (sym (enumerated 0 xs)) (range_rises 0 (length xs)))

  pub as_many : length (messages_of part k xs) ≡ length (places_of part k xs)
  as_many = length-map (placed_of part k xs) (λ (n : ℕ × X). n.1) ∙ sym (length-map (placed_of part k xs) (λ (n : ℕ × X). n.0))

-- ---- notes

enumerate_from-map : {X Y : Type 0} (g : X → Y) (a : ℕ) (xs : List X) → enumerate_from a (map g xs) ≡ map (λ (n : ℕ × X). (n.0, g n.1)) (enumerate_from a xs)
enumerate_from-map g a [] = refl
enumerate_from-map g a (x ∷ xs) = ap (λ ns. (a, g x) ∷ ns) (enumerate_from-map g (a + 1) xs)

module _ (part : ℕ → ℕ) (k : ℕ) (log : List (List ℕ)) where
  abbrev beside : ℕ × List ℕ → ℕ × Note
  beside n = (n.0, note n.1)

  placed_notes : placed_of part k (notes log) ≡ map beside (placed_of part k log)
  placed_notes =
      ap (filter (λ (n : ℕ × Note). part n.0 == k)) (enumerate_from-map note 0 log)
      ∙ filter-map (λ (n : ℕ × Note). part n.0 == k) beside (enumerate_from 0 log)

  pub same_places : places_of part k (notes log) ≡ places_of part k log
  same_places = ap (map (λ (n : ℕ × Note). n.0)) placed_notes ∙ map-map (λ (n : ℕ × Note). n.0) beside (placed_of part k log)

  pub same_messages : messages_of part k (notes log) ≡ notes (messages_of part k log)
  same_messages =
      ap (map (λ (n : ℕ × Note). n.1)) placed_notes
      ∙ map-map (λ (n : ℕ × Note). n.1) beside (placed_of part k log)
      ∙ sym (map-map note (λ (n : ℕ × List ℕ). n.1) (placed_of part k log))
