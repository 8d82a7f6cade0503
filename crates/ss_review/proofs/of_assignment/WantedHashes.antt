-- The hashes that keys are announced with, in the order of these.
use Rattle.std.proofs.Common.{◌≡◌, ◌≢◌, inl, inr, ℕ, ◌+◌, ◌<◌, List, [], ◌∷◌, ◌++◌, length, get_or, map, refl, sym, ap, ◌∙◌, subst, arith}
use Rattle.std.specs.Prelude.{Option, Some, None, Contains, slice_get}
use Rattle.std.specs.List.{dedup}
use Rattle.std.specs.declared.cmp.Ordering.{Ordering}
use Rattle.std.specs.declared.cmp.Ordering.TheVariants.{Equal}
use Rattle.std.specs.Ordering.{nat_cmp, eq_by_cmp}
use Rattle.std.specs.Cmp.{IsTotalOrder}
use Rattle.std.specs.List.Sorted.{IsPermutation, IsSorted, IsStrictlySortedBy}
use Rattle.std.proofs.lemmas.Cmp.{on_total, then_total, nat_cmp_total}
use Rattle.std.proofs.lemmas.List.{map-append}
use Rattle.std.proofs.lemmas.Option.{slice_get-map, slice_get-get_or}
use Rattle.std.specs.Option.{option_map}
use Rattle.std.proofs.lemmas.Map.Lookups.{CmpEqualImpliesEq, exact_unsigned}
use Rattle.ss_block.specs.declared.hash.Hash.{Hash}
use Rattle.ss_block.specs.Order.{hash_cmp}
use Rattle.ss_block.specs.OrderLaws.{hash_cmp_total, hash_cmp_exact}
use Rattle.ss_review.specs.declared.assign.wanted_hash.WantedHash.{WantedHash}
use Rattle.ss_review.specs.assign.StoredHashes.{start_cmp, KeyedHash, keyed, keyed_cmp, BeginsAsWanted, wanted_cmp}
use Rattle.ss_review.proofs.of_assignment.ByStarts.{both_total, kept_rise, kept_keep, kept_add_none}
use Rattle.ss_review.proofs.of_assignment.HashStarts.{first_then, hash_start_tells, start_cmp_total}
use Rattle.ss_review.proofs.of_assignment.Searches.{WantedSoFar, wanted_one, wanted_none}
use Rattle.ss_review.proofs.of_lists.TotalOrders.{both_tie}
use Rattle.ss_octets.proofs.Members.{has_from_contains, contains_from_has, has-append_cases}

keyed_cmp_total : IsTotalOrder keyed_cmp
keyed_cmp_total = then_total (on_total (λ (w : KeyedHash). w.hash) hash_cmp_total) (on_total (λ (w : KeyedHash). w.key) nat_cmp_total)

keyed_cmp_exact : CmpEqualImpliesEq keyed_cmp
keyed_cmp_exact a b e =
    let t = both_tie (hash_cmp a.hash b.hash) (nat_cmp a.key b.key) e in
    λ i. record { hash = hash_cmp_exact a.hash b.hash t.0 i; key = exact_unsigned a.key b.key t.1 i }

wanted_tells : (a b : WantedHash) → BeginsAsWanted a → BeginsAsWanted b → (c : Ordering) → start_cmp a.start b.start ≡ c → c ≢ Equal → keyed_cmp (keyed a) (keyed b) ≡ c
wanted_tells a b s t c e n =
    first_then (hash_cmp a.hash.now b.hash.now) c _
    (hash_start_tells a.hash.now b.hash.now c (sym (λ i. start_cmp (s i) (t i)) ∙ e) n) n

abbrev starts_total : IsTotalOrder (λ (a b : WantedHash). start_cmp a.start b.start)
starts_total = on_total (λ (w : WantedHash). w.start) start_cmp_total

pub wanted_cmp_total : IsTotalOrder wanted_cmp
wanted_cmp_total = both_total keyed (λ a b. start_cmp a.start b.start) keyed_cmp BeginsAsWanted starts_total keyed_cmp_total keyed_cmp_exact wanted_tells

module _ (old sorted : List WantedHash) (moved : IsPermutation old sorted) (up : IsSorted wanted_cmp sorted) where
  pub wanted_rise : ((w : WantedHash) → Contains old w → BeginsAsWanted w) → IsStrictlySortedBy keyed_cmp (map keyed (dedup (eq_by_cmp wanted_cmp) sorted))
  wanted_rise = kept_rise keyed (λ a b. start_cmp a.start b.start) keyed_cmp BeginsAsWanted starts_total keyed_cmp_total keyed_cmp_exact wanted_tells old sorted moved up

  pub wanted_keep : (w : KeyedHash) → Contains (map keyed old) w → Contains (map keyed (dedup (eq_by_cmp wanted_cmp) sorted)) w
  wanted_keep = kept_keep keyed (λ a b. start_cmp a.start b.start) keyed_cmp BeginsAsWanted starts_total keyed_cmp_total keyed_cmp_exact wanted_tells old sorted moved up

  pub wanted_add_none : (w : KeyedHash) → Contains (map keyed (dedup (eq_by_cmp wanted_cmp) sorted)) w → Contains (map keyed old) w
  wanted_add_none = kept_add_none keyed (λ a b. start_cmp a.start b.start) keyed_cmp BeginsAsWanted starts_total keyed_cmp_total keyed_cmp_exact wanted_tells old sorted moved up

-- ---- those so far

-- they are hashes of the list with their numbers, and begin as these
abbrev pub WantedThere : List (Option Hash) → List WantedHash → ℕ → Type 0
WantedThere hs ws n = WantedSoFar hs (map keyed ws) n × ((w : WantedHash) → Contains ws w → BeginsAsWanted w)

pub wanted_start : (hs : List (Option Hash)) (ws : List WantedHash) → ws ≡ [] → WantedThere hs ws 0
wanted_start hs ws e = (
  subst (λ vs. WantedSoFar hs (map keyed vs) 0) (sym e) ((λ w i. absurd i), λ i h at less. absurd (omega (arith, less))),
  λ w here. absurd (has_from_contains [] w (subst (λ vs. Contains vs w) e here)),
)

module _ (hs : List (Option Hash)) (ws : List WantedHash) (n : ℕ) (so_far : WantedThere hs ws n) (within : n < length hs) where
  pub wanted_push : (vs : List WantedHash) (w : WantedHash) → vs ≡ ws ++ w ∷ [] → get_or hs n None ≡ Some w.hash.now → w.key ≡ n → BeginsAsWanted w → WantedThere hs vs (n + 1)
  wanted_push vs w are is key begins = subst (λ us. WantedThere hs us (n + 1)) (sym are) (told, begin)
    where
      same : map keyed ws ++ record { hash = w.hash.now; key = n } ∷ [] ≡ map keyed (ws ++ w ∷ [])
      same = ap (λ k. map keyed ws ++ record { hash = w.hash.now; key = k } ∷ []) (sym key) ∙ sym (map-append keyed ws (w ∷ []))

      told : WantedSoFar hs (map keyed (ws ++ w ∷ [])) (n + 1)
      told = subst (λ ks. WantedSoFar hs ks (n + 1)) same (wanted_one hs (map keyed ws) n so_far.0 within w.hash.now is)

      begin : (v : WantedHash) → Contains (ws ++ w ∷ []) v → BeginsAsWanted v
      begin v here =
          elim (has-append_cases ws (w ∷ []) v (has_from_contains (ws ++ w ∷ []) v here)) [
            | inl l ↦ so_far.1 v (contains_from_has ws v l)
            | inr (inl e) ↦ subst BeginsAsWanted e begins
            | inr (inr none) ↦ absurd none
          ]

  pub wanted_pass : get_or hs n None ≡ None → WantedThere hs ws (n + 1)
  wanted_pass is = (wanted_none hs (map keyed ws) n so_far.0 within is, so_far.1)

-- ---- one of them, by its number

-- what stands there, from a fact that names it
pub element : (ws : List WantedHash) (n : ℕ) (d : WantedHash) (last : Option Hash) → last ≡ Some (get_or ws n d).hash.now → n < length ws
    → (one : KeyedHash) × (slice_get (map keyed ws) n ≡ Some one) × (one ≡ keyed (get_or ws n d))
element ws n d last e within = (keyed (get_or ws n d), slice_get-map keyed ws n ∙ ap (option_map keyed) (slice_get-get_or ws n d within), refl)
