-- The place of the next key, from where its bearer stands among the hashes of stored messages.
use Rattle.std.proofs.Common.{◌≡◌, inl, inr, ◌≤◌, ◌==◌, ℕ, zero, suc, length, get_or, map, ◌+◌, Bool, true, false, cond, List, [], ◌∷◌, ◌++◌, refl, sym, ap, ◌∙◌, arith}
use Rattle.std.specs.Prelude.{Option, Some, None, count_by, slice_get, Contains}
use Rattle.std.proofs.lemmas.Bool.{eqb-true, eq-eqb, false_from_ne_true}
use Rattle.std.specs.declared.cmp.Ordering.TheVariants.{Less}
use Rattle.std.specs.Ordering.{nat_cmp}
use Rattle.std.specs.List.Sorted.{IsStrictlySortedBy}
use Rattle.ss_block.specs.declared.hash.Hash.{Hash}
use Rattle.ss_review.specs.declared.keep.message.NormalMessage.{NormalMessage}
use Rattle.ss_review.specs.declared.keep.stored_message.StoredMessage.{StoredMessage}
use Rattle.ss_review.specs.declared.assign.counters.Counters.{Counters}
use Rattle.ss_review.specs.declared.assign.stored_hash.StoredHash.{StoredHash}
use Rattle.ss_review.specs.assign.Assigned.{places_with}
use Rattle.ss_review.specs.assign.Assigning.{bearer_wanted, is_at}
use Rattle.ss_review.specs.assign.StoredHashes.{Lists, IsFoundFor, place_beside, counted_at, Tallies}
use Rattle.ss_review.proofs.of_lists.Counting.{count_by-push}
use Rattle.ss_review.proofs.of_lists.Keyed.{from_less}
use Rattle.ss_review.proofs.of_lists.Searching.{has_at}
use Rattle.ss_octets.proofs.Members.{Has, has-map, all-has}
use Rattle.ss_review.proofs.of_assignment.StoredRuns.{PlacesRise, no_bearer, behind, bearer, bearer_found, at_place, place_with_number}

-- ---- what is found for a key

module _ (list : List StoredHash) (ms : List NormalMessage) (announced : List (Option Hash)) (l : Lists list ms announced) (up : PlacesRise ms) where
  pub nothing_found : (hash : Option Hash) → Contains announced hash → IsFoundFor list hash None → bearer_wanted ms hash ≡ None
  nothing_found None here f = refl
  nothing_found (Some h) here f = no_bearer list ms announced l up h here f

  -- a bearer: where it stands in the list, the message, and the places of the messages with its hashes
  pub record IsFound (hash : Option Hash) (i : ℕ) : Type 0 where
    pub stored : StoredHash
    pub at : slice_get list i ≡ Some stored
    pub message : NormalMessage
    pub stored_message : Contains ms message
    pub wanted : bearer_wanted ms hash ≡ Some message
    pub place : stored.place ≡ message.place
    pub places : (k : ℕ) → place_beside stored (slice_get list (i + k)) ≡ slice_get (places_with ms message.pair) k

  pub something_found : (hash : Option Hash) (i : ℕ) → Contains announced hash → IsFoundFor list hash (Some i) → IsFound hash i
  something_found None i here f = absurd (cc)
  something_found (Some h) i here f = record {
    stored = f.0;
    at = f.1;
    stored_message = (behind list ms announced l up h here f.0 i f.1 f.2 f.3).2;
    message = bearer list ms announced l up h here f.0 i f.1 f.2 f.3;
    wanted = bearer_found list ms announced l up h here f.0 i f.1 f.2 f.3;
    place = at_place list ms announced l up h here f.0 i f.1 f.2 f.3;
    places = place_with_number list ms announced l up h here f.0 i f.1 f.2 f.3;
  }

-- ---- counts

pub tallied : (c d : Counters) (before : List (Option NormalMessage)) (m : NormalMessage) (place n : ℕ) → place ≡ m.place → Tallies c before → n ≡ counted_at c place
    → ((q : ℕ) → counted_at d q ≡ cond (q == place) (n + 1) (counted_at c q))
    → Tallies d (before ++ Some m ∷ [])
tallied c d before m place n at t e u q = u q ∙ by (q == place) refl ∙ sym (count_by-push (is_at q) before (Some m))
  where
    by : (b : Bool) → (q == place) ≡ b → cond b (n + 1) (counted_at c q) ≡ count_by (is_at q) before + cond (m.place == q) 1 0
    by true s =
        let same : q ≡ place = eqb-true q place s in
        ap (λ k. k + 1) (e ∙ ap (counted_at c) (sym same) ∙ t q)
        ∙ ap (λ b. count_by (is_at q) before + cond b 1 0) (sym (eq-eqb m.place q (sym at ∙ sym same)))
    by false s =
        t q
        ∙ (let none : count_by (is_at q) before + 0 ≡ count_by (is_at q) before = omega arith in sym none)
        ∙ ap (λ b. count_by (is_at q) before + cond b 1 0) (sym (false_from_ne_true (m.place == q) (λ y. differ (sym s ∙ eq-eqb q place (sym (eqb-true m.place q y) ∙ sym at)))))
      where
        differ : false ≡ true → ⊥
        differ z = absurd (cc)

pub untallied : (c : Counters) (before : List (Option NormalMessage)) → Tallies c before → Tallies c (before ++ None ∷ [])
untallied c before t q = t q ∙ (let none : count_by (is_at q) before + 0 ≡ count_by (is_at q) before = omega arith in sym none) ∙ sym (count_by-push (is_at q) before None)

-- ---- a list whose places rise ends with the greatest

pub last_is_greatest : (ms : List StoredMessage) (n : ℕ) (d : StoredMessage) → n + 1 ≡ length ms → IsStrictlySortedBy nat_cmp (map (λ (m : StoredMessage). m.place) ms) → (m : StoredMessage) → Has ms m → m.place ≤ (get_or ms n d).place
unfolding IsStrictlySortedBy
last_is_greatest [] n d e up m h = absurd h
last_is_greatest (x ∷ []) zero d e up m (inl s) = omega (arith, ap (λ (k : StoredMessage). k.place) s)
last_is_greatest (x ∷ []) zero d e up m (inr h) = absurd h
last_is_greatest (x ∷ []) (suc n) d e up m h = absurd (omega (arith, e))
last_is_greatest (x ∷ y ∷ zs) zero d e up m h = absurd (omega (arith, e))
last_is_greatest (x ∷ y ∷ zs) (suc n) d e up m (inl s) =
    omega (
      arith,
      ap (λ (k : StoredMessage). k.place) s,
      from_less x.place (get_or (y ∷ zs) n d).place
          (all-has (λ p. nat_cmp x.place p ≡ Less) (map (λ (k : StoredMessage). k.place) (y ∷ zs)) (get_or (y ∷ zs) n d).place up.0
          (has-map (λ (k : StoredMessage). k.place) (y ∷ zs) (get_or (y ∷ zs) n d) (has_at (y ∷ zs) n d (omega (arith, e))))),
    )
last_is_greatest (x ∷ y ∷ zs) (suc n) d e up m (inr h) = last_is_greatest (y ∷ zs) n d (omega (arith, e)) up.1 m h
