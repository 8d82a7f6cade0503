-- The hashes of stored messages that are needed, in order, are those that a search needs.
use Rattle.std.proofs.Common.{◌≡◌, inl, inr, Bool, true, false, cond, ◌||◌, List, [], ◌∷◌, ◌++◌, map, refl, sym, ap, ◌∙◌, subst}
use Rattle.std.specs.Prelude.{Option, Some, Contains}
use Rattle.std.specs.List.{list_any}
use Rattle.std.specs.Ordering.{nat_cmp, ordering_then}
use Rattle.std.specs.List.Sorted.{IsStrictlySortedBy}
use Rattle.std.proofs.lemmas.Map.Lookups.{CmpEqualImpliesEq, exact_unsigned}
use Rattle.ss_block.specs.declared.hash.Alg.{Alg}
use Rattle.ss_block.specs.declared.hash.Alg.TheVariants as algs
use Rattle.ss_block.specs.declared.hash.Hash.{Hash}
use Rattle.ss_block.specs.declared.hash.Hash.TheVariants as hashes
use Rattle.ss_block.specs.Order.{hash_cmp}
use Rattle.ss_block.specs.OrderLaws.{hash_cmp_exact}
use Rattle.ss_review.specs.declared.keep.message.NormalMessage.{NormalMessage}
use Rattle.ss_review.specs.declared.assign.stored_hash.StoredHash.{StoredHash}
use Rattle.ss_review.specs.assign.StoredHashes.{stored_hash, alg_of, is_by, needed_hashes, stored_cmp, Lists}
use Rattle.ss_review.proofs.of_lists.TotalOrders.{both_tie}
use Rattle.ss_octets.proofs.Members.{Has, has_from_contains, contains_from_has, has-append_left, has-append_right, has-map, has-append_cases, from_has-map}

pub stored_cmp_exact : CmpEqualImpliesEq stored_cmp
stored_cmp_exact a b e =
    let t = both_tie (hash_cmp a.hash b.hash) (ordering_then (hash_cmp a.other b.other) (nat_cmp a.place b.place)) e in
    let u = both_tie (hash_cmp a.other b.other) (nat_cmp a.place b.place) t.1 in
    λ i. record { hash = hash_cmp_exact a.hash b.hash t.0 i; other = hash_cmp_exact a.other b.other u.0 i; place = exact_unsigned a.place b.place u.1 i }

-- ---- what is needed

any_at : (p : Option Hash → Bool) (os : List (Option Hash)) (o : Option Hash) → Has os o → p o ≡ true → list_any p os ≡ true
any_at p [] o h t = absurd h
any_at p (x ∷ os) o (inl e) t = by (p x) (ap p e ∙ t)
  where
    by : (b : Bool) → b ≡ true → (b || list_any p os) ≡ true
    by true s = refl
    by false s = absurd (cc)
any_at p (x ∷ os) o (inr h) t = by (p x) (any_at p os o h t)
  where
    by : (b : Bool) → list_any p os ≡ true → (b || list_any p os) ≡ true
    by true s = refl
    by false s = s

by_its : (h : Hash) → is_by (alg_of h) (Some h) ≡ true
by_its (hashes.Sha1 octets) = refl
by_its (hashes.Sha256 octets) = refl

needed : (ms : List NormalMessage) (os : List (Option Hash)) (h : Hash) (m : NormalMessage) → Contains os (Some h) → Has ms m → Has (needed_hashes (alg_of h) os ms) (stored_hash (alg_of h) m)
needed ms os h m here i =
    subst (λ b. Has (cond b (map (stored_hash (alg_of h)) ms) []) (stored_hash (alg_of h) m))
    (sym (any_at (is_by (alg_of h)) os (Some h) (has_from_contains os (Some h) here) (by_its h)))
    (has-map (stored_hash (alg_of h)) ms m i)

from_needed_at : (alg : Alg) (ms : List NormalMessage) (e : StoredHash) (b : Bool) → Has (cond b (map (stored_hash alg) ms) []) e → (m : NormalMessage) × Has ms m × (stored_hash alg m ≡ e)
from_needed_at alg ms e true h = from_has-map (stored_hash alg) ms e h
from_needed_at alg ms e false h = absurd h

from_needed : (alg : Alg) (ms : List NormalMessage) (os : List (Option Hash)) (e : StoredHash) → Has (needed_hashes alg os ms) e → (m : NormalMessage) × Has ms m × (stored_hash alg m ≡ e)
from_needed alg ms os e h = from_needed_at alg ms e (list_any (is_by alg) os) h

-- ---- all that is needed, in order

module _ (ms : List NormalMessage) (os : List (Option Hash)) (all list : List StoredHash)
    (all_are : all ≡ needed_hashes algs.Sha1 os ms ++ needed_hashes algs.Sha256 os ms)
    (rises : IsStrictlySortedBy stored_cmp list)
    (keeps : (e : StoredHash) → Contains all e → Contains list e)
    (adds_none : (e : StoredHash) → Contains list e → Contains all e) where
  in_all : (h : Hash) (m : NormalMessage) → Contains os (Some h) → Has ms m → Has all (stored_hash (alg_of h) m)
  in_all (hashes.Sha1 octets) m here i =
      subst (λ es. Has es (stored_hash algs.Sha1 m)) (sym all_are)
      (has-append_left (needed_hashes algs.Sha1 os ms) (needed_hashes algs.Sha256 os ms) (stored_hash algs.Sha1 m) (needed ms os (hashes.Sha1 octets) m here i))
  in_all (hashes.Sha256 octets) m here i =
      subst (λ es. Has es (stored_hash algs.Sha256 m)) (sym all_are)
      (has-append_right (needed_hashes algs.Sha1 os ms) (needed_hashes algs.Sha256 os ms) (stored_hash algs.Sha256 m) (needed ms os (hashes.Sha256 octets) m here i))

  sound : (e : StoredHash) → Contains list e → (alg : Alg) × (m : NormalMessage) × Contains ms m × (e ≡ stored_hash alg m)
  sound e here = elim (has-append_cases (needed_hashes algs.Sha1 os ms) (needed_hashes algs.Sha256 os ms) e (subst (λ es. Has es e) all_are (has_from_contains all e (adds_none e here)))) [
    | inl h ↦ (let w = from_needed algs.Sha1 ms os e h in (algs.Sha1, w.0, contains_from_has ms w.0 w.1, sym w.2))
    | inr h ↦ (let w = from_needed algs.Sha256 ms os e h in (algs.Sha256, w.0, contains_from_has ms w.0 w.1, sym w.2))
  ]

  pub lists : Lists list ms os
  lists = record {
    rises = rises;
    sound = sound;
    complete = λ h m here i t. keeps (stored_hash (alg_of h) m) (contains_from_has all (stored_hash (alg_of h) m) (in_all h m here (has_from_contains ms m i)));
  }
