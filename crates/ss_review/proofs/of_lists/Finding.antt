-- The first message that passes a test, and the bearer of a hash.
use Rattle.std.proofs.Common.{◌≡◌, ◌⊎◌, inl, inr, ◌≤◌, Bool, true, false, cond, List, [], ◌∷◌, map, refl, sym, ap, ◌∙◌, subst, arith}
use Rattle.std.specs.Prelude.{Option, Some, None, option_map, find}
use Rattle.std.specs.declared.cmp.Ordering.TheVariants.{Less}
use Rattle.std.specs.Ordering.{nat_cmp}
use Rattle.std.specs.List.Sorted.{IsStrictlySortedBy}
use Rattle.std.proofs.lemmas.Bool.{false_from_ne_true}
use Rattle.ss_block.specs.declared.hash.Hash.{Hash}
use Rattle.ss_block.specs.declared.hash.HashPair.{HashPair}
use Rattle.ss_review.specs.declared.keep.message.NormalMessage.{NormalMessage}
use Rattle.ss_review.specs.assign.Assigned.{has_hash, pair_of_bearer}
use Rattle.ss_review.proofs.of_lists.Keyed.{from_less}
use Rattle.ss_octets.proofs.Members.{Has, has-map, all-has}

-- ---- the first message that passes a test

find_at : (p : NormalMessage → Bool) (b : Bool) (m : NormalMessage) (ms : List NormalMessage) (f : NormalMessage) → cond b (Some m) (find p ms) ≡ Some f → p m ≡ b → ((p m ≡ true) × (m ≡ f)) ⊎ ((p m ≡ false) × (find p ms ≡ Some f))
find_at p true m ms f e t = inl (t, cc)
find_at p false m ms f e t = inr (t, e)

pub find_some : (p : NormalMessage → Bool) (ms : List NormalMessage) (f : NormalMessage) → find p ms ≡ Some f → Has ms f × (p f ≡ true)
find_some p [] f e = absurd (cc)
find_some p (m ∷ ms) f e = elim (find_at p (p m) m ms f e refl) [
  | inl w ↦ (inl w.1, subst (λ n. p n ≡ true) w.1 w.0)
  | inr w ↦ (let r = find_some p ms f w.1 in (inr r.0, r.1))
]

pub find_least : (p : NormalMessage → Bool) (ms : List NormalMessage) (f : NormalMessage) → IsStrictlySortedBy nat_cmp (map (λ (m : NormalMessage). m.place) ms) → find p ms ≡ Some f → (n : NormalMessage) → Has ms n → p n ≡ true → f.place ≤ n.place
unfolding IsStrictlySortedBy
find_least p [] f up e n h t = absurd h
find_least p (m ∷ ms) f up e n (inl same) t = elim (find_at p (p m) m ms f e refl) [
  | inl w ↦ omega (arith, ap (λ (k : NormalMessage). k.place) w.1, ap (λ (k : NormalMessage). k.place) same)
  | inr w ↦ absurd (let no : true ≡ false = sym t ∙ ap p (sym same) ∙ w.0 in cc)
]
find_least p (m ∷ ms) f up e n (inr h) t = elim (find_at p (p m) m ms f e refl) [
  | inl w ↦ omega (arith, ap (λ (k : NormalMessage). k.place) w.1, from_less m.place n.place (all-has (λ k. nat_cmp m.place k ≡ Less) (map (λ (k : NormalMessage). k.place) ms) n.place up.0 (has-map (λ (k : NormalMessage). k.place) ms n h)))
  | inr w ↦ find_least p ms f up.1 w.1 n h t
]

-- it is that which stands before all others that pass
finds_at : (p : NormalMessage → Bool) (c : Bool) (m : NormalMessage) (ms : List NormalMessage) (f : NormalMessage) → p m ≡ c → p f ≡ true → Has (m ∷ ms) f → (p m ≡ true → Has ms f → ⊥) → (Has ms f → find p ms ≡ Some f) → cond c (Some m) (find p ms) ≡ Some f
finds_at p true m ms f e t (inl same) before rest = ap (λ (n : NormalMessage). Some n) same
finds_at p true m ms f e t (inr i) before rest = absurd (before e i)
finds_at p false m ms f e t (inl same) before rest = let no : true ≡ false = sym t ∙ ap p (sym same) ∙ e in absurd (cc)
finds_at p false m ms f e t (inr i) before rest = rest i

pub finds : (p : NormalMessage → Bool) (ms : List NormalMessage) (f : NormalMessage) → IsStrictlySortedBy nat_cmp (map (λ (m : NormalMessage). m.place) ms) → Has ms f → p f ≡ true → ((n : NormalMessage) → Has ms n → p n ≡ true → f.place ≤ n.place) → find p ms ≡ Some f
unfolding IsStrictlySortedBy
finds p [] f up h t least = absurd h
finds p (m ∷ ms) f up h t least =
    finds_at p (p m) m ms f refl t h
    (λ s i. omega (arith, least m (inl refl) s, from_less m.place f.place (all-has (λ k. nat_cmp m.place k ≡ Less) (map (λ (k : NormalMessage). k.place) ms) f.place up.0 (has-map (λ (k : NormalMessage). k.place) ms f i))))
    (λ i. finds p ms f up.1 i t (λ n j s. least n (inr j) s))

pub finds_none : (p : NormalMessage → Bool) (ms : List NormalMessage) → ((n : NormalMessage) → Has ms n → p n ≡ true → ⊥) → find p ms ≡ None
finds_none p [] none = refl
finds_none p (m ∷ ms) none =
    ap (λ c. cond c (Some m) (find p ms)) (false_from_ne_true (p m) (none m (inl refl)))
    ∙ finds_none p ms (λ n h t. none n (inr h) t)

-- ---- the bearer of a hash

pub mapped : {X Y : Type 0} (f : X → Y) (o : Option X) (y : Y) → option_map f o ≡ Some y → (x : X) × (o ≡ Some x) × (f x ≡ y)
mapped f None y e = absurd (cc)
mapped f (Some x) y e = let it : f x ≡ y = cc in (x, refl, it)

pub bearer_of : (ms : List NormalMessage) (h : Hash) (p : HashPair) → pair_of_bearer ms h ≡ Some p → (b : NormalMessage) × (find (λ m. has_hash h m.pair) ms ≡ Some b) × (b.pair ≡ p)
unfolding pair_of_bearer
bearer_of ms h p e = mapped (λ (m : NormalMessage). m.pair) (find (λ m. has_hash h m.pair) ms) p e
