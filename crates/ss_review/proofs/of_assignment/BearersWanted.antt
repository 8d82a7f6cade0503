-- The bearers that keys want: each is the first message with its two hashes, so their places tell their hashes apart.
use Rattle.std.proofs.Common.{◌≡◌, ◌==◌, ◌+◌, Bool, true, false, cond, List, [], ◌∷◌, map, refl, sym, ap, ◌∙◌, arith}
use Rattle.std.specs.Prelude.{Option, Some, None, option_map, find, count_by, slice_get}
use Rattle.std.specs.Ordering.{nat_cmp}
use Rattle.std.specs.List.Sorted.{IsStrictlySortedBy}
use Rattle.std.proofs.lemmas.Bool.{eqb-true, eq-eqb, false_from_ne_true}
use Rattle.ss_block.specs.declared.hash.Hash.{Hash}
use Rattle.ss_review.specs.declared.keep.message.NormalMessage.{NormalMessage}
use Rattle.ss_review.specs.assign.Assigned.{has_hash, same_pair, is_pair, pair_of_bearer, places_with}
use Rattle.ss_review.specs.assign.Assigning.{pair_wanted, pairs_wanted, bearer_wanted, bearers_wanted, is_at, place_after}
use Rattle.ss_review.proofs.of_lists.Counting.{count_by-cons, same_itself, same_pair-is}
use Rattle.ss_review.proofs.of_lists.Finding.{find_some, find_least, finds}
use Rattle.ss_octets.proofs.Members.{Has}

-- both hashes that a key wants are its bearer's
pub pair_is : (ms : List NormalMessage) (h : Option Hash) → pair_wanted ms h ≡ option_map (λ m. m.pair) (bearer_wanted ms h)
unfolding pair_of_bearer
pair_is ms None = refl
pair_is ms (Some h) = refl

module _ (ms : List NormalMessage) (up : IsStrictlySortedBy nat_cmp (map (λ (m : NormalMessage). m.place) ms)) where
  one_at_place : (m n : NormalMessage) → Has ms m → Has ms n → m.place ≡ n.place → m ≡ n
  one_at_place m n i j e =
      let first : find (λ (k : NormalMessage). k.place == m.place) ms ≡ Some m
      = finds (λ k. k.place == m.place) ms m up i (eq-eqb m.place m.place refl) (λ k h t. omega (arith, eqb-true k.place m.place t)) in
      let second : find (λ (k : NormalMessage). k.place == m.place) ms ≡ Some n
      = finds (λ k. k.place == m.place) ms n up j (eq-eqb n.place m.place (sym e)) (λ k h t. omega (arith, eqb-true k.place m.place t, e)) in
      cc

  -- the first message with its two hashes
  abbrev IsFirst : NormalMessage → Type 0
  IsFirst m = find (λ (k : NormalMessage). same_pair k.pair m.pair) ms ≡ Some m

  wanted_first : (h : Option Hash) (m : NormalMessage) → bearer_wanted ms h ≡ Some m → IsFirst m
  wanted_first None m e = absurd (cc)
  wanted_first (Some h) m e =
      let bearer = find_some (λ (k : NormalMessage). has_hash h k.pair) ms m e in
      finds (λ k. same_pair k.pair m.pair) ms m up bearer.0 (same_itself m.pair)
      (λ n i t. find_least (λ k. has_hash h k.pair) ms m up e n i (ap (has_hash h) (same_pair-is n.pair m.pair t) ∙ bearer.1))

  -- another bearer at its place is another with its hashes
  at_one : (m n : NormalMessage) → IsFirst m → IsFirst n → (n.place == m.place) ≡ same_pair n.pair m.pair
  at_one m n f g = by (same_pair n.pair m.pair) refl
    where
      here : (k : NormalMessage) → IsFirst k → Has ms k
      here k e = (find_some (λ (j : NormalMessage). same_pair j.pair k.pair) ms k e).0

      by : (b : Bool) → same_pair n.pair m.pair ≡ b → (n.place == m.place) ≡ b
      by true e =
          let one : Some n ≡ Some m = sym g ∙ ap (λ p. find (λ (k : NormalMessage). same_pair k.pair p) ms) (same_pair-is n.pair m.pair e) ∙ f in
          let same : n ≡ m = cc in
          eq-eqb n.place m.place (ap (λ (k : NormalMessage). k.place) same)
      by false e =
          false_from_ne_true (n.place == m.place)
          (λ t. let no : false ≡ true = sym e ∙ ap (λ (k : NormalMessage). same_pair k.pair m.pair) (one_at_place n m (here n g) (here m f) (eqb-true n.place m.place t)) ∙ same_itself m.pair in absurd (cc))

  at_wanted : (m : NormalMessage) → IsFirst m → (h : Option Hash) (o : Option NormalMessage) → bearer_wanted ms h ≡ o → is_at m.place o ≡ is_pair m.pair (option_map (λ k. k.pair) o)
  at_wanted m f h None e = refl
  at_wanted m f h (Some n) e = at_one m n f (wanted_first h n e)

  -- so it was wanted as often as its hashes were
  as_often : (m : NormalMessage) → IsFirst m → (hs : List (Option Hash)) → count_by (is_at m.place) (bearers_wanted ms hs) ≡ count_by (is_pair m.pair) (pairs_wanted ms hs)
  as_often m f [] = refl
  as_often m f (h ∷ hs) =
      count_by-cons (is_at m.place) (bearer_wanted ms h) (bearers_wanted ms hs)
      ∙ ap (λ b. cond b 1 0 + count_by (is_at m.place) (bearers_wanted ms hs)) (at_wanted m f h (bearer_wanted ms h) refl ∙ ap (is_pair m.pair) (sym (pair_is ms h)))
      ∙ ap (λ n. cond (is_pair m.pair (pair_wanted ms h)) 1 0 + n) (as_often m f hs)
      ∙ sym (count_by-cons (is_pair m.pair) (pair_wanted ms h) (pairs_wanted ms hs))

  -- the place of the next key, by how often its bearer was wanted before
  pub place_by_bearer : (hs : List (Option Hash)) (h : Option Hash) (m : NormalMessage) → bearer_wanted ms h ≡ Some m
      → slice_get (places_with ms m.pair) (count_by (is_at m.place) (bearers_wanted ms hs)) ≡ place_after ms (pairs_wanted ms hs) (pair_wanted ms h)
  place_by_bearer hs h m e =
      ap (slice_get (places_with ms m.pair)) (as_often m (wanted_first h m e) hs)
      ∙ ap (place_after ms (pairs_wanted ms hs)) (sym (pair_is ms h ∙ ap (option_map (λ (k : NormalMessage). k.pair)) e))

pub no_place : (ms : List NormalMessage) (hs : List (Option Hash)) (h : Option Hash) → bearer_wanted ms h ≡ None → None ≡ place_after ms (pairs_wanted ms hs) (pair_wanted ms h)
no_place ms hs h e = ap (place_after ms (pairs_wanted ms hs)) (sym (pair_is ms h ∙ ap (option_map (λ (k : NormalMessage). k.pair)) e))
