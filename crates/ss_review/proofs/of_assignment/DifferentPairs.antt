-- Where the pairs of some texts differ, at most one text has a pair; and whether some stored message has one.
use Rattle.std.proofs.Common.{◌≡◌, ℕ, suc, ◌≤◌, Bool, true, false, cond, List, [], ◌∷◌, length, map, filter, refl, sym, ap, ◌∙◌, arith}
use Rattle.std.specs.Prelude.{◌≢◌, ◌||◌, nat_lt, count_by}
use Rattle.std.specs.List.{AllPairs, list_any}
use Rattle.std.proofs.lemmas.Bool.{false_from_ne_true, lt-ltb}
use Rattle.ss_block.specs.declared.hash.HashPair.{HashPair}
use Rattle.ss_block.specs.Hashes.{pair}
use Rattle.ss_review.specs.declared.keep.message.NormalMessage.{NormalMessage}
use Rattle.ss_review.specs.assign.Assigned.{same_pair, places_with}
use Rattle.ss_review.proofs.of_lists.Counting.{count_by-cons, same_pair-is}
use Rattle.ss_octets.proofs.Members.{Has, contains_from_has}
use Rattle.ss_review.proofs.of_lists.Sums.{sum_by-none, count_by-same}

-- ---- texts whose pairs differ

abbrev PairsDiffer : List (List ℕ) → Type 0
PairsDiffer texts = AllPairs (λ m n. pair m ≢ pair n) texts

apart_from_first : (m : List ℕ) (texts : List (List ℕ)) → PairsDiffer (m ∷ texts) → (n : List ℕ) → Has texts n → pair m ≢ pair n
apart_from_first m texts differ n h same =
    let c = contains_from_has texts n h in
    differ 0 (suc c.0) n (omega arith) (omega (arith, c.1)) (same ∙ ap pair (sym c.2))

differ_behind : (m : List ℕ) (texts : List (List ℕ)) → PairsDiffer (m ∷ texts) → PairsDiffer texts
differ_behind m texts differ i j d low high = differ (suc i) (suc j) d (omega (arith, low)) (omega (arith, high))

-- the text has these two hashes
abbrev pub text_has_pair : HashPair → List ℕ → Bool
text_has_pair p m = same_pair (pair m) p

module _ (p : HashPair) where
  none_behind : (m : List ℕ) (texts : List (List ℕ)) → PairsDiffer (m ∷ texts) → text_has_pair p m ≡ true → count_by (text_has_pair p) texts ≡ 0
  none_behind m texts differ its =
      count_by-same (text_has_pair p) (λ n. false) texts
      (λ n h. false_from_ne_true (text_has_pair p n) (λ t. apart_from_first m texts differ n h (same_pair-is (pair m) p its ∙ sym (same_pair-is (pair n) p t))))
      ∙ sum_by-none texts

  one_with : (b : Bool) (m : List ℕ) (texts : List (List ℕ)) → PairsDiffer (m ∷ texts) → text_has_pair p m ≡ b → count_by (text_has_pair p) texts ≤ 1 → count_by (text_has_pair p) (m ∷ texts) ≤ 1
  one_with true m texts differ e rest = omega (arith, count_by-cons (text_has_pair p) m texts, ap {B = ℕ} (λ b. cond b 1 0) e, none_behind m texts differ e)
  one_with false m texts differ e rest = omega (arith, count_by-cons (text_has_pair p) m texts, ap {B = ℕ} (λ b. cond b 1 0) e, rest)

  -- at most one has a pair
  pub at_most_one : (texts : List (List ℕ)) → AllPairs (λ m n. pair m ≢ pair n) texts → count_by (λ m. same_pair (pair m) p) texts ≤ 1
  at_most_one [] differ = omega arith
  at_most_one (m ∷ texts) differ = one_with (text_has_pair p m) m texts differ refl (at_most_one texts (differ_behind m texts differ))

  -- ---- stored messages

  abbrev message_has_pair : NormalMessage → Bool
  message_has_pair m = same_pair m.pair p

  abbrev place_of_message : NormalMessage → ℕ
  place_of_message m = m.place

  any_with : (b : Bool) (m : NormalMessage) (ms : List NormalMessage) → nat_lt 0 (length (map place_of_message (filter message_has_pair ms))) ≡ list_any message_has_pair ms → nat_lt 0 (length (map place_of_message (cond b (m ∷ filter message_has_pair ms) (filter message_has_pair ms)))) ≡ (b || list_any message_has_pair ms)
  any_with true m ms rest = lt-ltb 0 (length (m.place ∷ map place_of_message (filter message_has_pair ms))) (omega arith)
  any_with false m ms rest = rest

  -- there is a place with a pair exactly where some stored message has it
  pub any_place : (ms : List NormalMessage) → nat_lt 0 (length (places_with ms p)) ≡ list_any (λ m. same_pair m.pair p) ms
  unfolding places_with
  any_place [] = refl
  any_place (m ∷ ms) = any_with (message_has_pair m) m ms (any_place ms)
