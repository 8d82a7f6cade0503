-- Lines in order: what a search finds among them, and that a stable sort changes no answer.
use Rattle.std.proofs.Common.{Bor, ◌≡◌, ℕ, zero, suc, ◌<◌, ◌≤◌, Bool, true, false, not, cond, ◌&&◌, ◌||◌, List, [], ◌∷◌, length, get_or, Option, Some, None, is_some, option_and_then, sym, refl, ap, ◌∙◌, arith, inl, inr}
use Rattle.std.specs.List.{All, filter, find, list_any}
use Rattle.std.specs.Str.{bytes_eq}
use Rattle.std.specs.Option.{option_copied, option_map}
use Rattle.std.specs.Cmp.{IsTotalOrder}
use Rattle.std.specs.Ordering.{is_eq, is_lt, ordering_index, ordering_reverse, ordering_then}
use Rattle.std.specs.List.Sorted.{IsNonDecreasingBy, IsPartitionPoint, IsPartitionedBy, IsPermutation, IsStableBy, ties}
use Rattle.std.specs.declared.cmp.Ordering.{Ordering}
use Rattle.std.specs.declared.cmp.Ordering.TheVariants.{Less, Equal, Greater}
use Rattle.std.proofs.lemmas.Bool.{cases_lt}
use Rattle.std.proofs.lemmas.Cmp.{nat_cmp_total, nat_list_cmp_total, on_total, then_total, alike_right}
use Rattle.std.proofs.lemmas.List.{get_or_default}
use Rattle.std.proofs.lemmas.Map.Text.{is_eq-slice_cmp}
use Rattle.std.proofs.lemmas.List.Sorted.{list_any-IsPermutation, searchable_from_sorted}
use Rattle.ss_answers.specs.declared.place.Place.{Place}
use Rattle.ss_answers.specs.Answers.{Answer, Seal, Trust, Yes, SaysTheSame, given_signature, is_seal, is_trust, is_yes, seal_of, trusted, valid}
use Rattle.ss_answers.specs.AnswerKey.{SortKey, key_cmp, key_of, seal_key, trust_key, yes_key}
use Rattle.ss_answers.specs.AnswerLine.{IsInOrder, answer_at, answers_at, has_key, place_key}

pub key_cmp_total : IsTotalOrder key_cmp
key_cmp_total =
    then_total (then_total (then_total (on_total (λ k. k.kind) nat_cmp_total) (on_total (λ k. k.first) nat_list_cmp_total))
    (on_total (λ k. k.second) nat_list_cmp_total)) (on_total (λ k. k.third) nat_list_cmp_total)

-- ---- a search

lt_index : (o : Ordering) → is_lt o ≡ true → ordering_index o ≡ 0
lt_index Less h = refl
lt_index Equal h = cc
lt_index Greater h = cc

index_lt : (o : Ordering) → ordering_index o ≤ 0 → is_lt o ≡ true
index_lt Less h = refl
index_lt Equal h = absurd (omega arith)
index_lt Greater h = absurd (omega arith)

lt_not_eq : (o : Ordering) → is_lt o ≡ true → is_eq o ≡ false
lt_not_eq Less h = refl
lt_not_eq Equal h = cc
lt_not_eq Greater h = refl

index_above : (o : Ordering) → is_lt o ≡ false → is_eq o ≡ false → ordering_index o ≡ 2
index_above Less h k = cc
index_above Equal h k = cc
index_above Greater h k = refl

above_not_eq : (o : Ordering) → 2 ≤ ordering_index o → is_eq o ≡ false
above_not_eq Less h = refl
above_not_eq Equal h = absurd (omega arith)
above_not_eq Greater h = refl

is_none : {X : Type 0} (o : Option X) → is_some o ≡ false → o ≡ None
is_none None h = refl
is_none (Some x) h = cc

module _ {X : Type 0} (p : X → Bool) where
  find_none : (xs : List X) → All (λ x. p x ≡ false) xs → find p xs ≡ None
  find_none [] h = refl
  find_none (x ∷ xs) h = rw (h 0 x (omega arith)) (find_none xs (λ k d lt. h (suc k) d (omega arith)))

  find_first : (xs : List X) (i : ℕ) (d : X) → i < length xs → ((k : ℕ) → k < i → p (get_or xs k d) ≡ false)
      → p (get_or xs i d) ≡ true → find p xs ≡ Some (get_or xs i d)
  find_first [] i d lt before here = absurd (omega arith)
  find_first (x ∷ xs) zero d lt before here = rw here refl
  find_first (x ∷ xs) (suc i) d lt before here =
      rw (before 0 (omega arith)) (find_first xs i d (omega arith) (λ k h. before (suc k) (omega arith)) here)

  list_any-find : (xs : List X) → list_any p xs ≡ is_some (find p xs)
  list_any-find [] = refl
  list_any-find (x ∷ xs) = elim (p x) as (λ b. (b || list_any p xs) ≡ is_some (cond b (Some x) (find p xs))) [ true ↦ refl | false ↦ list_any-find xs ]

  none_found : (xs : List X) → list_any p xs ≡ false → find p xs ≡ None
  none_found xs h = is_none (find p xs) (sym (list_any-find xs) ∙ h)

  find_passes : (xs : List X) (x : X) → find p xs ≡ Some x → p x ≡ true
  find_passes [] x h = cc
  find_passes (y ∷ xs) x h =
      (elim (p y) as (λ b. p y ≡ b → cond b (Some y) (find p xs) ≡ Some x → p x ≡ true) [ true ↦ λ e k. (let same : y ≡ x = cc in rw (← same) e) | false ↦ λ e k. find_passes xs x k ]) refl h

alike : (o : Ordering) → (not (is_lt o) && not (is_lt (ordering_reverse o))) ≡ is_eq o
alike Less = refl
alike Equal = refl
alike Greater = refl

is_eq-reverse : (o : Ordering) → is_eq (ordering_reverse o) ≡ is_eq o
is_eq-reverse Less = refl
is_eq-reverse Equal = refl
is_eq-reverse Greater = refl

eq_from_is_eq : (o : Ordering) → is_eq o ≡ true → o ≡ Equal
eq_from_is_eq Less h = cc
eq_from_is_eq Equal h = refl
eq_from_is_eq Greater h = cc

module _ {X : Type 0} where
  filter_alike : (p q : X → Bool) → ((x : X) → p x ≡ q x) → (xs : List X) → filter p xs ≡ filter q xs
  filter_alike p q h [] = refl
  filter_alike p q h (x ∷ xs) = rw (h x, filter_alike p q h xs) refl

  abbrev front : List X → Option X
  front [] = None
  front (x ∷ xs) = Some x

  find-filter : (p : X → Bool) (xs : List X) → find p xs ≡ front (filter p xs)
  find-filter p [] = refl
  find-filter p (x ∷ xs) = elim (p x) as (λ b. cond b (Some x) (find p xs) ≡ front (cond b (x ∷ filter p xs) (filter p xs))) [ true ↦ refl | false ↦ find-filter p xs ]

-- ---- which answers have a key

then_Equal : (o : Ordering) → is_eq (ordering_then (ordering_then o Equal) Equal) ≡ is_eq o
then_Equal Less = refl
then_Equal Equal = refl
then_Equal Greater = refl

is_eq-then : (o p : Ordering) → is_eq (ordering_then o p) ≡ (is_eq o && is_eq p)
is_eq-then Less p = refl
is_eq-then Equal p = refl
is_eq-then Greater p = refl

and_turned : (a b c : Bool) → ((a && b) && c) ≡ (c && (b && a))
and_turned true true true = refl
and_turned true true false = refl
and_turned true false true = refl
and_turned true false false = refl
and_turned false true true = refl
and_turned false true false = refl
and_turned false false true = refl
and_turned false false false = refl

pub has_trust_key : (payload : List ℕ) (line : Answer) → is_eq (key_cmp (key_of line) (trust_key payload)) ≡ is_trust payload line
has_trust_key payload (Trust p) = then_Equal _ ∙ is_eq-slice_cmp p payload
has_trust_key payload (Yes p o s) = refl
has_trust_key payload (Seal o s) = refl

has_yes_key : (payload octets signature : List ℕ) (line : Answer)
    → is_eq (key_cmp (key_of line) (yes_key payload octets signature)) ≡ is_yes payload octets signature line
has_yes_key payload octets signature (Trust p) = refl
has_yes_key payload octets signature (Yes p o s) =
    rw (is_eq-then, is_eq-then, is_eq-slice_cmp, is_eq-slice_cmp, is_eq-slice_cmp)
    (and_turned (bytes_eq s signature) (bytes_eq o octets) (bytes_eq p payload))
has_yes_key payload octets signature (Seal o s) = refl

has_seal_key : (octets : List ℕ) (line : Answer) → is_eq (key_cmp (key_of line) (seal_key octets)) ≡ is_seal octets line
has_seal_key octets (Trust p) = refl
has_seal_key octets (Yes p o s) = refl
has_seal_key octets (Seal o s) = then_Equal _ ∙ is_eq-slice_cmp o octets

is_some-option_copied : {X : Type 0} (o : Option (Bor X)) → is_some (option_copied o) ≡ is_some o
is_some-option_copied None = refl
is_some-option_copied (Some r) = refl

-- ---- lines at places among these octets

module _ (bytes : List ℕ) where
  -- what the key of a line answers of another key
  abbrev pub against : SortKey → Place → Ordering
  against key place = key_cmp (place_key bytes place) key

  abbrev pub is_below : SortKey → Place → Bool
  is_below key place = is_lt (against key place)

  -- the order that lines are sorted by
  abbrev pub is_before : Place → Place → Bool
  is_before a b = is_lt (key_cmp (place_key bytes a) (place_key bytes b))

  pub rising : (key : SortKey) (places : List Place) → IsInOrder bytes places → IsNonDecreasingBy (λ place. ordering_index (against key place)) places
  rising key places h = searchable_from_sorted key_cmp_total (place_key bytes) places key h

  pub IsPartitionedBy-is_below : (key : SortKey) (places : List Place) → IsInOrder bytes places → IsPartitionedBy (is_below key) places
  IsPartitionedBy-is_below key places h = λ i j d le lt below.
      let up = rising key places h i j d le lt in
      let low = lt_index (against key (get_or places j d)) below in
      index_lt (against key (get_or places i d)) (omega (arith, up, low))

  -- where a search ends
  abbrev pub EndsAt : SortKey → List Place → ℕ → Type 0
  EndsAt key places at = IsPartitionPoint (λ place. is_below key place ≡ true) (λ place. is_below key place ≡ false) places at

  pub find_at : (key : SortKey) (places : List Place) (at : ℕ) → EndsAt key places at → (d : Place) → at < length places
      → has_key bytes key (get_or places at d) ≡ true → find (has_key bytes key) places ≡ Some (get_or places at d)
  find_at key places at point d lt here =
      find_first (has_key bytes key) places at d lt (λ k h. lt_not_eq (against key (get_or places k d)) (point.0 k d (omega arith) h)) here

  pub find_past : (key : SortKey) (places : List Place) (at : ℕ) → EndsAt key places at → length places ≤ at → find (has_key bytes key) places ≡ None
  find_past key places at point le =
      find_none (has_key bytes key) places (λ k e lt. lt_not_eq (against key (get_or places k e)) (point.0 k e (omega arith) (omega arith)))

  pub find_absent : (key : SortKey) (places : List Place) (at : ℕ) → IsInOrder bytes places → EndsAt key places at → (d : Place) → at < length places
      → has_key bytes key (get_or places at d) ≡ false → find (has_key bytes key) places ≡ None
  find_absent key places at order point d lt here = find_none (has_key bytes key) places (λ k e short. elim (cases_lt k at) [
    | inl below ↦ lt_not_eq (against key (get_or places k e)) (point.0 k e (omega arith) below)
    | inr above ↦
        let same : get_or places at d ≡ get_or places at e = get_or_default places at d e lt in
        let here_too : has_key bytes key (get_or places at e) ≡ false = rw same at here in
        let at_top = index_above (against key (get_or places at e)) (point.1 at e (omega arith) lt) here_too in
        let up = rising key places order at k e above short in
        above_not_eq (against key (get_or places k e)) (omega (arith, at_top, up))
  ])

  -- a line of a key ties with the lines of that key
  ties-has_key : (key : SortKey) (place other : Place) → has_key bytes key place ≡ true → ties is_before place other ≡ has_key bytes key other
  ties-has_key key place other h =
      let forth = key_cmp (place_key bytes place) (place_key bytes other) in
      let back : key_cmp (place_key bytes other) (place_key bytes place) ≡ ordering_reverse forth = key_cmp_total.antisymm (place_key bytes other) (place_key bytes place) in
      let tied : key_cmp (place_key bytes place) key ≡ Equal = eq_from_is_eq _ h in
      let moved : key_cmp (place_key bytes other) (place_key bytes place) ≡ key_cmp (place_key bytes other) key = alike_right key_cmp_total (place_key bytes place) key (place_key bytes other) tied in
      ap (λ o. not (is_lt forth) && not (is_lt o)) back ∙ alike forth ∙ sym (is_eq-reverse forth) ∙ ap is_eq (sym back ∙ moved)

  -- the first line of a key is the same after a stable sort
  find_by : (xs ys : List Place) → IsPermutation xs ys → IsStableBy is_before xs ys → (key : SortKey) (found : Option Place)
      → find (has_key bytes key) xs ≡ found → find (has_key bytes key) ys ≡ found
  find_by xs ys moved stable key None h =
      let none : list_any (has_key bytes key) ys ≡ false = sym (list_any-IsPermutation (has_key bytes key) xs ys moved) ∙ list_any-find (has_key bytes key) xs ∙ ap is_some h in
      none_found (has_key bytes key) ys none
  find_by xs ys moved stable key (Some place) h =
      let passes : has_key bytes key place ≡ true = find_passes (has_key bytes key) xs place h in
      let alike_all = λ (other : Place). ties-has_key key place other passes in
      find-filter (has_key bytes key) ys ∙ ap front (sym (filter_alike _ _ alike_all ys) ∙ stable place ∙ filter_alike _ _ alike_all xs) ∙ sym (find-filter (has_key bytes key) xs) ∙ h

  find_sorted : (xs ys : List Place) → IsPermutation xs ys → IsStableBy is_before xs ys → (key : SortKey)
      → find (has_key bytes key) ys ≡ find (has_key bytes key) xs
  find_sorted xs ys moved stable key = find_by xs ys moved stable key (find (has_key bytes key) xs) refl

  -- what lines say, by their keys
  list_any-answers : (p : Answer → Bool) (q : Place → Bool) → ((place : Place) → q place ≡ p (answer_at bytes place)) → (places : List Place)
      → list_any p (answers_at bytes places) ≡ list_any q places
  list_any-answers p q h [] = refl
  list_any-answers p q h (x ∷ places) = rw (h x, list_any-answers p q h places) refl

  find-answers : (p : Answer → Bool) (q : Place → Bool) → ((place : Place) → q place ≡ p (answer_at bytes place)) → (places : List Place)
      → find p (answers_at bytes places) ≡ option_map (answer_at bytes) (find q places)
  find-answers p q h [] = refl
  find-answers p q h (x ∷ places) =
      rw (← h x) (elim (q x) as (λ b. cond b (Some (answer_at bytes x)) (find p (answers_at bytes places)) ≡ option_map (answer_at bytes) (cond b (Some x) (find q places))) [ true ↦ refl | false ↦ find-answers p q h places ])

  pub has_key-answer : (p : Answer → Bool) (key : SortKey) → ((line : Answer) → is_eq (key_cmp (key_of line) key) ≡ p line) → (place : Place)
      → has_key bytes key place ≡ p (answer_at bytes place)
  unfolding place_key
  has_key-answer p key h place = h (answer_at bytes place)

  trusted-answers : (places : List Place) (payload : List ℕ) → trusted (answers_at bytes places) payload ≡ is_some (find (has_key bytes (trust_key payload)) places)
  trusted-answers places payload =
      list_any-answers (is_trust payload) (has_key bytes (trust_key payload)) (has_key-answer (is_trust payload) (trust_key payload) (has_trust_key payload)) places
      ∙ list_any-find (has_key bytes (trust_key payload)) places

  valid-answers : (places : List Place) (payload octets signature : List ℕ)
      → valid (answers_at bytes places) payload octets signature ≡ is_some (find (has_key bytes (yes_key payload octets signature)) places)
  valid-answers places payload octets signature =
      let key = yes_key payload octets signature in
      list_any-answers (is_yes payload octets signature) (has_key bytes key) (has_key-answer (is_yes payload octets signature) key (has_yes_key payload octets signature)) places
      ∙ list_any-find (has_key bytes key) places

  seal_of-answers : (places : List Place) (octets : List ℕ)
      → seal_of (answers_at bytes places) octets ≡ option_and_then given_signature (option_map (answer_at bytes) (find (has_key bytes (seal_key octets)) places))
  seal_of-answers places octets =
      ap (option_and_then given_signature) (find-answers (is_seal octets) (has_key bytes (seal_key octets)) (has_key-answer (is_seal octets) (seal_key octets) (has_seal_key octets)) places)

  -- a stable sort changes no answer
  pub SaysTheSame-sorted : (xs ys : List Place) → IsPermutation xs ys → IsStableBy is_before xs ys → SaysTheSame (answers_at bytes xs) (answers_at bytes ys)
  SaysTheSame-sorted xs ys moved stable = record {
    trusted = λ payload. rw (trusted-answers ys payload, trusted-answers xs payload, find_sorted xs ys moved stable (trust_key payload)) refl;
    valid = λ payload octets signature.
        let key = yes_key payload octets signature in
        rw (valid-answers ys payload octets signature, valid-answers xs payload octets signature, find_sorted xs ys moved stable key) refl;
    seal = λ octets. rw (seal_of-answers ys octets, seal_of-answers xs octets, find_sorted xs ys moved stable (seal_key octets)) refl;
  }

  -- what a search found, where it looked for a line of trust, of yes, of a seal
  pub trusted_from_find : (places : List Place) (payload : List ℕ) (found : Option (Bor Place))
      → option_copied found ≡ find (has_key bytes (trust_key payload)) places → is_some found ≡ trusted (answers_at bytes places) payload
  trusted_from_find places payload found h =
      sym (is_some-option_copied found) ∙ ap is_some h ∙ sym (trusted-answers places payload)

  pub valid_from_find : (places : List Place) (payload octets signature : List ℕ) (found : Option (Bor Place))
      → option_copied found ≡ find (has_key bytes (yes_key payload octets signature)) places
      → is_some found ≡ valid (answers_at bytes places) payload octets signature
  valid_from_find places payload octets signature found h =
      sym (is_some-option_copied found) ∙ ap is_some h ∙ sym (valid-answers places payload octets signature)

  pub seal_from_find : (places : List Place) (octets : List ℕ) (found : Option (Bor Place))
      → option_copied found ≡ find (has_key bytes (seal_key octets)) places
      → seal_of (answers_at bytes places) octets ≡ option_and_then given_signature (option_map (answer_at bytes) (option_copied found))
  seal_from_find places octets found h =
      seal_of-answers places octets ∙ ap (λ o. option_and_then given_signature (option_map (answer_at bytes) o)) (sym h)

  pub seal_from_line : (places : List Place) (octets : List ℕ) (found : Option (Bor Place)) (place : Bor Place) (given : Option (Bor (List ℕ)))
      → option_copied found ≡ find (has_key bytes (seal_key octets)) places → found ≡ Some place
      → option_copied given ≡ given_signature (answer_at bytes place.now) → seal_of (answers_at bytes places) octets ≡ option_copied given
  seal_from_line places octets found place given h is gives =
      seal_from_find places octets found h ∙ ap (λ o. option_and_then given_signature (option_map (answer_at bytes) (option_copied o))) is ∙ sym gives
