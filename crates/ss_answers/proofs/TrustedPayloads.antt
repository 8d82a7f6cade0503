-- The payloads that lines trust: which they are, and how they are found among lines in order.
use Rattle.std.proofs.Common.{◌≡◌, ℕ, suc, ◌+◌, ◌<◌, ◌≤◌, Bool, true, false, eqb, cond, ◌||◌, List, [], ◌∷◌, ◌++◌, length, get_or, Option, Some, None, sym, refl, ap, ◌∙◌, arith, append_assoc}
use Rattle.std.specs.List.{AllByRecursion, IsDistinct, cons_option, find, list_any}
use Rattle.std.specs.List.Sorted.{IsStrictlySortedBy}
use Rattle.std.specs.Cmp.Lexicographic.{slice_cmp}
use Rattle.std.specs.Str.{bytes_eq}
use Rattle.std.specs.Ordering.{is_eq, is_lt, nat_cmp, ordering_index, ordering_reverse, ordering_then}
use Rattle.std.specs.declared.cmp.Ordering.{Ordering}
use Rattle.std.specs.declared.cmp.Ordering.TheVariants.{Less, Equal, Greater}
use Rattle.std.proofs.lemmas.Bool.Decides.{nat_tests}
use Rattle.std.proofs.lemmas.Cmp.{nat_list_cmp_total}
use Rattle.std.proofs.lemmas.Map.Text.{is_eq-slice_cmp}
use Rattle.std.proofs.lemmas.Slice.Eq.{bytes_eq-Decides}
use Rattle.ss_answers.specs.declared.place.Place.{Place}
use Rattle.ss_answers.specs.Answers.{Answer, Seal, Trust, Yes, PayloadsAreThoseTrusted, Rise, is_trust, last_trust, payloads_of, trusted, trusted_payload}
use Rattle.ss_answers.specs.AnswerKey.{key_cmp, key_of, trust_key}
use Rattle.ss_answers.specs.AnswerLine.{IsInOrder, answer_at, answer_by_fields, answers_at, has_key, place_key}
use Rattle.ss_answers.proofs.OrderedLines.{against, find_absent, has_key-answer, has_trust_key, is_before, is_below, rising, trusted_from_find}

-- ---- what a line trusts, by its fields

pub trusted_payload-seal : (payload octets signature : List ℕ) → eqb (length payload) 0 ≡ true
    → trusted_payload (answer_by_fields payload octets signature) ≡ None
trusted_payload-seal [] octets signature h = refl
trusted_payload-seal (x ∷ payload) octets signature h = absurd (grind (arith, nat_tests))

pub trusted_payload-trust : (payload octets signature : List ℕ) → eqb (length payload) 0 ≡ false → eqb (length octets) 0 ≡ true
    → trusted_payload (answer_by_fields payload octets signature) ≡ Some payload
trusted_payload-trust [] octets signature h k = absurd (grind (arith, nat_tests))
trusted_payload-trust (x ∷ payload) [] signature h k = refl
trusted_payload-trust (x ∷ payload) (y ∷ octets) signature h k = absurd (grind (arith, nat_tests))

pub trusted_payload-yes : (payload octets signature : List ℕ) → eqb (length payload) 0 ≡ false → eqb (length octets) 0 ≡ false
    → trusted_payload (answer_by_fields payload octets signature) ≡ None
trusted_payload-yes [] octets signature h k = absurd (grind (arith, nat_tests))
trusted_payload-yes (x ∷ payload) [] signature h k = absurd (grind (arith, nat_tests))
trusted_payload-yes (x ∷ payload) (y ∷ octets) signature h k = refl

-- ---- whether a line trusts a payload, and by which key it is found

pub is_trust-some : (line : Answer) (p payload : List ℕ) → trusted_payload line ≡ Some p → is_trust payload line ≡ bytes_eq p payload
is_trust-some (Trust q) p payload h = let same : q ≡ p = cc in rw same refl
is_trust-some (Yes q o s) p payload h = cc
is_trust-some (Seal o s) p payload h = cc

pub is_trust-none : (line : Answer) (payload : List ℕ) → trusted_payload line ≡ None → is_trust payload line ≡ false
is_trust-none (Trust q) payload h = cc
is_trust-none (Yes q o s) payload h = refl
is_trust-none (Seal o s) payload h = refl

key_of-trusting : (line : Answer) (p : List ℕ) → trusted_payload line ≡ Some p → key_of line ≡ trust_key p
key_of-trusting (Trust q) p h = let same : q ≡ p = cc in rw same refl
key_of-trusting (Yes q o s) p h = cc
key_of-trusting (Seal o s) p h = cc

pub last_trust-none : (line : Answer) (lines : List Answer) → trusted_payload line ≡ None → last_trust line lines ≡ None
last_trust-none (Trust q) lines h = cc
last_trust-none (Yes q o s) lines h = refl
last_trust-none (Seal o s) lines h = refl

last_trust-some : (line : Answer) (lines : List Answer) (p : List ℕ) → trusted_payload line ≡ Some p
    → last_trust line lines ≡ cond (trusted lines p) None (Some p)
last_trust-some (Trust q) lines p h = let same : q ≡ p = cc in rw same refl
last_trust-some (Yes q o s) lines p h = cc
last_trust-some (Seal o s) lines p h = cc

-- ---- lines in order

index_not_lt : (o : Ordering) → 1 ≤ ordering_index o → is_lt o ≡ false
index_not_lt Less h = absurd (omega arith)
index_not_lt Equal h = refl
index_not_lt Greater h = refl

index_eq : (o : Ordering) → is_eq o ≡ true → 1 ≤ ordering_index o
index_eq Less h = cc
index_eq Equal h = omega arith
index_eq Greater h = cc

module _ (bytes : List ℕ) where
  pub in_order_after : (first : Place) (others : List Place) → IsInOrder bytes (first ∷ others) → IsInOrder bytes others
  in_order_after first others order = λ k d low short.
      let further : suc k + 1 ≡ suc (k + 1) = omega arith in
      sym (ap (λ j. is_before bytes (get_or (first ∷ others) j d) (get_or others k d)) further)
      ∙ order (suc k) d (omega arith) (omega arith)

  pub last_alone : (first : Place) (p : List ℕ) → trusted_payload (answer_at bytes first) ≡ Some p
      → last_trust (answer_at bytes first) (answers_at bytes []) ≡ Some p
  last_alone first p h = last_trust-some (answer_at bytes first) [] p h

  -- the next line trusts the payload too
  pub last_again : (first next : Place) (more : List Place) (p : List ℕ) → trusted_payload (answer_at bytes first) ≡ Some p
      → is_trust p (answer_at bytes next) ≡ true → last_trust (answer_at bytes first) (answers_at bytes (next ∷ more)) ≡ None
  last_again first next more p h again =
      let there : trusted (answers_at bytes (next ∷ more)) p ≡ true = rw again refl in
      last_trust-some (answer_at bytes first) (answers_at bytes (next ∷ more)) p h ∙ ap (λ b. cond b None (Some p)) there

  -- no line that trusts it is before the others
  none_below : (first : Place) (others : List Place) (p : List ℕ) → IsInOrder bytes (first ∷ others)
      → trusted_payload (answer_at bytes first) ≡ Some p → (k : ℕ) (d : Place) → k < length others
      → is_below bytes (trust_key p) (get_or others k d) ≡ false
  none_below first others p order h k d short =
      let here : has_key bytes (trust_key p) first ≡ true =
      has_key-answer bytes (is_trust p) (trust_key p) (has_trust_key p) first
      ∙ is_trust-some (answer_at bytes first) p p h ∙ (bytes_eq-Decides p p).1 refl in
      let low = index_eq (against bytes (trust_key p) first) here in
      let up = rising bytes (trust_key p) (first ∷ others) order 0 (suc k) d (omega arith) (omega arith) in
      index_not_lt (against bytes (trust_key p) (get_or others k d)) (omega (arith, low, up))

  -- the next line doesn't trust it, so no other does
  pub last_of_all : (first next : Place) (more : List Place) (p : List ℕ) → IsInOrder bytes (first ∷ next ∷ more)
      → trusted_payload (answer_at bytes first) ≡ Some p → is_trust p (answer_at bytes next) ≡ false
      → last_trust (answer_at bytes first) (answers_at bytes (next ∷ more)) ≡ Some p
  last_of_all first next more p order h other =
      let others = next ∷ more in
      let key = trust_key p in
      let absent : find (has_key bytes key) others ≡ None =
      find_absent bytes key others 0 (in_order_after first others order)
      ((λ k d low short. absurd (omega arith)), (λ k d low short. none_below first others p order h k d short)) next (omega arith)
      (has_key-answer bytes (is_trust p) key (has_trust_key p) next ∙ other) in
      let not_there : trusted (answers_at bytes others) p ≡ false = sym (trusted_from_find bytes others p None (sym absent)) in
      last_trust-some (answer_at bytes first) (answers_at bytes others) p h ∙ ap (λ b. cond b None (Some p)) not_there

-- ---- a step

pub cons_option-append : {X : Type 0} (front : List X) (o : Option X) (rest : List X)
    → (front ++ cons_option o []) ++ rest ≡ front ++ cons_option o rest
cons_option-append front None rest = append_assoc front [] rest
cons_option-append front (Some x) rest = append_assoc front (x ∷ []) rest

pub none_left : {X : Type 0} (xs : List X) → length xs ≡ 0 → xs ≡ []
none_left [] h = refl
none_left (x ∷ xs) h = absurd (omega arith)

-- ---- which payloads they are

same : (p q : List ℕ) → bytes_eq p q ≡ true → p ≡ q
same p q h = (bytes_eq-Decides p q).0 h

trusted_again : (lines : List Answer) (p payload : List ℕ) → trusted lines p ≡ true → trusted lines payload ≡ (bytes_eq p payload || trusted lines payload)
trusted_again lines p payload h =
    (elim (bytes_eq p payload) as (λ b. bytes_eq p payload ≡ b → trusted lines payload ≡ (b || trusted lines payload)) [ true ↦ λ e. rw (← same p payload e) h | false ↦ λ e. refl ]) refl

among : (lines : List Answer) (payload : List ℕ) → list_any (λ p. bytes_eq p payload) (payloads_of lines) ≡ trusted lines payload
among [] payload = refl
among (Yes p o s ∷ lines) payload = among lines payload
among (Seal o s ∷ lines) payload = among lines payload
among (Trust p ∷ lines) payload =
    (elim (trusted lines p) as (λ b. trusted lines p ≡ b → list_any (λ q. bytes_eq q payload) (cons_option (cond b None (Some p)) (payloads_of lines)) ≡ (bytes_eq p payload || trusted lines payload)) [ true ↦ λ e. among lines payload ∙ trusted_again lines p payload e | false ↦ λ e. ap (λ (b : Bool). bytes_eq p payload || b) (among lines payload) ]) refl

flip : (p q : List ℕ) → bytes_eq q p ≡ false → bytes_eq p q ≡ false
flip p q h = (elim (bytes_eq p q) as (λ b. bytes_eq p q ≡ b → b ≡ false) [ true ↦ λ e. (let back : bytes_eq q p ≡ true = (bytes_eq-Decides q p).1 (sym (same p q e)) in cc) | false ↦ λ e. refl ]) refl

none_equal : (p : List ℕ) (payloads : List (List ℕ)) → list_any (λ q. bytes_eq q p) payloads ≡ false → AllByRecursion (λ q. bytes_eq p q ≡ false) payloads
none_equal p [] h = tt
none_equal p (q ∷ payloads) h =
    (elim (bytes_eq q p) as (λ b. bytes_eq q p ≡ b → (b || list_any (λ q. bytes_eq q p) payloads) ≡ false → AllByRecursion (λ q. bytes_eq p q ≡ false) (q ∷ payloads)) [ true ↦ λ e k. cc | false ↦ λ e k. (flip p q e, none_equal p payloads k) ]) refl h

once : (lines : List Answer) → IsDistinct bytes_eq (payloads_of lines)
unfolding IsDistinct
once [] = tt
once (Yes p o s ∷ lines) = once lines
once (Seal o s ∷ lines) = once lines
once (Trust p ∷ lines) =
    (elim (trusted lines p) as (λ b. trusted lines p ≡ b → IsDistinct bytes_eq (cons_option (cond b None (Some p)) (payloads_of lines))) [ true ↦ λ e. once lines | false ↦ λ e. (none_equal p (payloads_of lines) (among lines p ∙ e), once lines) ]) refl

pub payloads_are_those_trusted : PayloadsAreThoseTrusted
payloads_are_those_trusted lines = record { among = among lines; once = once lines }

-- ---- they rise

not_lt-then : (o : Ordering) → is_lt (ordering_then (ordering_then o Equal) Equal) ≡ is_lt o
not_lt-then Less = refl
not_lt-then Equal = refl
not_lt-then Greater = refl

greater : (o : Ordering) → is_lt o ≡ false → is_eq o ≡ false → ordering_reverse o ≡ Less
greater Less h k = cc
greater Equal h k = cc
greater Greater h k = refl

first_false : (a b : Bool) → (a || b) ≡ false → a ≡ false
first_false true b h = cc
first_false false b h = refl

second_false : (a b : Bool) → (a || b) ≡ false → b ≡ false
second_false true b h = cc
second_false false b h = h

-- another payload that isn't before this one is after it
after : (p q : List ℕ) → is_lt (key_cmp (trust_key q) (trust_key p)) ≡ false → bytes_eq q p ≡ false → slice_cmp nat_cmp p q ≡ Less
after p q low other =
    nat_list_cmp_total.antisymm p q
    ∙ greater (slice_cmp nat_cmp q p) (sym (not_lt-then (slice_cmp nat_cmp q p)) ∙ low) (is_eq-slice_cmp q p ∙ other)

-- the line's key isn't below that of a line which trusts the payload
abbrev IsNotBelow : List ℕ → Answer → Type 0
IsNotBelow p line = is_lt (key_cmp (key_of line) (trust_key p)) ≡ false

all_after : (p : List ℕ) (lines : List Answer) → AllByRecursion (IsNotBelow p) lines → trusted lines p ≡ false
    → AllByRecursion (λ q. slice_cmp nat_cmp p q ≡ Less) (payloads_of lines)
all_after p [] up other = tt
all_after p (Yes q o s ∷ lines) up other = all_after p lines up.1 other
all_after p (Seal o s ∷ lines) up other = all_after p lines up.1 other
all_after p (Trust q ∷ lines) up other =
    let differs : bytes_eq q p ≡ false = first_false (bytes_eq q p) (trusted lines p) other in
    let rest = all_after p lines up.1 (second_false (bytes_eq q p) (trusted lines p) other) in
    elim (trusted lines q) as (λ b. AllByRecursion (λ r. slice_cmp nat_cmp p r ≡ Less) (cons_option (cond b None (Some q)) (payloads_of lines))) [ true ↦ rest | false ↦ (after p q up.0 differs, rest) ]

all_above : (bytes p : List ℕ) (places : List Place)
    → ((k : ℕ) (d : Place) → k < length places → is_below bytes (trust_key p) (get_or places k d) ≡ false)
    → AllByRecursion (IsNotBelow p) (answers_at bytes places)
unfolding place_key
all_above bytes p [] h = tt
all_above bytes p (x ∷ places) h = (h 0 x (omega arith), all_above bytes p places (λ k d short. h (suc k) d (omega arith)))

rise_on : (line : Answer) (lines : List Answer) → ((p : List ℕ) → trusted_payload line ≡ Some p → AllByRecursion (IsNotBelow p) lines)
    → Rise (payloads_of lines) → Rise (payloads_of (line ∷ lines))
unfolding IsStrictlySortedBy
rise_on (Yes q o s) lines up rest = rest
rise_on (Seal o s) lines up rest = rest
rise_on (Trust p) lines up rest =
    (elim (trusted lines p) as (λ b. trusted lines p ≡ b → Rise (cons_option (cond b None (Some p)) (payloads_of lines))) [ true ↦ λ e. rest | false ↦ λ e. (all_after p lines (up p refl) e, rest) ]) refl

pub payloads_rise : (bytes : List ℕ) (places : List Place) → IsInOrder bytes places → Rise (payloads_of (answers_at bytes places))
unfolding IsStrictlySortedBy
payloads_rise bytes [] order = tt
payloads_rise bytes (x ∷ places) order =
    rise_on (answer_at bytes x) (answers_at bytes places)
    (λ p trusts. all_above bytes p places (λ k d short. none_below bytes x places p order trusts k d short))
    (payloads_rise bytes places (in_order_after bytes x places order))
