-- What a search for a hash finds in hashes that are in order.
use Rattle.std.proofs.Common.{◌≡◌, ◌≢◌, ◌⊎◌, inl, inr, ℕ, zero, suc, ◌+◌, ◌<◌, ◌≤◌, Bool, true, false, cond, List, [], ◌∷◌, ◌++◌, length, take, drop, get_or, slice_set, refl, sym, ap, ◌∙◌, subst, arith}
use Rattle.std.proofs.Math.Seq.{take-add}
use Rattle.std.specs.Prelude.{Option, Some, None, slice_get, Contains, option_and_then}
use Rattle.std.specs.List.{take_while}
use Rattle.std.specs.declared.cmp.Ordering.{Ordering}
use Rattle.std.specs.declared.cmp.Ordering.TheVariants.{Less, Equal, Greater}
use Rattle.std.specs.Ordering.{nat_cmp, ordering_then, ordering_reverse, is_eq, is_lt}
use Rattle.std.specs.List.Sorted.{IsStrictlySortedBy}
use Rattle.std.proofs.lemmas.List.Sums.{take_while-cons}
use Rattle.std.proofs.lemmas.Bool.{cases_eq, ltb-true, ltb-false}
use Rattle.std.proofs.lemmas.Option.{slice_get_within, slice_get-get_or}
use Rattle.std.proofs.lemmas.List.{take_all}
use Rattle.ss_block.specs.declared.hash.Hash.{Hash}
use Rattle.ss_block.specs.Order.{hash_cmp}
use Rattle.ss_block.specs.OrderLaws.{hash_cmp_total, hash_cmp_exact}
use Rattle.ss_review.specs.declared.assign.stored_hash.StoredHash.{StoredHash}
use Rattle.ss_review.specs.assign.StoredHashes.{stored_cmp, is_earlier, has_this, has_hash_at, IsBearerAt, FoundLast, IsNotBelow, IsFoundFor, KeyedHash, Wanted, keyed_cmp}
use Rattle.ss_review.proofs.of_lists.Keyed.{has-slice_get}
use Rattle.ss_review.proofs.of_lists.Rising.{not_less_itself, reversed}
use Rattle.ss_octets.proofs.Members.{Has, has_from_contains, contains_from_has, has-append_left, has-append_right, has-append_cases, all-has}

-- ---- the first elements of a list

slice_get-take : {X : Type 0} (n : ℕ) (xs : List X) (i : ℕ) (x : X) → slice_get (take n xs) i ≡ Some x → slice_get xs i ≡ Some x
slice_get-take zero xs i x e = absurd (cc)
slice_get-take (suc n) [] i x e = absurd (cc)
slice_get-take (suc n) (y ∷ ys) zero x e = e
slice_get-take (suc n) (y ∷ ys) (suc i) x e = slice_get-take n ys i x e

slice_get-take_more : {X : Type 0} (n : ℕ) (xs : List X) (i : ℕ) (x : X) → slice_get (take n xs) i ≡ Some x → slice_get (take (suc n) xs) i ≡ Some x
slice_get-take_more zero xs i x e = absurd (cc)
slice_get-take_more (suc n) [] i x e = absurd (cc)
slice_get-take_more (suc n) (y ∷ ys) zero x e = e
slice_get-take_more (suc n) (y ∷ ys) (suc i) x e = slice_get-take_more n ys i x e

slice_get-take_last : {X : Type 0} (xs : List X) (i : ℕ) (x : X) → slice_get xs i ≡ Some x → slice_get (take (suc i) xs) i ≡ Some x
slice_get-take_last [] i x e = absurd (cc)
slice_get-take_last (y ∷ ys) zero x e = e
slice_get-take_last (y ∷ ys) (suc i) x e = slice_get-take_last ys i x e

has-take_more : {X : Type 0} (xs : List X) (i : ℕ) (x y : X) → slice_get xs i ≡ Some x → Has (take (suc i) xs) y → Has (take i xs) y ⊎ (x ≡ y)
has-take_more [] i x y e h = absurd (cc)
has-take_more (z ∷ zs) zero x y e (inl p) = inr (cc)
has-take_more (z ∷ zs) zero x y e (inr h) = absurd h
has-take_more (z ∷ zs) (suc i) x y e (inl p) = inl (inl p)
has-take_more (z ∷ zs) (suc i) x y e (inr h) = elim (has-take_more zs i x y e h) [ inl l ↦ inl (inr l) | inr r ↦ inr r ]

has-taken : {X : Type 0} (n : ℕ) (xs : List X) (x : X) → Has (take n xs) x → Has xs x
has-taken zero xs x h = absurd h
has-taken (suc n) [] x h = absurd h
has-taken (suc n) (y ∷ ys) x (inl e) = inl e
has-taken (suc n) (y ∷ ys) x (inr h) = inr (has-taken n ys x h)

slice_get-drop : {X : Type 0} (n : ℕ) (xs : List X) (i : ℕ) → slice_get (drop n xs) i ≡ slice_get xs (n + i)
slice_get-drop zero xs i = let same : i ≡ 0 + i = omega arith in ap (slice_get xs) same
slice_get-drop (suc n) [] i = refl
slice_get-drop (suc n) (y ∷ ys) i = let same : suc (n + i) ≡ suc n + i = omega arith in slice_get-drop n ys i ∙ ap (slice_get (y ∷ ys)) same

-- those that pass a test, and the first behind them
module _ {X : Type 0} (p : X → Bool) where
  passes : (xs : List X) (x : X) → Has (take (length (take_while p xs)) xs) x → p x ≡ true
  passes [] x h = absurd h
  passes (y ∷ ys) x h = by (p y) refl (passes ys x) (subst (λ zs. Has (take (length zs) (y ∷ ys)) x) (take_while-cons p y ys) h)
    where
      by : (b : Bool) → p y ≡ b → (Has (take (length (take_while p ys)) ys) x → p x ≡ true) → Has (take (length (cond b (y ∷ take_while p ys) [])) (y ∷ ys)) x → p x ≡ true
      by true t rest (inl e) = ap p (sym e) ∙ t
      by true t rest (inr i) = rest i
      by false t rest i = absurd i

  ends : (xs : List X) (x : X) → slice_get xs (length (take_while p xs)) ≡ Some x → p x ≡ false
  ends [] x e = absurd (cc)
  ends (y ∷ ys) x e = by (p y) refl (ends ys x) (subst (λ zs. slice_get (y ∷ ys) (length zs) ≡ Some x) (take_while-cons p y ys) e)
    where
      by : (b : Bool) → p y ≡ b → (slice_get ys (length (take_while p ys)) ≡ Some x → p x ≡ false) → slice_get (y ∷ ys) (length (cond b (y ∷ take_while p ys) [])) ≡ Some x → p x ≡ false
      by true t rest f = rest f
      by false t rest f = let same : y ≡ x = cc in ap p (sym same) ∙ t

-- ---- one hash in a list that rises

below_is : (c : Ordering) → is_lt c ≡ true → c ≡ Less
below_is Less t = refl
below_is Equal t = absurd (cc)
below_is Greater t = absurd (cc)

not_below : (c : Ordering) → is_lt c ≡ false → c ≢ Less
not_below Less t e = absurd (cc)
not_below Equal t e = absurd (cc)
not_below Greater t e = absurd (cc)

above_is : (c : Ordering) → is_eq c ≡ false → c ≢ Less → c ≡ Greater
above_is Less t n = absurd (n refl)
above_is Equal t n = absurd (cc)
above_is Greater t n = refl

pub tie_is : (c : Ordering) → is_eq c ≡ true → c ≡ Equal
tie_is Less t = absurd (cc)
tie_is Equal t = refl
tie_is Greater t = absurd (cc)

-- the hashes of a list that rises don't fall
not_falling : (e f : StoredHash) → stored_cmp e f ≡ Less → (hash_cmp e.hash f.hash ≡ Less) ⊎ (e.hash ≡ f.hash)
not_falling e f l = by (hash_cmp e.hash f.hash) refl l
  where
    by : (c : Ordering) → hash_cmp e.hash f.hash ≡ c → ordering_then c (ordering_then (hash_cmp e.other f.other) (nat_cmp e.place f.place)) ≡ Less → (hash_cmp e.hash f.hash ≡ Less) ⊎ (e.hash ≡ f.hash)
    by Less t r = inl t
    by Equal t r = inr (hash_cmp_exact e.hash f.hash t)
    by Greater t r = absurd (cc)

module _ (h : Hash) where
  not_itself : (e : StoredHash) (c : Ordering) → hash_cmp e.hash h ≡ c → c ≢ Equal → e.hash ≢ h
  not_itself e c t n s = n (sym t ∙ ap (λ g. hash_cmp g h) s ∙ itself)
    where
      itself : hash_cmp h h ≡ Equal
      itself = by (hash_cmp h h) refl
        where
          by : (d : Ordering) → hash_cmp h h ≡ d → hash_cmp h h ≡ Equal
          by Less u = absurd (not_less_itself hash_cmp_total h u)
          by Equal u = u
          by Greater u = absurd (not_less_itself hash_cmp_total h (reversed hash_cmp_total h h u))

  stays_not_below : (e f : StoredHash) → stored_cmp e f ≡ Less → hash_cmp e.hash h ≢ Less → hash_cmp f.hash h ≢ Less
  stays_not_below e f l n r =
      elim (not_falling e f l) [
        | inl t ↦ n (hash_cmp_total.trans e.hash f.hash h t r)
        | inr s ↦ n (ap (λ g. hash_cmp g h) s ∙ r)
      ]

  stays_above : (e f : StoredHash) → stored_cmp e f ≡ Less → hash_cmp e.hash h ≡ Greater → hash_cmp f.hash h ≡ Greater
  stays_above e f l r =
      elim (not_falling e f l) [
        | inl t ↦ hash_cmp_total.antisymm f.hash h ∙ ap ordering_reverse (hash_cmp_total.trans h e.hash f.hash (reversed hash_cmp_total e.hash h r) t)
        | inr s ↦ ap (λ g. hash_cmp g h) (sym s) ∙ r
      ]

  not_below_from : (list : List StoredHash) (start index : ℕ) → IsStrictlySortedBy stored_cmp list → start ≤ index
      → ((e : StoredHash) → slice_get list start ≡ Some e → hash_cmp e.hash h ≢ Less)
      → (e : StoredHash) → slice_get list index ≡ Some e → hash_cmp e.hash h ≢ Less
  unfolding IsStrictlySortedBy
  not_below_from [] start index up le first e at = absurd (cc)
  not_below_from (f ∷ fs) zero zero up le first e at = first e at
  not_below_from (f ∷ fs) zero (suc index) up le first e at =
      stays_not_below f e (all-has (λ g. stored_cmp f g ≡ Less) fs e up.0 (has-slice_get fs index e at)) (first f refl)
  not_below_from (f ∷ fs) (suc start) zero up le first e at = absurd (omega arith)
  not_below_from (f ∷ fs) (suc start) (suc index) up le first e at = not_below_from fs start index up.1 (omega arith) first e at

  -- behind one that is above the hash, none has it
  in_front : (list : List StoredHash) (index : ℕ) → IsStrictlySortedBy stored_cmp list
      → ((e : StoredHash) → slice_get list index ≡ Some e → hash_cmp e.hash h ≡ Greater)
      → (f : StoredHash) → Has list f → f.hash ≡ h → Has (take index list) f
  unfolding IsStrictlySortedBy
  in_front [] index up above f i s = absurd i
  in_front (g ∷ gs) zero up above f (inl e) s =
      absurd (not_itself g Greater (above g refl) (λ t. cc) (ap (λ (k : StoredHash). k.hash) e ∙ s))
  in_front (g ∷ gs) zero up above f (inr i) s =
      absurd (not_itself f Greater (stays_above g f (all-has (λ k. stored_cmp g k ≡ Less) gs f up.0 i) (above g refl)) (λ t. cc) s)
  in_front (g ∷ gs) (suc index) up above f (inl e) s = inl e
  in_front (g ∷ gs) (suc index) up above f (inr i) s = inr (in_front gs index up.1 above f i s)

  -- ---- what stands at an index has it

  this_is : (list : List StoredHash) (index : ℕ) (o : Option StoredHash) → slice_get list index ≡ o → has_this o h ≡ true → (e : StoredHash) × (slice_get list index ≡ Some e) × (e.hash ≡ h)
  this_is list index None at t = absurd (cc)
  this_is list index (Some e) at t = (e, at, hash_cmp_exact e.hash h (tie_is (hash_cmp e.hash h) t))

  pub there : (list : List StoredHash) (index : ℕ) → has_hash_at list index h ≡ true → (e : StoredHash) × (slice_get list index ≡ Some e) × (e.hash ≡ h)
  there list index t = this_is list index (slice_get list index) refl t

  pub there_within : (list : List StoredHash) (index : ℕ) → has_hash_at list index h ≡ true → index < length list
  there_within list index t = let w = there list index t in slice_get_within list index w.0 w.1

  above_there : (list : List StoredHash) (start index : ℕ) → IsStrictlySortedBy stored_cmp list → start ≤ index
      → ((e : StoredHash) → slice_get list start ≡ Some e → hash_cmp e.hash h ≢ Less)
      → has_hash_at list index h ≡ false
      → (e : StoredHash) → slice_get list index ≡ Some e → hash_cmp e.hash h ≡ Greater
  above_there list start index up le first t e at =
      above_is (hash_cmp e.hash h) (sym (ap (λ o. has_this o h) at) ∙ t) (not_below_from list start index up le first e at)

  -- ---- the first that was stored, of those up to an index

  pub bearer_starts : (list : List StoredHash) (start : ℕ) → ((e : StoredHash) → Contains (take start list) e → hash_cmp e.hash h ≡ Less) → IsBearerAt (take start list) h None
  bearer_starts list start below e i = not_itself e Less (below e i) (λ t. cc)

  module _ (list : List StoredHash) (index : ℕ) (e : StoredHash) (at : slice_get list index ≡ Some e) (is : e.hash ≡ h) where
    latest : {P : StoredHash → Type 0} → ((f : StoredHash) → Contains (take index list) f → f.hash ≡ h → P f) → P e → (f : StoredHash) → Contains (take (suc index) list) f → f.hash ≡ h → P f
    latest {P} before here f i s =
        elim (has-take_more list index e f at (has_from_contains (take (suc index) list) f i)) [
          | inl l ↦ before f (contains_from_has (take index list) f l) s
          | inr r ↦ subst P r here
        ]

    earlier : (o : Option ℕ) → is_earlier (Some e) (option_and_then (slice_get list) o) ≡ true → IsBearerAt (take index list) h o → IsBearerAt (take (suc index) list) h (Some index)
    earlier None t none = (e, slice_get-take_last list index e at, is, latest {P = λ f. e.place ≤ f.place} (λ f i s. absurd (none f i s)) (omega arith))
    earlier (Some k) t b =
        let stands : slice_get list k ≡ Some b.0 = slice_get-take index list k b.0 b.1 in
        let less : e.place < b.0.place = ltb-true e.place b.0.place (sym (ap (is_earlier (Some e)) stands) ∙ t) in
        (e, slice_get-take_last list index e at, is, latest {P = λ f. e.place ≤ f.place} (λ f i s. omega (arith, b.3 f i s)) (omega arith))

    kept : (o : Option ℕ) → is_earlier (Some e) (option_and_then (slice_get list) o) ≡ false → IsBearerAt (take index list) h o → IsBearerAt (take (suc index) list) h o
    kept None t none = absurd (cc)
    kept (Some k) t b =
        let stands : slice_get list k ≡ Some b.0 = slice_get-take index list k b.0 b.1 in
        let less : b.0.place ≤ e.place = ltb-false e.place b.0.place (sym (ap (is_earlier (Some e)) stands) ∙ t) in
        (b.0, slice_get-take_more index list k b.0 b.1, b.2, latest {P = λ f. b.0.place ≤ f.place} b.3 less)

  pub bearer_earlier : (list : List StoredHash) (index : ℕ) (o : Option ℕ) → has_hash_at list index h ≡ true
      → is_earlier (slice_get list index) (option_and_then (slice_get list) o) ≡ true → IsBearerAt (take index list) h o → IsBearerAt (take (suc index) list) h (Some index)
  bearer_earlier list index o t u b =
      let w = there list index t in
      earlier list index w.0 w.1 w.2 o (sym (ap (λ p. is_earlier p (option_and_then (slice_get list) o)) w.1) ∙ u) b

  pub bearer_kept : (list : List StoredHash) (index : ℕ) (o : Option ℕ) → has_hash_at list index h ≡ true
      → is_earlier (slice_get list index) (option_and_then (slice_get list) o) ≡ false → IsBearerAt (take index list) h o → IsBearerAt (take (suc index) list) h o
  bearer_kept list index o t u b =
      let w = there list index t in
      kept list index w.0 w.1 w.2 o (sym (ap (λ p. is_earlier p (option_and_then (slice_get list) o)) w.1) ∙ u) b

  -- behind them none has it
  pub bearer_all : (list : List StoredHash) (start index : ℕ) (o : Option ℕ) → IsStrictlySortedBy stored_cmp list → start ≤ index
      → ((e : StoredHash) → slice_get list start ≡ Some e → hash_cmp e.hash h ≢ Less)
      → has_hash_at list index h ≡ false
      → IsBearerAt (take index list) h o → IsBearerAt list h o
  bearer_all list start index None up le first t none = λ e i s.
      none e (contains_from_has (take index list) e (in_front list index up (above_there list start index up le first t) e (has_from_contains list e i) s)) s
  bearer_all list start index (Some k) up le first t b = (
    b.0,
    slice_get-take index list k b.0 b.1,
    b.2,
    λ f i s.
        b.3 f (contains_from_has (take index list) f (in_front list index up (above_there list start index up le first t) f (has_from_contains list f i) s)) s,
  )

  -- ---- where the search goes on

  below_start : (list : List StoredHash) (start : ℕ) (found : Option ℕ) (last : Option Hash) → FoundLast list start found last → IsNotBelow h last
      → (e : StoredHash) → Contains (take start list) e → hash_cmp e.hash h ≡ Less
  below_start list start found None at n e i = absurd (has_from_contains [] e (subst (λ k. Contains (take k list) e) at i))
  below_start list start found (Some g) f n e i =
      elim n [
        | inl l ↦ hash_cmp_total.trans e.hash g h (f.0 e i) l
        | inr r ↦ ap (hash_cmp e.hash) (sym r) ∙ f.0 e i
      ]

  module _ (list : List StoredHash) (start count : ℕ) (is : count ≡ length (take_while (λ (e : StoredHash). is_lt (hash_cmp e.hash h)) (drop start list))) where
    below_end : ((e : StoredHash) → Contains (take start list) e → hash_cmp e.hash h ≡ Less)
        → (e : StoredHash) → Contains (take (start + count) list) e → hash_cmp e.hash h ≡ Less
    below_end below e i =
        elim (has-append_cases (take start list) (take count (drop start list)) e (subst (λ es. Has es e) (take-add start count list) (has_from_contains (take (start + count) list) e i))) [
          | inl l ↦ below e (contains_from_has (take start list) e l)
          | inr r ↦ below_is (hash_cmp e.hash h) (passes (λ (f : StoredHash). is_lt (hash_cmp f.hash h)) (drop start list) e (subst (λ n. Has (take n (drop start list)) e) is r))
        ]

    not_below_end : (e : StoredHash) → slice_get list (start + count) ≡ Some e → hash_cmp e.hash h ≢ Less
    not_below_end e at =
        not_below (hash_cmp e.hash h)
        (ends (λ (f : StoredHash). is_lt (hash_cmp f.hash h)) (drop start list) e
        (subst (λ n. slice_get (drop start list) n ≡ Some e) is (slice_get-drop start list count ∙ at)))

  -- all before the new start are below the hash, and what stands there isn't
  pub goes_on : (list rest : List StoredHash) (start count : ℕ) (found : Option ℕ) (last : Option Hash)
      → rest ≡ drop start list → count ≡ length (take_while (λ (e : StoredHash). is_lt (hash_cmp e.hash h)) rest)
      → FoundLast list start found last → IsNotBelow h last
      → ((e : StoredHash) → Contains (take (start + count) list) e → hash_cmp e.hash h ≡ Less) × ((e : StoredHash) → slice_get list (start + count) ≡ Some e → hash_cmp e.hash h ≢ Less)
  goes_on list rest start count found last from is f n =
      let counted = is ∙ ap (λ es. length (take_while (λ (e : StoredHash). is_lt (hash_cmp e.hash h)) es)) from in
      (below_end list start count counted (below_start list start found last f n), not_below_end list start count counted)

-- ---- the hashes that are wanted

-- those so far are hashes of the list with their numbers, and each hash so far is among them
abbrev pub WantedSoFar : List (Option Hash) → List KeyedHash → ℕ → Type 0
WantedSoFar hs ws n = ((w : KeyedHash) → Has ws w → slice_get hs w.key ≡ Some (Some w.hash)) × ((i : ℕ) (h : Hash) → slice_get hs i ≡ Some (Some h) → i < n → Has ws (record { hash = h; key = i }))

module _ (hs : List (Option Hash)) (ws : List KeyedHash) (n : ℕ) (so_far : WantedSoFar hs ws n) where
  module _ (within : n < length hs) where
    pub wanted_one : (h : Hash) → get_or hs n None ≡ Some h → WantedSoFar hs (ws ++ record { hash = h; key = n } ∷ []) (n + 1)
    wanted_one h is = (sound, complete)
      where
        one : KeyedHash
        one = record { hash = h; key = n }

        here : slice_get hs n ≡ Some (Some h)
        here = slice_get-get_or hs n None within ∙ ap Some is

        sound : (w : KeyedHash) → Has (ws ++ record { hash = h; key = n } ∷ []) w → slice_get hs w.key ≡ Some (Some w.hash)
        sound w i =
            elim (has-append_cases ws (record { hash = h; key = n } ∷ []) w i) [
              | inl l ↦ so_far.0 w l
              | inr (inl e) ↦ subst (λ (v : KeyedHash). slice_get hs v.key ≡ Some (Some v.hash)) e here
              | inr (inr none) ↦ absurd none
            ]

        complete : (i : ℕ) (g : Hash) → slice_get hs i ≡ Some (Some g) → i < n + 1 → Has (ws ++ record { hash = h; key = n } ∷ []) (record { hash = g; key = i })
        complete i g at less =
            elim (cases_eq i n) [
              | inl e ↦ (let there : slice_get hs n ≡ Some (Some h) = here in let same : h ≡ g = cc in has-append_right ws (record { hash = h; key = n } ∷ []) (record { hash = g; key = i }) (inl (λ j. record { hash = same j; key = sym e j })))
              | inr apart ↦ has-append_left ws (record { hash = h; key = n } ∷ []) (record { hash = g; key = i }) (so_far.1 i g at (omega (arith, apart)))
            ]

    pub wanted_none : get_or hs n None ≡ None → WantedSoFar hs ws (n + 1)
    wanted_none is = (so_far.0, complete)
      where
        here : slice_get hs n ≡ Some None
        here = slice_get-get_or hs n None within ∙ ap Some is

        complete : (i : ℕ) (g : Hash) → slice_get hs i ≡ Some (Some g) → i < n + 1 → Has ws (record { hash = g; key = i })
        complete i g at less =
            elim (cases_eq i n) [
              | inl e ↦ (let there : slice_get hs n ≡ Some None = here in absurd (cc))
              | inr apart ↦ so_far.1 i g at (omega (arith, apart))
            ]

  pub wanted_all : length hs ≤ n → (vs : List KeyedHash) → IsStrictlySortedBy keyed_cmp vs
      → ((w : KeyedHash) → Contains ws w → Contains vs w)
      → ((w : KeyedHash) → Contains vs w → Contains ws w)
      → Wanted vs hs
  wanted_all all vs up keeps adds_none = record {
    rises = up;
    sound = λ w i. so_far.0 w (has_from_contains ws w (adds_none w i));
    complete = λ i h at.
        let one : KeyedHash = record { hash = h; key = i } in
        (one, keeps one (contains_from_has ws one (so_far.1 i h at (omega (arith, slice_get_within hs i (Some h) at)))), refl, refl);
  }

-- ---- where the bearers of all of them stand

slice_get-set : {X : Type 0} (xs : List X) (i : ℕ) (v : X) (j : ℕ) (x : X) → slice_get (slice_set xs i v) j ≡ Some x → ((j ≡ i) × (v ≡ x)) ⊎ ((j ≢ i) × (slice_get xs j ≡ Some x))
slice_get-set [] i v j x e = absurd (cc)
slice_get-set (y ∷ ys) zero v zero x e = inl (refl, (cc))
slice_get-set (y ∷ ys) zero v (suc j) x e = inr ((λ s. absurd (omega arith)), e)
slice_get-set (y ∷ ys) (suc i) v zero x e = inr ((λ s. absurd (omega arith)), e)
slice_get-set (y ∷ ys) (suc i) v (suc j) x e =
    elim (slice_get-set ys i v j x e) [
      | inl l ↦ inl (ap suc l.0, l.1)
      | inr r ↦ inr ((λ s. r.0 (omega (arith, s))), r.1)
    ]

has-drop : {X : Type 0} (xs : List X) (i : ℕ) (x : X) → slice_get xs i ≡ Some x → Has (drop i xs) x
has-drop [] i x e = absurd (cc)
has-drop (y ∷ ys) zero x e = inl (cc)
has-drop (y ∷ ys) (suc i) x e = has-drop ys i x e

behind_is : (ws : List KeyedHash) (n : ℕ) (w v : KeyedHash) → IsStrictlySortedBy keyed_cmp ws → slice_get ws n ≡ Some w → Has (drop (suc n) ws) v → keyed_cmp w v ≡ Less
unfolding IsStrictlySortedBy
behind_is [] n w v up at i = absurd (cc)
behind_is (u ∷ us) zero w v up at i = let same : u ≡ w = cc in subst (λ k. keyed_cmp k v ≡ Less) same (all-has (λ k. keyed_cmp u k ≡ Less) us v up.0 i)
behind_is (u ∷ us) (suc n) w v up at i = behind_is us n w v up.1 at i

wanted_not_below : (w v : KeyedHash) (c : Ordering) → hash_cmp w.hash v.hash ≡ c → ordering_then c (nat_cmp w.key v.key) ≡ Less → IsNotBelow v.hash (Some w.hash)
wanted_not_below w v Less t l = inl t
wanted_not_below w v Equal t l = inr (hash_cmp_exact w.hash v.hash t)
wanted_not_below w v Greater t l = absurd (cc)

-- the bearers of the first of them stand there, and what isn't announced has none
abbrev pub BearingsSoFar : List StoredHash → List (Option Hash) → List KeyedHash → ℕ → List (Option ℕ) → Type 0
BearingsSoFar list hs ws n found = ((w : KeyedHash) (at : Option ℕ) → Has (take n ws) w → slice_get found w.key ≡ Some at → IsBearerAt list w.hash at) × ((i : ℕ) (at : Option ℕ) → slice_get hs i ≡ Some None → slice_get found i ≡ Some at → at ≡ None)

-- none of the others is below the hash that was asked for last
abbrev pub NoneIsBelow : List KeyedHash → ℕ → Option Hash → Type 0
NoneIsBelow ws n last = (w : KeyedHash) → Has (drop n ws) w → IsNotBelow w.hash last

module _ (hs : List (Option Hash)) (ws : List KeyedHash) (is : Wanted ws hs) where
  pub none_is_below : (last : Option Hash) → last ≡ None → NoneIsBelow ws 0 last
  none_is_below last e w i = subst (IsNotBelow w.hash) (sym e) refl

  module _ (n : ℕ) (w : KeyedHash) (at : slice_get ws n ≡ Some w) where
    pub next_not_below : (last : Option Hash) → NoneIsBelow ws n last → IsNotBelow w.hash last
    next_not_below last rest = rest w (has-drop ws n w at)

    pub rest_not_below : NoneIsBelow ws (suc n) (Some w.hash)
    rest_not_below v i = wanted_not_below w v (hash_cmp w.hash v.hash) refl (behind_is ws n w v is.rises at i)

    its_hash : slice_get hs w.key ≡ Some (Some w.hash)
    its_hash = is.sound w (contains_from_has ws w (has-slice_get ws n w at))

    -- another element with its number is that one
    same_hash : (v : KeyedHash) → Has (take (suc n) ws) v → v.key ≡ w.key → v.hash ≡ w.hash
    same_hash v i e =
        let b : slice_get hs v.key ≡ Some (Some v.hash) = elim (has-take_more ws n w v at i) [ inl l ↦ is.sound v (contains_from_has ws v (has-taken n ws v l)) | inr r ↦ subst (λ (k : KeyedHash). slice_get hs k.key ≡ Some (Some k.hash)) r its_hash ] in
        let c = its_hash in
        cc

    module _ (list : List StoredHash) (found next : List (Option ℕ)) (bearer : Option ℕ) (b : IsBearerAt list w.hash bearer)
        (told : (j : ℕ) (o : Option ℕ) → slice_get next j ≡ Some o → ((j ≡ w.key) × (bearer ≡ o)) ⊎ ((j ≢ w.key) × (slice_get found j ≡ Some o)))
        (so_far : BearingsSoFar list hs ws n found) where
      bearings_more : BearingsSoFar list hs ws (suc n) next
      bearings_more = (bears, bears_none)
        where
          bears : (v : KeyedHash) (o : Option ℕ) → Has (take (suc n) ws) v → slice_get next v.key ≡ Some o → IsBearerAt list v.hash o
          bears v o i e =
              elim (told v.key o e) [
                | inl l ↦ subst (IsBearerAt list v.hash) l.1 (subst (λ h. IsBearerAt list h bearer) (sym (same_hash v i l.0)) b)
                | inr r ↦ (elim (has-take_more ws n w v at i) [
                  | inl before ↦ so_far.0 v o before r.1
                  | inr same ↦ absurd (r.0 (ap (λ (k : KeyedHash). k.key) (sym same)))
                ])
              ]

          bears_none : (i : ℕ) (o : Option ℕ) → slice_get hs i ≡ Some None → slice_get next i ≡ Some o → o ≡ None
          bears_none i o none e =
              elim (told i o e) [
                | inl l ↦ (let here : slice_get hs i ≡ Some (Some w.hash) = ap (slice_get hs) l.0 ∙ its_hash in absurd (cc))
                | inr r ↦ so_far.1 i o none r.1
              ]

    pub bearings_set : (list : List StoredHash) (found : List (Option ℕ)) (bearer : Option ℕ) → IsBearerAt list w.hash bearer → BearingsSoFar list hs ws n found → BearingsSoFar list hs ws (suc n) (slice_set found w.key bearer)
    bearings_set list found bearer b so_far = bearings_more list found (slice_set found w.key bearer) bearer b (slice_get-set found w.key bearer) so_far

    pub bearings_past : (list : List StoredHash) (found : List (Option ℕ)) (bearer : Option ℕ) → length found ≤ w.key → IsBearerAt list w.hash bearer → BearingsSoFar list hs ws n found → BearingsSoFar list hs ws (suc n) found
    bearings_past list found bearer past b so_far = bearings_more list found found bearer b (λ j o e. inr ((λ s. absurd (omega (arith, s, slice_get_within found j o e))), e)) so_far

  pub bearings_start : (list : List StoredHash) (found : List (Option ℕ)) → ((i : ℕ) (o : Option ℕ) → slice_get found i ≡ Some o → o ≡ None) → BearingsSoFar list hs ws 0 found
  bearings_start list found none = ((λ w o i e. absurd i), λ i o at e. none i o e)

  pub bearings_end : (list : List StoredHash) (n : ℕ) (found : List (Option ℕ)) → length ws ≤ n → BearingsSoFar list hs ws n found
      → (i : ℕ) (o : Option Hash) (at : Option ℕ) → slice_get hs i ≡ Some o → slice_get found i ≡ Some at → IsFoundFor list o at
  bearings_end list n found all so_far i None at e f = so_far.1 i at e f
  bearings_end list n found all so_far i (Some h) at e f =
      let w = is.complete i h e in
      subst (λ g. IsBearerAt list g at) w.3
      (so_far.0 w.0 at (subst (λ vs. Has vs w.0) (sym (take_all n ws all)) (has_from_contains ws w.0 w.1)) (ap (slice_get found) w.2 ∙ f))
