-- The runs that a walk over rising values meets are the missing ones.
use Rattle.std.proofs.Common.{◌≡◌, ◌⊎◌, inl, inr, ℕ, ◌+◌, ◌-◌, ◌<◌, ◌≤◌, Bool, true, false, cond, List, [], ◌∷◌, ◌++◌, map, filter, flat_map, fold, refl, sym, ap, ◌∙◌, subst, arith}
use Rattle.std.specs.Prelude.{max, nat_lt, if◌then◌else◌}
use Rattle.std.specs.declared.cmp.Ordering.TheVariants.{Less}
use Rattle.std.specs.Ordering.{nat_cmp}
use Rattle.std.specs.List.{AllPairs}
use Rattle.std.specs.List.Sorted.{IsStrictlySortedBy}
use Rattle.std.proofs.lemmas.Bool.{lt-ltb, le-ltb, ltb-true, ltb-false, cases_Bool}
use Rattle.std.proofs.lemmas.List.{append-nil}
use Rattle.std.proofs.lemmas.List.Elements.{All-from_recursion}
use Rattle.std.proofs.lemmas.List.Kept.{AllPairs-cons}
use Rattle.ss_review.specs.declared.counted.missing.MissingRun.{MissingRun}
use Rattle.ss_review.specs.counted.Counted.{run_between, missing}
use Rattle.ss_review.specs.counted.CountedLaws.{AreMissing}
use Rattle.ss_octets.proofs.Members.{Has, has-append_left, has-append_right, has_from_contains, contains_from_has, from_has-filter, has-append_cases, all-has}
use Rattle.ss_review.proofs.of_lists.Keyed.{from_less}
use Rattle.ss_review.proofs.of_lists.Rising.{all_below}
use Rattle.ss_review.proofs.of_lists.Sections.{keeps_none}
use Rattle.ss_review.proofs.of_reports.EntriesTold.{flat_map_agree}

-- ---- the runs that a walk meets from the first value on that isn't told yet

abbrev pub missing_after : ℕ → ℕ → List ℕ → List MissingRun
missing_after next first [] = run_between first next
missing_after next first (g ∷ gs) = if nat_lt g next then run_between first g ++ missing_after next (g + 1) gs else run_between first next

-- the values rise, from the first on
pub record RiseFrom (first : ℕ) (gs : List ℕ) : Type 0 where
  pub rise : IsStrictlySortedBy nat_cmp gs
  pub least : (g : ℕ) → Has gs g → first ≤ g

later : (first g : ℕ) (gs : List ℕ) → RiseFrom first (g ∷ gs) → (n : ℕ) → Has gs n → g < n
unfolding IsStrictlySortedBy
later first g gs up n h = from_less g n (all-has (λ m. nat_cmp g m ≡ Less) gs n up.rise.0 h)

behind : (first g : ℕ) (gs : List ℕ) → RiseFrom first (g ∷ gs) → RiseFrom (g + 1) gs
unfolding IsStrictlySortedBy
behind first g gs up = record {
  rise = up.rise.1;
  least = λ n h. (let l = later first g gs up n h in omega (arith, l));
}

-- ---- they are the missing ones

abbrev past : ℕ → List ℕ → ℕ → ℕ
past first gs end = fold max first (map (λ g. g + 1) (filter (λ g. nat_lt g end) gs))

abbrev told : ℕ → List ℕ → ℕ → List MissingRun
told first gs end = run_between (past first gs end) end

past_none : (first end : ℕ) (gs : List ℕ) → ((g : ℕ) → Has gs g → end ≤ g) → past first gs end ≡ first
past_none first end gs above =
    ap (λ below. fold max first (map (λ (g : ℕ). g + 1) below))
    (keeps_none (λ g. nat_lt g end) gs (all_below (λ g. nat_lt g end ≡ false) gs (λ g h. le-ltb g end (above g h))))

past_later : (first g : ℕ) (gs : List ℕ) (end : ℕ) → first ≤ g → g < end → past first (g ∷ gs) end ≡ past (g + 1) gs end
past_later first g gs end least less =
    let below = filter (λ m. nat_lt m end) gs in
    ap (λ b. fold max first (map (λ (m : ℕ). m + 1) (cond b (g ∷ below) below))) (lt-ltb g end less)
    ∙ ap (λ f. fold max f (map (λ (m : ℕ). m + 1) below)) (let most : max first (g + 1) ≡ g + 1 = omega arith in most)

module _ (next : ℕ) where
  abbrev ends : List ℕ → List ℕ
  ends gs = filter (λ g. nat_lt g next) gs ++ next ∷ []

  ends_above : (first g : ℕ) (gs : List ℕ) → RiseFrom first (g ∷ gs) → g < next → (end : ℕ) → Has (ends gs) end → g < end
  ends_above first g gs up less end h =
      elim (has-append_cases (filter (λ m. nat_lt m next) gs) (next ∷ []) end h) [
        | inl l ↦ later first g gs up end (from_has-filter (λ m. nat_lt m next) gs end l).0
        | inr (inl e) ↦ subst (λ n. g < n) e less
        | inr (inr r) ↦ absurd r
      ]

  told_more : (b : Bool) (first g : ℕ) (gs : List ℕ) → RiseFrom first (g ∷ gs) → nat_lt g next ≡ b
      → missing_after next (g + 1) gs ≡ flat_map (told (g + 1) gs) (ends gs)
      → (if b then run_between first g ++ missing_after next (g + 1) gs else run_between first next) ≡ flat_map (told first (g ∷ gs)) (cond b (g ∷ filter (λ m. nat_lt m next) gs) (filter (λ m. nat_lt m next) gs) ++ next ∷ [])
  told_more true first g gs up t rest =
      let here : past first (g ∷ gs) g ≡ first = past_none first g (g ∷ gs) (λ n h. elim h [ inl e ↦ omega (arith, e) | inr i ↦ (let l = later first g gs up n i in omega (arith, l)) ]) in
      let others : flat_map (told (g + 1) gs) (ends gs) ≡ flat_map (told first (g ∷ gs)) (ends gs)
      = flat_map_agree (told (g + 1) gs) (told first (g ∷ gs)) (ends gs) (λ end h.
      ap (λ f. run_between f end) (sym (past_later first g gs end (up.least g (inl refl)) (ends_above first g gs up (ltb-true g next t) end h)))) in
      λ i. run_between (sym here i) g ++ (rest ∙ others) i
  told_more false first g gs up f rest =
      let far : (n : ℕ) → Has (g ∷ gs) n → next ≤ n = λ n h. elim h [ inl e ↦ (let l = ltb-false g next f in omega (arith, e, l)) | inr i ↦ (let l = later first g gs up n i in let m = ltb-false g next f in omega (arith, l, m)) ] in
      let none : filter (λ m. nat_lt m next) gs ≡ [] = keeps_none (λ m. nat_lt m next) gs (all_below (λ m. nat_lt m next ≡ false) gs (λ m h. le-ltb m next (far m (inr h)))) in
      ap (λ first. run_between first next) (sym (past_none first next (g ∷ gs) far))
      ∙ sym (append-nil (told first (g ∷ gs) next))
      ∙ ap (λ es. flat_map (told first (g ∷ gs)) (es ++ next ∷ [])) (sym none)

  told_along : (first : ℕ) (gs : List ℕ) → RiseFrom first gs → missing_after next first gs ≡ flat_map (told first gs) (ends gs)
  told_along first [] up = sym (append-nil (run_between first next))
  told_along first (g ∷ gs) up = told_more (nat_lt g next) first g gs up refl (told_along (g + 1) gs (behind first g gs up))

  pub missing_is : (gs : List ℕ) → IsStrictlySortedBy nat_cmp gs → missing_after next 0 gs ≡ missing gs next
  unfolding missing
  missing_is gs up = told_along 0 gs (record { rise = up; least = λ g h. omega arith })

-- ---- what the runs are

run_is : (b : Bool) (first end : ℕ) (r : MissingRun) → nat_lt first end ≡ b → Has (if b then record { first = first; last = end - 1 } ∷ [] else []) r → (first < end) × (r.first ≡ first) × (r.last ≡ end - 1)
run_is true first end r t (inl e) = (ltb-true first end t, ap (λ (q : MissingRun). q.first) (sym e), ap (λ (q : MissingRun). q.last) (sym e))
run_is true first end r t (inr h) = absurd h
run_is false first end r t h = absurd h

run_here : (first end : ℕ) → first < end → Has (run_between first end) (record { first = first; last = end - 1 })
run_here first end less =
    let run : MissingRun = record { first = first; last = end - 1 } in
    subst (λ (b : Bool). Has (if b then run ∷ [] else []) run) (sym (lt-ltb first end less)) (inl refl)

abbrev IsWithin : List MissingRun → ℕ → Type 0
IsWithin runs n = (r : MissingRun) × Has runs r × (r.first ≤ n) × (n ≤ r.last)

within_run : (first end n : ℕ) → first ≤ n → n < end → IsWithin (run_between first end) n
within_run first end n low high = (record { first = first; last = end - 1 }, run_here first end (omega (arith, low, high)), low, omega (arith, high))

within_left : (rs qs : List MissingRun) (n : ℕ) → IsWithin rs n → IsWithin (rs ++ qs) n
within_left rs qs n w = (w.0, has-append_left rs qs w.0 w.1, w.2, w.3)

within_right : (rs qs : List MissingRun) (n : ℕ) → IsWithin qs n → IsWithin (rs ++ qs) n
within_right rs qs n w = (w.0, has-append_right rs qs w.0 w.1, w.2, w.3)

-- a run of values that aren't among these, from the first on and below a bound
record IsRun (next first : ℕ) (gs : List ℕ) (r : MissingRun) : Type 0 where
  from : first ≤ r.first
  some : r.first ≤ r.last
  below : r.last < next
  free : (g : ℕ) → Has gs g → r.first ≤ g → g ≤ r.last → ⊥

module _ (next : ℕ) where
  each_more : (b : Bool) (first g : ℕ) (gs : List ℕ) (r : MissingRun) → RiseFrom first (g ∷ gs) → nat_lt g next ≡ b
      → (Has (missing_after next (g + 1) gs) r → IsRun next (g + 1) gs r)
      → Has (if b then run_between first g ++ missing_after next (g + 1) gs else run_between first next) r → IsRun next first (g ∷ gs) r
  each_more true first g gs r up t rest h =
      elim (has-append_cases (run_between first g) (missing_after next (g + 1) gs) r h) [
        | inl l ↦ (
            let w = run_is (nat_lt first g) first g r refl l in
            let less = ltb-true g next t in
            record {
              from = omega (arith, w);
              some = omega (arith, w);
              below = omega (arith, w, less);
              free = λ n i low high. elim i [ inl e ↦ omega (arith, e, w, high) | inr j ↦ (let m = later first g gs up n j in omega (arith, m, w, high)) ];
            })
        | inr i ↦ (
            let k = rest i in
            let least = up.least g (inl refl) in
            record {
              from = omega (arith, least, k.from);
              some = k.some;
              below = k.below;
              free = λ n j low high. elim j [ inl e ↦ (let f = k.from in omega (arith, e, f, low)) | inr m ↦ k.free n m low high ];
            })
      ]
  each_more false first g gs r up f rest h =
      let w = run_is (nat_lt first next) first next r refl h in
      let more = ltb-false g next f in
      record {
        from = omega (arith, w);
        some = omega (arith, w);
        below = omega (arith, w);
        free = λ n i low high. elim i [ inl e ↦ omega (arith, e, w, more, high) | inr j ↦ (let m = later first g gs up n j in omega (arith, m, w, more, high)) ];
      }

  each : (first : ℕ) (gs : List ℕ) (r : MissingRun) → RiseFrom first gs → Has (missing_after next first gs) r → IsRun next first gs r
  each first [] r up h =
      let w = run_is (nat_lt first next) first next r refl h in
      record { from = omega (arith, w); some = omega (arith, w); below = omega (arith, w); free = λ n i low high. absurd i }
  each first (g ∷ gs) r up h = each_more (nat_lt g next) first g gs r up refl (each (g + 1) gs r (behind first g gs up)) h

  -- ---- no value is left out

  all_more : (b : Bool) (first g : ℕ) (gs : List ℕ) (n : ℕ) → nat_lt g next ≡ b → first ≤ n → n < next
      → (g + 1 ≤ n → Has gs n ⊎ IsWithin (missing_after next (g + 1) gs) n)
      → Has (g ∷ gs) n ⊎ IsWithin (if b then run_between first g ++ missing_after next (g + 1) gs else run_between first next) n
  all_more true first g gs n t low high rest =
      let runs = run_between first g in
      let others = missing_after next (g + 1) gs in
      elim (cases_Bool (nat_lt n g)) [
        | inl below ↦ inr (within_left runs others n (within_run first g n low (ltb-true n g below)))
        | inr above ↦ (elim (cases_Bool (nat_lt g n)) [
          | inl more ↦ (let l = ltb-true g n more in elim (rest (omega (arith, l))) [ inl h ↦ inl (inr h) | inr w ↦ inr (within_right runs others n w) ])
          | inr same ↦ (let l = ltb-false n g above in let m = ltb-false g n same in let e : g ≡ n = omega (arith, l, m) in inl (inl e))
        ])
      ]
  all_more false first g gs n f low high rest = inr (within_run first next n low high)

  all : (first : ℕ) (gs : List ℕ) (n : ℕ) → first ≤ n → n < next → Has gs n ⊎ IsWithin (missing_after next first gs) n
  all first [] n low high = inr (within_run first next n low high)
  all first (g ∷ gs) n low high = all_more (nat_lt g next) first g gs n refl low high (λ l. all (g + 1) gs n l high)

  -- ---- they don't touch

  abbrev IsApart : List MissingRun → Type 0
  IsApart runs = AllPairs (λ r q. r.last + 1 < q.first) runs

  none_apart : IsApart []
  none_apart i j d less below = absurd (omega (arith, below))

  run_apart : (b : Bool) (first end : ℕ) (runs : List MissingRun) → nat_lt first end ≡ b → ((q : MissingRun) → Has runs q → end < q.first) → IsApart runs → IsApart ((if b then record { first = first; last = end - 1 } ∷ [] else []) ++ runs)
  run_apart true first end runs t above apart =
      let run : MissingRun = record { first = first; last = end - 1 } in
      let less = ltb-true first end t in
      AllPairs-cons (λ (r q : MissingRun). r.last + 1 < q.first) run runs
      (All-from_recursion (λ (q : MissingRun). end - 1 + 1 < q.first) runs (all_below (λ (q : MissingRun). end - 1 + 1 < q.first) runs (λ q h. (let a = above q h in omega (arith, less, a)))))
      apart
  run_apart false first end runs t above apart = apart

  last_apart : (first : ℕ) → IsApart (run_between first next)
  last_apart first = subst IsApart (append-nil (run_between first next)) (run_apart (nat_lt first next) first next [] refl (λ q h. absurd h) none_apart)

  apart_more : (b : Bool) (first g : ℕ) (gs : List ℕ) → RiseFrom first (g ∷ gs) → IsApart (missing_after next (g + 1) gs) → IsApart (if b then run_between first g ++ missing_after next (g + 1) gs else run_between first next)
  apart_more true first g gs up rest =
      run_apart (nat_lt first g) first g (missing_after next (g + 1) gs) refl (λ q h. (let k = each (g + 1) gs q (behind first g gs up) h in omega (arith, k.from))) rest
  apart_more false first g gs up rest = last_apart first

  apart : (first : ℕ) (gs : List ℕ) → RiseFrom first gs → IsApart (missing_after next first gs)
  apart first [] up = last_apart first
  apart first (g ∷ gs) up = apart_more (nat_lt g next) first g gs up (apart (g + 1) gs (behind first g gs up))

-- ---- the runs of values that rise

pub are_missing : (is_there : ℕ → Type 0) (gs : List ℕ) (next : ℕ) → IsStrictlySortedBy nat_cmp gs → ((n : ℕ) → is_there n → Has gs n) → ((n : ℕ) → Has gs n → is_there n) → AreMissing is_there next (missing gs next)
are_missing is_there gs next rise has there =
    let up : RiseFrom 0 gs = record { rise = rise; least = λ g h. omega arith } in
    let runs = missing_after next 0 gs in
    subst (AreMissing is_there next) (missing_is next gs rise) (record {
      there_or_missing = λ n below. elim (all next 0 gs n (omega arith) below) [ inl h ↦ inl (there n h) | inr w ↦ inr (w.0, contains_from_has runs w.0 w.1, w.2, w.3) ];
      never_both = λ n here w. (let k = each next 0 gs w.0 up (has_from_contains runs w.0 w.1) in k.free n (has n here) w.2 w.3);
      within = λ n w. (let k = each next 0 gs w.0 up (has_from_contains runs w.0 w.1) in omega (arith, k.below, w.3));
      some_value = All-from_recursion (λ (r : MissingRun). r.first ≤ r.last) runs (all_below (λ (r : MissingRun). r.first ≤ r.last) runs (λ r h. (each next 0 gs r up h).some));
      apart = apart next 0 gs up;
    })
