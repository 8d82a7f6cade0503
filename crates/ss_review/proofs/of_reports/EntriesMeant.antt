-- An entry is told of a group exactly where it belongs there.
use Rattle.std.proofs.Common.{◌≡◌, ◌⊎◌, inl, inr, ℕ, ◌+◌, ◌-◌, ◌<◌, ◌≤◌, Bool, true, false, List, [], ◌∷◌, map, filter, fold, refl, sym, ap, ◌∙◌, subst, arith}
use Rattle.std.specs.Prelude.{Option, Some, None, max, nat_lt, if◌then◌else◌}
use Rattle.std.proofs.lemmas.Bool.{lt-ltb, ltb-true, ltb-false, cases_Bool}
use Rattle.ss_block.specs.declared.block.Group.{Group}
use Rattle.ss_block.specs.declared.session.Session.{Session}
use Rattle.ss_review.specs.declared.report.entry.Why.{Why}
use Rattle.ss_review.specs.declared.report.entry.Why.TheVariants as whys
use Rattle.ss_review.specs.declared.report.entry.Entry.{Entry}
use Rattle.ss_review.specs.declared.report.entry.Entry.TheVariants as entry
use Rattle.ss_review.specs.keep.Contents.{Contents}
use Rattle.ss_review.specs.sessions.Verified.{Answers}
use Rattle.ss_review.specs.announced.Announced.{Key, Row, rows, is_disputed_key}
use Rattle.ss_review.specs.assign.Assigned.{assigned}
use Rattle.ss_review.specs.report.Entries.{group_keys, entry_with, entry_of, greatest_below, hole_between}
use Rattle.ss_review.specs.report.Report.{report_of}
use Rattle.ss_review.specs.announced.Announcing.{IsAnnounced}
use Rattle.ss_review.specs.report.Meaning.{IsHole, Tells, IsEntry}
use Rattle.ss_review.proofs.of_numbers.Announcements.{announced_key, has-announced_key, disputed_key, has-disputed_key}
use Rattle.ss_review.proofs.of_reports.EntriesRise.{not_above_greatest}
use Rattle.ss_review.proofs.of_reports.Listings.{given_cases, key_of, listed_assigned, assigned_listed, gap_told, tells_gap}
use Rattle.ss_octets.proofs.Members.{Has, has-append_left, from_has-map, from_has-filter}
use Rattle.ss_review.proofs.of_reports.Telling.{from_has-group_keys, has-group_keys, told_by, tells}

-- ---- the greatest number below another

larger : (a b : ℕ) → (max a b ≡ a) ⊎ (max a b ≡ b)
larger a b =
    elim (cases_Bool (nat_lt a b)) [
      | inl t ↦ (let less : a < b = ltb-true a b t in inr (omega (arith, less)))
      | inr f ↦ (let more : b ≤ a = ltb-false a b f in inl (omega (arith, more)))
    ]

pub greatest_of : (a : ℕ) (xs : List ℕ) → (fold max a xs ≡ a) ⊎ Has xs (fold max a xs)
greatest_of a [] = inl refl
greatest_of a (x ∷ xs) =
    elim (greatest_of (max a x) xs) [
      | inl e ↦ (elim (larger a x) [ inl f ↦ inl (e ∙ f) | inr f ↦ inr (inl (sym f ∙ sym e)) ])
      | inr h ↦ inr (inr h)
    ]

-- it is 0, or that of a key, and smaller
greatest_cases : (ks : List Key) (n : ℕ) → (greatest_below ks n ≡ 0) ⊎ ((k : Key) × Has ks k × (k.number ≡ greatest_below ks n) × (k.number < n))
greatest_cases ks n =
    elim (greatest_of 0 (filter (λ m. nat_lt m n) (map (λ (k : Key). k.number) ks))) [
      | inl e ↦ inl e
      | inr h ↦ (
          let f = from_has-filter (λ m. nat_lt m n) (map (λ (k : Key). k.number) ks) (greatest_below ks n) h in
          let w = from_has-map (λ (k : Key). k.number) ks (greatest_below ks n) f.0 in
          inr (w.0, w.1, w.2, omega (arith, ltb-true (greatest_below ks n) n f.1, w.2)))
    ]

-- ---- the parts of what a key gives

abbrev why_of : Bool → Why
why_of b = if b then whys.Disputed else whys.Lost

why_disputed : (b : Bool) → why_of b ≡ whys.Disputed → b ≡ true
why_disputed true e = refl
why_disputed false e = absurd (cc)

why_is : (b : Bool) (why : Why) → (b ≡ true → why ≡ whys.Disputed) → (why ≡ whys.Disputed → b ≡ true) → why_of b ≡ why
why_is true why f g = sym (f refl)
why_is false whys.Lost f g = refl
why_is false whys.Disputed f g = absurd (let bad : false ≡ true = g refl in cc)

no_hole : (rs : List Row) (k : Key) (o : Option ℕ) (first last : ℕ) → entry_with rs k o ≡ entry.Hole first last → ⊥
no_hole rs k None first last e = cc
no_hole rs k (Some place) first last e = cc

hole_here : (b : Bool) (first last : ℕ) (e : Entry) → b ≡ true → entry.Hole first last ≡ e → Has (if b then entry.Hole first last ∷ [] else []) e
hole_here true first last e t i = inl i
hole_here false first last e t i = absurd (cc)

module _ (says : Answers) (log : Contents) (s : Session) (g : Group) where
  abbrev all_rows : List Row
  all_rows = rows says log.blocks

  abbrev group_of : List Key
  group_of = group_keys all_rows s g

  abbrev numbered : ℕ → Key
  numbered n = record { session = s; group = g; number = n }

  abbrev IsNumber : ℕ → Type 0
  IsNumber n = IsAnnounced says log.blocks (numbered n)

  has-number : (n : ℕ) → IsNumber n → Has group_of (numbered n)
  has-number n a = has-group_keys all_rows (numbered n) (has-announced_key says log.blocks (numbered n) a)

  is_number : (k : Key) (n : ℕ) → Has group_of k → n ≡ k.number → IsNumber n
  is_number k n h e =
      let w = from_has-group_keys all_rows s g k h in
      subst (λ (j : Key). IsAnnounced says log.blocks j) (key_of k s g n w.1 w.2 e) (announced_key says log.blocks k w.0)

  -- ---- holes

  hole_between_keys : (k : Key) (first last : ℕ) → Has group_of k → greatest_below group_of k.number + 1 < k.number → greatest_below group_of k.number + 1 ≡ first → k.number - 1 ≡ last → IsHole IsNumber first last
  hole_between_keys k first last h room from to = record {
    some_first = omega (arith, from);
    some_number = omega (arith, room, from, to);
    unannounced = λ n low high a. (
        let most : n ≤ greatest_below group_of k.number = not_above_greatest group_of (numbered n) k.number (has-number n a) (omega (arith, room, to, high)) in
        omega (arith, most, from, low)
        );
    behind = is_number k (last + 1) h (omega (arith, room, to));
    before = elim (greatest_cases group_of k.number) [
      | inl none ↦ inl (omega (arith, none, from))
      | inr w ↦ inr (is_number w.0 (first - 1) w.1 (omega (arith, from, w.2)))
    ];
  }

  hole_told : (first last : ℕ) → Tells (report_of says log) s g (entry.Hole first last) → IsHole IsNumber first last
  hole_told first last t =
      let w = told_by says log s g (entry.Hole first last) t in
      let k = w.0 in
      let mine : Has group_of k = subst (λ q. Has (group_keys all_rows s q) k) w.3 (subst (λ q. Has (group_keys all_rows q k.group) k) w.2 (has-group_keys all_rows k w.1)) in
      elim (given_cases log.normal all_rows group_of k (entry.Hole first last) w.4) [
        | inl l ↦ (
            let from : greatest_below group_of k.number + 1 ≡ first = cc (l.1) in
            let to : k.number - 1 ≡ last = cc (l.1) in
            hole_between_keys k first last mine (ltb-true (greatest_below group_of k.number + 1) k.number l.0) from to)
        | inr i ↦ absurd (no_hole all_rows k (assigned log.normal all_rows k) first last i)
      ]

  module _ (first last : ℕ) (hole : IsHole IsNumber first last) where
    abbrev below : ℕ
    below = greatest_below group_of (last + 1)

    below_first : below < first
    below_first =
        elim (greatest_cases group_of (last + 1)) [
          | inl none ↦ omega (arith, none, hole.some_first)
          | inr w ↦ (elim (cases_Bool (nat_lt below first)) [
            | inl t ↦ ltb-true below first t
            | inr f ↦ (
                let within : first ≤ below = ltb-false below first f in
                absurd (hole.unannounced below within (omega (arith, w.2, w.3)) (is_number w.0 below w.1 (sym w.2))))
          ])
        ]

    next_first : first ≤ below + 1
    next_first =
        elim hole.before [
          | inl one ↦ omega (arith, one)
          | inr a ↦ (
              let most : first - 1 ≤ below = not_above_greatest group_of (numbered (first - 1)) (last + 1) (has-number (first - 1) a) (omega (arith, hole.some_number, hole.some_first)) in
              omega (arith, most))
        ]

    hole_tells : Tells (report_of says log) s g (entry.Hole first last)
    hole_tells =
        let from : below + 1 ≡ first = omega (arith, below_first, next_first) in
        let to : last + 1 - 1 ≡ last = omega arith in
        let room : below + 1 < last + 1 = omega (arith, from, hole.some_number) in
        tells says log (numbered (last + 1)) (entry.Hole first last) (has-announced_key says log.blocks (numbered (last + 1)) hole.behind)
        (has-append_left (hole_between below (last + 1)) (entry_of log.normal all_rows (numbered (last + 1)) ∷ []) (entry.Hole first last)
        (hole_here (nat_lt (below + 1) (last + 1)) (below + 1) (last + 1 - 1) (entry.Hole first last) (lt-ltb (below + 1) (last + 1) room) (λ i. entry.Hole (from i) (to i))))

  -- ---- every entry

  pub entry_told : (e : Entry) → Tells (report_of says log) s g e → IsEntry says log s g e
  entry_told (entry.Listed n place) t = listed_assigned says log (numbered n) place t
  entry_told (entry.Gap n why) t =
      let w = gap_told says log (numbered n) why t in (
        announced_key says log.blocks (numbered n) w.0,
        w.1,
        (
          λ e. disputed_key says log.blocks (numbered n) (why_disputed (is_disputed_key all_rows (numbered n)) (w.2 ∙ e)),
          λ d. sym w.2 ∙ ap why_of (has-disputed_key says log.blocks (numbered n) d),
        ),
      )
  entry_told (entry.Hole first last) t = hole_told first last t

  pub entry_tells : (e : Entry) → IsEntry says log s g e → Tells (report_of says log) s g e
  entry_tells (entry.Listed n place) e = assigned_listed says log (numbered n) place e
  entry_tells (entry.Gap n why) e =
      let same : why_of (is_disputed_key all_rows (numbered n)) ≡ why
      = why_is (is_disputed_key all_rows (numbered n)) why (λ t. e.2.1 (disputed_key says log.blocks (numbered n) t)) (λ d. has-disputed_key says log.blocks (numbered n) (e.2.0 d)) in
      subst (λ y. Tells (report_of says log) s g (entry.Gap n y)) same (tells_gap says log (numbered n) (has-announced_key says log.blocks (numbered n) e.0) e.1)
  entry_tells (entry.Hole first last) e = hole_tells first last e
