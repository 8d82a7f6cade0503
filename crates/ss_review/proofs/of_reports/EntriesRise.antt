-- The sessions of a report, the groups of each and the entries of each group rise.
use Rattle.std.proofs.Common.{◌≡◌, inl, inr, ℕ, ◌+◌, ◌-◌, ◌<◌, ◌≤◌, Bool, true, false, List, [], ◌∷◌, ◌++◌, map, filter, flat_map, fold, refl, sym, ap, ◌∙◌, subst, arith}
use Rattle.std.specs.Prelude.{All, max, not, nat_lt, if◌then◌else◌}
use Rattle.std.specs.declared.cmp.Ordering.TheVariants.{Less, Equal}
use Rattle.std.specs.Ordering.{nat_cmp, ordering_then}
use Rattle.std.specs.List.{AllByRecursion}
use Rattle.std.specs.List.Sorted.{IsStrictlySortedBy}
use Rattle.std.proofs.lemmas.Bool.{lt-ltb, ltb-true}
use Rattle.std.proofs.lemmas.Cmp.{tied_itself}
use Rattle.std.proofs.lemmas.List.Elements.{All-from_recursion}
use Rattle.std.proofs.lemmas.List.Kept.{IsStrictlySortedBy-filter}
use Rattle.std.proofs.Math.Nat.{le-max_left, le-max_right}
use Rattle.ss_block.specs.declared.block.Group.{Group}
use Rattle.ss_block.specs.declared.session.Session.{Session}
use Rattle.ss_review.specs.declared.report.entry.Entry.{Entry}
use Rattle.ss_review.specs.declared.report.entry.Entry.TheVariants as entry
use Rattle.ss_review.specs.declared.report.group_report.GroupReport.{GroupReport}
use Rattle.ss_review.specs.declared.report.session_report.SessionReport.{SessionReport}
use Rattle.ss_review.specs.declared.keep.message.NormalMessage.{NormalMessage}
use Rattle.ss_review.specs.keep.BlockMessage.{BlockMessage}
use Rattle.ss_block.specs.Order.{session_cmp, group_cmp}
use Rattle.ss_review.specs.keep.Notes.{Note}
use Rattle.ss_review.specs.keep.Contents.{normals, blocks, contents}
use Rattle.ss_review.specs.sessions.Sessions.{same_session, sessions}
use Rattle.ss_review.specs.sessions.Verified.{Answers, is_verified}
use Rattle.ss_review.specs.announced.Announced.{Key, Row, key_cmp, keys, rows}
use Rattle.ss_review.specs.assign.Assigned.{is_taken}
use Rattle.ss_review.specs.report.Entries.{same_group, keys_in, group_keys, entry_of, greatest_below, entries}
use Rattle.ss_review.specs.report.Report.{groups, group_report, session_report, report_of}
use Rattle.ss_review.specs.report.Meaning.{first_number, IsInOrder}
use Rattle.ss_review.proofs.of_numbers.Announcements.{keys-rise}
use Rattle.ss_review.proofs.of_lists.Keyed.{less, from_less, keys_rise-filter}
use Rattle.ss_review.proofs.of_reports.Listings.{given_cases, entry_number}
use Rattle.ss_octets.proofs.Members.{Has, has-map, from_has-map, has-filter, has-append_cases, from_has-flat_map, all-has}
use Rattle.ss_review.proofs.of_kept_messages.PlacesRise.{normals_rise, blocks_rise, spoilts_rise}
use Rattle.ss_review.proofs.of_lists.Rising.{all_below, rises-in_order}
use Rattle.ss_review.proofs.of_reports.Telling.{given, from_has-group_keys}
use Rattle.ss_block.specs.OrderLaws.{session_cmp_total, session_cmp_exact, group_cmp_total, group_cmp_exact}

-- ---- maps and joins

pub map_back : {X Y : Type 0} (f : X → Y) (g : Y → X) (xs : List X) → ((x : X) → g (f x) ≡ x) → map g (map f xs) ≡ xs
map_back f g [] e = refl
map_back f g (x ∷ xs) e =
    let head : g (f x) ≡ x = e x in
    let rest : map g (map f xs) ≡ xs = map_back f g xs e in
    λ i. head i ∷ rest i

pub all_map : {X Y : Type 0} (P : Y → Type 0) (f : X → Y) (xs : List X) → ((x : X) → P (f x)) → All P (map f xs)
all_map P f xs a = All-from_recursion P (map f xs) (all_below P (map f xs) (λ y h. (let w = from_has-map f xs y h in subst P w.2 (a w.0))))

rises-append : {X : Type 0} (key : X → ℕ) (xs ys : List X) → IsStrictlySortedBy nat_cmp (map key xs) → IsStrictlySortedBy nat_cmp (map key ys) → ((x y : X) → Has xs x → Has ys y → key x < key y) → IsStrictlySortedBy nat_cmp (map key (xs ++ ys))
unfolding IsStrictlySortedBy
rises-append key [] ys up vp l = vp
rises-append key (x ∷ xs) ys up vp l = (
  all_below (λ n. nat_cmp (key x) n ≡ Less) (map key (xs ++ ys)) (λ n h.
      (let w = from_has-map key (xs ++ ys) n h in
      subst (λ m. nat_cmp (key x) m ≡ Less) w.2
      (elim (has-append_cases xs ys w.0 w.1) [
        | inl i ↦ all-has (λ m. nat_cmp (key x) m ≡ Less) (map key xs) (key w.0) up.0 (has-map key xs w.0 i)
        | inr i ↦ less (key x) (key w.0) (l x w.0 (inl refl) i)
      ]))),
  rises-append key xs ys up.1 vp (λ y z h i. l y z (inr h) i),
)

-- ---- the greatest number below another

pub fold_max-from : (a : ℕ) (xs : List ℕ) → a ≤ fold max a xs
fold_max-from a [] = omega arith
fold_max-from a (x ∷ xs) = omega (arith, fold_max-from (max a x) xs, le-max_left a x)

pub fold_max-member : (a : ℕ) (xs : List ℕ) (x : ℕ) → Has xs x → x ≤ fold max a xs
fold_max-member a [] x h = absurd h
fold_max-member a (y ∷ ys) x (inl e) = omega (arith, e, fold_max-from (max a y) ys, le-max_right a y)
fold_max-member a (y ∷ ys) x (inr h) = fold_max-member (max a y) ys x h

pub not_above_greatest : (ks : List Key) (j : Key) (n : ℕ) → Has ks j → j.number < n → j.number ≤ greatest_below ks n
not_above_greatest ks j n h l =
    fold_max-member 0 (filter (λ m. nat_lt m n) (map (λ (k : Key). k.number) ks)) j.number
    (has-filter (λ m. nat_lt m n) (map (λ (k : Key). k.number) ks) j.number (has-map (λ (k : Key). k.number) ks j h) (lt-ltb j.number n l))

-- ---- the entries of a group

own_first : (e : Entry) (rs : List Row) (ms : List NormalMessage) (k : Key) → entry_of ms rs k ≡ e → first_number e ≡ k.number
own_first (entry.Listed n place) rs ms k i = entry_number ms rs k (entry.Listed n place) i
own_first (entry.Gap n why) rs ms k i = entry_number ms rs k (entry.Gap n why) i
own_first (entry.Hole first last) rs ms k i = entry_number ms rs k (entry.Hole first last) i

module _ (ms : List NormalMessage) (rs : List Row) (ks : List Key) where
  -- what a key gives isn't above its number, and is above each smaller one
  first_within : (k : Key) (e : Entry) → Has (given ms rs ks k) e → (first_number e ≤ k.number) × ((j : Key) → Has ks j → j.number < k.number → j.number < first_number e)
  first_within k e h =
      elim (given_cases ms rs ks k e h) [
        | inl l ↦ (let room = ltb-true (greatest_below ks k.number + 1) k.number l.0 in
            let at : greatest_below ks k.number + 1 ≡ first_number e = ap first_number l.1 in
            (omega (arith, room, at), λ j i b. omega (arith, at, not_above_greatest ks j k.number i b)))
        | inr i ↦ (let at = own_first e rs ms k i in (omega (arith, at), λ j i b. omega (arith, at, b)))
      ]

  hole_rises : (b : Bool) (first last : ℕ) (k : Key) → nat_lt first k.number ≡ b → IsStrictlySortedBy nat_cmp (map first_number ((if b then entry.Hole first last ∷ [] else []) ++ entry_of ms rs k ∷ []))
  unfolding IsStrictlySortedBy
  hole_rises true first last k e =
      let at = own_first (entry_of ms rs k) rs ms k refl in
      ((less first (first_number (entry_of ms rs k)) (omega (arith, at, ltb-true first k.number e)), tt), (tt, tt))
  hole_rises false first last k e = (tt, tt)

  given_rises : (k : Key) → IsStrictlySortedBy nat_cmp (map first_number (given ms rs ks k))
  given_rises k = hole_rises (nat_lt (greatest_below ks k.number + 1) k.number) (greatest_below ks k.number + 1) (k.number - 1) k refl

  along : (xs : List Key) → ((k : Key) → Has xs k → Has ks k) → IsStrictlySortedBy nat_cmp (map (λ (k : Key). k.number) xs) → IsStrictlySortedBy nat_cmp (map first_number (flat_map (given ms rs ks) xs))
  unfolding IsStrictlySortedBy
  along [] within up = tt
  along (k ∷ xs) within up =
      rises-append first_number (given ms rs ks k) (flat_map (given ms rs ks) xs) (given_rises k) (along xs (λ j h. within j (inr h)) up.1)
      (λ x y h i.
      (let w = from_has-flat_map (given ms rs ks) xs y i in
      let below : k.number < w.0.number = from_less k.number w.0.number (all-has (λ n. nat_cmp k.number n ≡ Less) (map (λ (j : Key). j.number) xs) w.0.number up.0 (has-map (λ (j : Key). j.number) xs w.0 w.1)) in
      omega (arith, (first_within k x h).0, (first_within w.0 y w.2).1 k (within k (inl refl)) below)))

  pub entries_rise : IsStrictlySortedBy nat_cmp (map (λ (k : Key). k.number) ks) → IsStrictlySortedBy nat_cmp (map first_number (entries ms rs ks))
  unfolding entries
  entries_rise up = along ks (λ k h. h) up

-- ---- the numbers of a group

number_below : (a b : Key) → key_cmp a b ≡ Less → a.session ≡ b.session → a.group ≡ b.group → nat_cmp a.number b.number ≡ Less
number_below a b e s g =
    let tie : session_cmp a.session b.session ≡ Equal = ap (λ t. session_cmp t b.session) s ∙ tied_itself session_cmp_total b.session in
    let same : group_cmp a.group b.group ≡ Equal = ap (λ t. group_cmp t b.group) g ∙ tied_itself group_cmp_total b.group in
    sym (λ i. ordering_then (tie i) (ordering_then (same i) (nat_cmp a.number b.number))) ∙ e

numbers_at : (s : Session) (g : Group) (xs : List Key) → IsStrictlySortedBy key_cmp xs → AllByRecursion (λ k. (k.session ≡ s) × (k.group ≡ g)) xs → IsStrictlySortedBy nat_cmp (map (λ (k : Key). k.number) xs)
unfolding IsStrictlySortedBy
numbers_at s g [] up a = tt
numbers_at s g (k ∷ xs) up a = (
  all_below (λ n. nat_cmp k.number n ≡ Less) (map (λ (j : Key). j.number) xs) (λ n h.
      (let w = from_has-map (λ (j : Key). j.number) xs n h in
      let of_group = all-has (λ (j : Key). (j.session ≡ s) × (j.group ≡ g)) xs w.0 a.1 w.1 in
      subst (λ m. nat_cmp k.number m ≡ Less) w.2 (number_below k w.0 (all-has (λ j. key_cmp k j ≡ Less) xs w.0 up.0 w.1) (a.0.0 ∙ sym of_group.0) (a.0.1 ∙ sym of_group.1)))),
  numbers_at s g xs up.1 a.1,
)

pub numbers_rise : (rs : List Row) (s : Session) (g : Group) → IsStrictlySortedBy nat_cmp (map (λ (k : Key). k.number) (group_keys rs s g))
unfolding group_keys
numbers_rise rs s g =
    numbers_at s g (group_keys rs s g)
    (IsStrictlySortedBy-filter key_cmp (λ (k : Key). same_group k.group g) (keys_in rs s) (IsStrictlySortedBy-filter key_cmp (λ (k : Key). same_session k.session s) (keys rs) (keys-rise rs)))
    (all_below (λ (k : Key). (k.session ≡ s) × (k.group ≡ g)) (group_keys rs s g) (λ k h. (let w = from_has-group_keys rs s g k h in (w.1, w.2))))

-- ---- the whole report

pub in_order_report : (says : Answers) (ns : List Note) → IsInOrder (report_of says (contents ns))
unfolding report_of
in_order_report says ns =
    let log = contents ns in
    let rs = rows says (blocks ns) in
    record {
      sessions = subst (IsStrictlySortedBy session_cmp) (sym (map_back (session_report says log rs) (λ (s : SessionReport). s.session) (sessions (blocks ns)) (λ s. refl))) (rises-in_order session_cmp_total session_cmp_exact (map (λ (b : BlockMessage). b.session) (blocks ns)));
      groups = all_map (λ (s : SessionReport). IsStrictlySortedBy group_cmp (map (λ (g : GroupReport). g.group) s.groups)) (session_report says log rs) (sessions (blocks ns)) (λ s.
          subst (IsStrictlySortedBy group_cmp) (sym (map_back (group_report (normals ns) rs s) (λ (g : GroupReport). g.group) (groups rs s) (λ g. refl))) (rises-in_order group_cmp_total group_cmp_exact (map (λ (k : Key). k.group) (keys_in rs s))));
      entries = all_map (λ (s : SessionReport). All (λ (g : GroupReport). IsStrictlySortedBy nat_cmp (map first_number g.entries)) s.groups) (session_report says log rs) (sessions (blocks ns)) (λ s.
          all_map (λ (g : GroupReport). IsStrictlySortedBy nat_cmp (map first_number g.entries)) (group_report (normals ns) rs s) (groups rs s) (λ g. entries_rise (normals ns) rs (group_keys rs s g) (numbers_rise rs s g)));
      unlisted = keys_rise-filter (λ (m : NormalMessage). m.place) nat_cmp (λ (m : NormalMessage). not (is_taken (normals ns) rs m.place)) (normals ns) (normals_rise ns);
      refused = keys_rise-filter (λ (b : BlockMessage). b.place) nat_cmp (λ (b : BlockMessage). not (is_verified says (blocks ns) b)) (blocks ns) (blocks_rise ns);
      spoilt = spoilts_rise ns;
    }
