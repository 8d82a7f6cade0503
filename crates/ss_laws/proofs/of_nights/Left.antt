-- What is left of a report and of what is missing: what lies below the first counters is left out, and nothing else.
use Rattle.std.proofs.Common.{◌≡◌, ◌⊎◌, inl, inr, ℕ, ◌≤◌, Bool, true, false, not, List, [], ◌∷◌, map, filter, refl, sym, ap, ◌∙◌, subst, arith}
use Rattle.std.specs.Prelude.{◌↔◌, ◌&&◌, max, nat_lt, if◌then◌else◌, Option, Some, None, Contains}
use Rattle.std.specs.List.{filter_map}
use Rattle.std.proofs.lemmas.Bool.{cases_Bool, le-ltb}
use Rattle.ss_block.specs.declared.block.Group.{Group}
use Rattle.ss_block.specs.declared.session.Session.{Session}
use Rattle.ss_review.specs.declared.counted.counter.Counter.{Counter}
use Rattle.ss_review.specs.declared.counted.missing.MissingRun.{MissingRun}
use Rattle.ss_review.specs.declared.counted.shortfall.GroupTail.{GroupTail}
use Rattle.ss_review.specs.declared.counted.shortfall.Shortfall.{Shortfall}
use Rattle.ss_review.specs.declared.counted.shortfall.LogShortfalls.{LogShortfalls}
use Rattle.ss_review.specs.declared.report.entry.Entry.{Entry}
use Rattle.ss_review.specs.declared.report.entry.Entry.TheVariants as entry
use Rattle.ss_review.specs.declared.report.entry.Why.{Why}
use Rattle.ss_review.specs.declared.report.group_report.GroupReport.{GroupReport}
use Rattle.ss_review.specs.declared.report.report.Report.{Report}
use Rattle.ss_review.specs.declared.report.session_report.SessionReport.{SessionReport}
use Rattle.ss_review.specs.announced.Announced.{Key}
use Rattle.ss_review.specs.report.Meaning.{Tells, IsListed, IsGap}
use Rattle.ss_review.specs.report.Verdict.{is_none}
use Rattle.ss_review.specs.counted.KeptLaws.{IsToldOf, IsInHole, IsInTail, IsInRunOf}
use Rattle.ss_between.specs.Between.{number_at, gbc_at, has_counter, entry_left, group_left, session_left, tail_left, run_left, own_tail_left, shortfall_left, is_idle, absent_left}
use Rattle.ss_octets.proofs.Members.{Has, has-map, has_from_contains, contains_from_has, from_has-map, has-filter, from_has-filter, has-filter_map, from_has-filter_map}

-- ---- one entry

abbrev left_if : Bool → (first last : ℕ) → Option Entry
left_if b first last = if b then None else Some (entry.Hole first last)

-- a hole is left of a hole alone, and then of the numbers that aren't below
pub record IsHoleLeft (n : ℕ) (e : Entry) (first last : ℕ) : Type 0 where
  pub whole : ℕ
  pub is : e ≡ entry.Hole whole last
  pub first_is : first ≡ max whole n

hole_at : (b : Bool) (n whole end first last : ℕ) → left_if b (max whole n) end ≡ Some (entry.Hole first last) → IsHoleLeft n (entry.Hole whole end) first last
hole_at true n whole end first last e = absurd (cc)
hole_at false n whole end first last e =
    let lasts : end ≡ last = cc in
    let firsts : max whole n ≡ first = cc in
    record { whole = whole; is = ap (entry.Hole whole) lasts; first_is = sym firsts }

pub hole_from : (n : ℕ) (e : Entry) (first last : ℕ) → entry_left n e ≡ Some (entry.Hole first last) → IsHoleLeft n e first last
unfolding entry_left
hole_from n (entry.Listed number place) first last e = absurd (cc)
hole_from n (entry.Gap number why) first last e = absurd (cc)
hole_from n (entry.Hole whole end) first last e = hole_at (nat_lt end n) n whole end first last e

pub hole_left : (n whole last : ℕ) → n ≤ last → entry_left n (entry.Hole whole last) ≡ Some (entry.Hole (max whole n) last)
unfolding entry_left
hole_left n whole last most = ap (λ b. left_if b (max whole n) last) (le-ltb last n most)

listed_left : (n number place : ℕ) → entry_left n (entry.Listed number place) ≡ Some (entry.Listed number place)
unfolding entry_left
listed_left n number place = refl

gap_left : (n number : ℕ) (why : Why) → entry_left n (entry.Gap number why) ≡ Some (entry.Gap number why)
unfolding entry_left
gap_left n number why = refl

no_listed : (b : Bool) (first last number place : ℕ) → left_if b first last ≡ Some (entry.Listed number place) → ⊥
no_listed true first last number place e = cc
no_listed false first last number place e = cc

no_gap : (b : Bool) (first last number : ℕ) (why : Why) → left_if b first last ≡ Some (entry.Gap number why) → ⊥
no_gap true first last number why e = cc
no_gap false first last number why e = cc

from_listed : (n : ℕ) (e : Entry) (number place : ℕ) → entry_left n e ≡ Some (entry.Listed number place) → e ≡ entry.Listed number place
unfolding entry_left
from_listed n (entry.Listed m p) number place e = cc
from_listed n (entry.Gap m why) number place e = absurd (cc)
from_listed n (entry.Hole whole end) number place e = absurd (no_listed (nat_lt end n) (max whole n) end number place e)

from_gap : (n : ℕ) (e : Entry) (number : ℕ) (why : Why) → entry_left n e ≡ Some (entry.Gap number why) → e ≡ entry.Gap number why
unfolding entry_left
from_gap n (entry.Listed m p) number why e = absurd (cc)
from_gap n (entry.Gap m w) number why e = cc
from_gap n (entry.Hole whole end) number why e = absurd (no_gap (nat_lt end n) (max whole n) end number why e)

-- ---- one tail and one run

pub record IsTailLeft (n : ℕ) (t u : GroupTail) : Type 0 where
  pub group_is : u.group ≡ t.group
  pub first_is : u.first ≡ max t.first n
  pub last_is : u.last ≡ t.last

abbrev cut_tail : ℕ → GroupTail → GroupTail
cut_tail n t = record { group = t.group; first = max t.first n; last = t.last }

tail_if : (b : Bool) (n : ℕ) (t u : GroupTail) → (if b then None else Some (cut_tail n t)) ≡ Some u → IsTailLeft n t u
tail_if true n t u e = absurd (cc)
tail_if false n t u e =
    let same : cut_tail n t ≡ u = cc in
    record { group_is = ap (λ (x : GroupTail). x.group) (sym same); first_is = ap (λ (x : GroupTail). x.first) (sym same); last_is = ap (λ (x : GroupTail). x.last) (sym same) }

pub tail_from : (n : ℕ) (t u : GroupTail) → tail_left n t ≡ Some u → IsTailLeft n t u
unfolding tail_left
tail_from n t u e = tail_if (nat_lt t.last n) n t u e

pub tail_stays : (n : ℕ) (t : GroupTail) → n ≤ t.last → tail_left n t ≡ Some (cut_tail n t)
unfolding tail_left
tail_stays n t most = ap (λ (b : Bool). if b then None else Some (cut_tail n t)) (le-ltb t.last n most)

pub record IsRunLeft (n : ℕ) (r q : MissingRun) : Type 0 where
  pub first_is : q.first ≡ max r.first n
  pub last_is : q.last ≡ r.last

abbrev cut_run : ℕ → MissingRun → MissingRun
cut_run n r = record { first = max r.first n; last = r.last }

run_if : (b : Bool) (n : ℕ) (r q : MissingRun) → (if b then None else Some (cut_run n r)) ≡ Some q → IsRunLeft n r q
run_if true n r q e = absurd (cc)
run_if false n r q e =
    let same : cut_run n r ≡ q = cc in
    record { first_is = ap (λ (x : MissingRun). x.first) (sym same); last_is = ap (λ (x : MissingRun). x.last) (sym same) }

pub run_from : (n : ℕ) (r q : MissingRun) → run_left n r ≡ Some q → IsRunLeft n r q
unfolding run_left
run_from n r q e = run_if (nat_lt r.last n) n r q e

pub run_stays : (n : ℕ) (r : MissingRun) → n ≤ r.last → run_left n r ≡ Some (cut_run n r)
unfolding run_left
run_stays n r most = ap (λ (b : Bool). if b then None else Some (cut_run n r)) (le-ltb r.last n most)

-- ---- a report

module _ (first : List Counter) (r : Report) where
  abbrev pub cut_report : Report
  cut_report = record r { sessions = map (session_left first) r.sessions }

  pub record IsLeftOf (s : Session) (g : Group) (left : Entry) : Type 0 where
    pub whole : Entry
    pub told : Tells r s g whole
    pub is : entry_left (number_at first s g) whole ≡ Some left

  pub to_left : (s : Session) (g : Group) (e left : Entry) → Tells r s g e → entry_left (number_at first s g) e ≡ Some left → Tells cut_report s g left
  to_left s g e left t is =
      let own = session_left first t.session in
      let its = group_left first t.session.session t.group in
      let here : entry_left (number_at first t.session.session t.group.group) e ≡ Some left
      = (λ i. entry_left (number_at first (t.session_is i) (t.group_is i)) e) ∙ is in
      record {
        session = own;
        session_told = contains_from_has cut_report.sessions own (has-map (session_left first) r.sessions t.session (has_from_contains r.sessions t.session t.session_told));
        session_is = t.session_is;
        group = its;
        group_told = contains_from_has own.groups its (has-map (group_left first t.session.session) t.session.groups t.group (has_from_contains t.session.groups t.group t.group_told));
        group_is = t.group_is;
        entry_told = contains_from_has its.entries left (has-filter_map (entry_left (number_at first t.session.session t.group.group)) t.group.entries e left (has_from_contains t.group.entries e t.entry_told) here);
      }

  pub from_left : (s : Session) (g : Group) (left : Entry) → Tells cut_report s g left → IsLeftOf s g left
  from_left s g left t =
      let w = from_has-map (session_left first) r.sessions t.session (has_from_contains cut_report.sessions t.session t.session_told) in
      let own = w.0 in
      let groups_told : Has (session_left first own).groups t.group
      = subst (λ (x : SessionReport). Has x.groups t.group) (sym w.2) (has_from_contains t.session.groups t.group t.group_told) in
      let v = from_has-map (group_left first own.session) own.groups t.group groups_told in
      let its = v.0 in
      let entry_told : Has (group_left first own.session its).entries left
      = subst (λ (x : GroupReport). Has x.entries left) (sym v.2) (has_from_contains t.group.entries left t.entry_told) in
      let u = from_has-filter_map (entry_left (number_at first own.session its.group)) its.entries left entry_told in
      let session_is : own.session ≡ s = ap (λ (x : SessionReport). x.session) w.2 ∙ t.session_is in
      let group_is : its.group ≡ g = ap (λ (x : GroupReport). x.group) v.2 ∙ t.group_is in
      record {
        whole = u.0;
        told = record {
          session = own;
          session_told = contains_from_has r.sessions own w.1;
          session_is = session_is;
          group = its;
          group_told = contains_from_has own.groups its v.1;
          group_is = group_is;
          entry_told = contains_from_has its.entries u.0 u.1;
        };
        is = sym (λ i. entry_left (number_at first (session_is i) (group_is i)) u.0) ∙ u.2;
      }

  pub listed_both : (k : Key) (place : ℕ) → IsListed cut_report k place ↔ IsListed r k place
  listed_both k place = (
    λ t.
        (let w = from_left k.session k.group (entry.Listed k.number place) t in
        subst (Tells r k.session k.group) (from_listed (number_at first k.session k.group) w.whole k.number place w.is) w.told),
    λ t. to_left k.session k.group (entry.Listed k.number place) (entry.Listed k.number place) t (listed_left (number_at first k.session k.group) k.number place),
  )

  pub gap_both : (k : Key) (why : Why) → IsGap cut_report k why ↔ IsGap r k why
  gap_both k why = (
    λ t.
        (let w = from_left k.session k.group (entry.Gap k.number why) t in
        subst (Tells r k.session k.group) (from_gap (number_at first k.session k.group) w.whole k.number why w.is) w.told),
    λ t. to_left k.session k.group (entry.Gap k.number why) (entry.Gap k.number why) t (gap_left (number_at first k.session k.group) k.number why),
  )

  module _ (k : Key) where
    abbrev from_number : ℕ
    from_number = number_at first k.session k.group

    hole_there : IsInHole cut_report k → IsInHole r k × (number_at first k.session k.group ≤ k.number)
    hole_there h =
        let w = from_left k.session k.group (entry.Hole h.first h.last) h.told in
        let is = hole_from from_number w.whole h.first h.last w.is in
        let cut = is.first_is in
        let from = h.from in (
          record { first = is.whole; last = h.last; told = subst (Tells r k.session k.group) is.is w.told; from = omega (arith, cut, from); to = h.to },
          omega (arith, cut, from),
        )

    hole_back : IsInHole r k × (number_at first k.session k.group ≤ k.number) → IsInHole cut_report k
    hole_back p =
        let h = p.0 in
        let from = h.from in
        let to = h.to in
        let low = p.1 in
        record {
          first = max h.first from_number;
          last = h.last;
          told = to_left k.session k.group (entry.Hole h.first h.last) (entry.Hole (max h.first from_number) h.last) h.told (hole_left from_number h.first h.last (omega (arith, low, to)));
          from = omega (arith, from, low);
          to = h.to;
        }

    pub hole_both : IsInHole cut_report k ↔ (IsInHole r k × (number_at first k.session k.group ≤ k.number))
    hole_both = (hole_there, hole_back)

-- ---- what is missing

some_there : {X : Type 0} (xs : List X) (x : X) → Has xs x → is_none xs ≡ false
some_there [] x h = absurd h
some_there (y ∷ ys) x h = refl

none_both : (a b : Bool) → a ≡ false → (a && b) ≡ false
none_both a b e = ap (λ c. c && b) e

none_second : (a b : Bool) → b ≡ false → (a && b) ≡ false
none_second true b e = e
none_second false b e = refl

pub none_is : {X : Type 0} (xs : List X) → is_none xs ≡ true → xs ≡ []
none_is [] e = refl
none_is (x ∷ xs) e = absurd (let bad : false ≡ true = e in cc)

module _ (first : List Counter) (all : LogShortfalls) where
  abbrev pub cut_all : LogShortfalls
  cut_all = record { known = map (shortfall_left first) all.known; absent = absent_left first all.absent }

  abbrev is_kept : Shortfall → Bool
  is_kept f = not (is_idle first f)

  -- what is missing of a session, and what is left of it
  pub record IsLeftOfAll (left : Shortfall) : Type 0 where
    pub whole : Shortfall
    pub told : IsToldOf all whole
    pub is : shortfall_left first whole ≡ left

  pub from_left_told : (left : Shortfall) → IsToldOf cut_all left → IsLeftOfAll left
  unfolding absent_left
  from_left_told left (inl c) =
      let w = from_has-map (shortfall_left first) all.known left (has_from_contains cut_all.known left c) in
      record { whole = w.0; told = inl (contains_from_has all.known w.0 w.1); is = w.2 }
  from_left_told left (inr c) =
      let f = from_has-filter is_kept (map (shortfall_left first) all.absent) left (has_from_contains (filter is_kept (map (shortfall_left first) all.absent)) left c) in
      let w = from_has-map (shortfall_left first) all.absent left f.0 in
      record { whole = w.0; told = inr (contains_from_has all.absent w.0 w.1); is = w.2 }

  pub absent_stays : (f : Shortfall) → Contains all.absent f → is_idle first (shortfall_left first f) ≡ false → Contains (absent_left first all.absent) (shortfall_left first f)
  unfolding absent_left
  absent_stays f c e =
      let left = shortfall_left first f in
      contains_from_has (filter is_kept (map (shortfall_left first) all.absent)) left
      (has-filter is_kept (map (shortfall_left first) all.absent) left (has-map (shortfall_left first) all.absent f (has_from_contains all.absent f c)) (ap not e))

  told_stays : (f : Shortfall) → IsToldOf all f → (is_none (shortfall_left first f).tails && is_none (shortfall_left first f).blocks) ≡ false → IsToldOf cut_all (shortfall_left first f)
  told_stays f (inl c) e = inl (contains_from_has cut_all.known (shortfall_left first f) (has-map (shortfall_left first) all.known f (has_from_contains all.known f c)))
  told_stays f (inr c) e = inr (absent_stays f c (none_second (has_counter first (shortfall_left first f).session) _ e))

  -- ---- tails

  pub session_stays : (f : Shortfall) → (shortfall_left first f).session ≡ f.session
  unfolding shortfall_left
  session_stays f = refl

  pub tails_are : (f : Shortfall) → (shortfall_left first f).tails ≡ filter_map (own_tail_left first f.session) f.tails
  unfolding shortfall_left
  tails_are f = refl

  pub blocks_are : (f : Shortfall) → (shortfall_left first f).blocks ≡ filter_map (run_left (gbc_at first f.session)) f.blocks
  unfolding shortfall_left
  blocks_are f = refl

  module _ (k : Key) where
    abbrev n : ℕ
    n = number_at first k.session k.group

    tail_there : IsInTail cut_all k → IsInTail all k × (number_at first k.session k.group ≤ k.number)
    tail_there t =
        let w = from_left_told t.shortfall t.told in
        let f = w.whole in
        let has_tail : Has (filter_map (own_tail_left first f.session) f.tails) t.tail
        = subst (λ ts. Has ts t.tail) (tails_are f) (subst (λ (x : Shortfall). Has x.tails t.tail) (sym w.is) (has_from_contains t.shortfall.tails t.tail t.tail_told)) in
        let u = from_has-filter_map (own_tail_left first f.session) f.tails t.tail has_tail in
        let session_is : f.session ≡ k.session = sym (session_stays f) ∙ ap (λ (x : Shortfall). x.session) w.is ∙ t.session_is in
        let is = tail_from (number_at first f.session u.0.group) u.0 t.tail u.2 in
        let group_is : u.0.group ≡ k.group = sym is.group_is ∙ t.group_is in
        let same : number_at first f.session u.0.group ≡ n = λ i. number_at first (session_is i) (group_is i) in
        let cut = is.first_is in
        let last = is.last_is in
        let from = t.from in
        let to = t.to in (
          record {
            shortfall = f;
            told = w.told;
            session_is = session_is;
            tail = u.0;
            tail_told = contains_from_has f.tails u.0 u.1;
            group_is = group_is;
            from = omega (arith, cut, from);
            to = omega (arith, last, to);
          },
          omega (arith, cut, from, same),
        )

    tail_back : IsInTail all k × (number_at first k.session k.group ≤ k.number) → IsInTail cut_all k
    tail_back p =
        let t = p.0 in
        let low = p.1 in
        let from = t.from in
        let to = t.to in
        let f = t.shortfall in
        let m = number_at first f.session t.tail.group in
        let same : m ≡ n = λ i. number_at first (t.session_is i) (t.group_is i) in
        let left : GroupTail = cut_tail m t.tail in
        let has_left : Has (filter_map (own_tail_left first f.session) f.tails) left
        = has-filter_map (own_tail_left first f.session) f.tails t.tail left (has_from_contains f.tails t.tail t.tail_told) (tail_stays m t.tail (omega (arith, same, low, to))) in
        let there : Has (shortfall_left first f).tails left = subst (λ ts. Has ts left) (sym (tails_are f)) has_left in
        record {
          shortfall = shortfall_left first f;
          told = told_stays f t.told (none_both _ _ (some_there (shortfall_left first f).tails left there));
          session_is = session_stays f ∙ t.session_is;
          tail = left;
          tail_told = contains_from_has (shortfall_left first f).tails left there;
          group_is = t.group_is;
          from = omega (arith, from, low, same);
          to = t.to;
        }

    pub tail_both : IsInTail cut_all k ↔ (IsInTail all k × (number_at first k.session k.group ≤ k.number))
    tail_both = (tail_there, tail_back)

  -- ---- runs of missing signature blocks

  module _ (s : Session) (gbc : ℕ) where
    run_there : IsInRunOf cut_all s gbc → IsInRunOf all s gbc × (gbc_at first s ≤ gbc)
    run_there t =
        let w = from_left_told t.shortfall t.told in
        let f = w.whole in
        let q = t.run.0 in
        let has_run : Has (filter_map (run_left (gbc_at first f.session)) f.blocks) q
        = subst (λ rs. Has rs q) (blocks_are f) (subst (λ (x : Shortfall). Has x.blocks q) (sym w.is) (has_from_contains t.shortfall.blocks q t.run.1)) in
        let u = from_has-filter_map (run_left (gbc_at first f.session)) f.blocks q has_run in
        let session_is : f.session ≡ s = sym (session_stays f) ∙ ap (λ (x : Shortfall). x.session) w.is ∙ t.session_is in
        let is = run_from (gbc_at first f.session) u.0 q u.2 in
        let same : gbc_at first f.session ≡ gbc_at first s = ap (gbc_at first) session_is in
        let cut = is.first_is in
        let last = is.last_is in
        let from = t.run.2 in
        let to = t.run.3 in (
          record {
            shortfall = f;
            told = w.told;
            session_is = session_is;
            run = (u.0, contains_from_has f.blocks u.0 u.1, omega (arith, cut, from), omega (arith, last, to));
          },
          omega (arith, cut, from, same),
        )

    run_back : IsInRunOf all s gbc × (gbc_at first s ≤ gbc) → IsInRunOf cut_all s gbc
    run_back p =
        let t = p.0 in
        let low = p.1 in
        let f = t.shortfall in
        let r = t.run.0 in
        let from = t.run.2 in
        let to = t.run.3 in
        let m = gbc_at first f.session in
        let same : m ≡ gbc_at first s = ap (gbc_at first) t.session_is in
        let left : MissingRun = cut_run m r in
        let has_left : Has (filter_map (run_left m) f.blocks) left
        = has-filter_map (run_left m) f.blocks r left (has_from_contains f.blocks r t.run.1) (run_stays m r (omega (arith, same, low, to))) in
        let there : Has (shortfall_left first f).blocks left = subst (λ rs. Has rs left) (sym (blocks_are f)) has_left in
        record {
          shortfall = shortfall_left first f;
          told = told_stays f t.told (none_second _ _ (some_there (shortfall_left first f).blocks left there));
          session_is = session_stays f ∙ t.session_is;
          run = (left, contains_from_has (shortfall_left first f).blocks left there, omega (arith, from, low, same), t.run.3);
        }

    pub run_both : IsInRunOf cut_all s gbc ↔ (IsInRunOf all s gbc × (gbc_at first s ≤ gbc))
    run_both = (run_there, run_back)

  -- ---- sessions that the log has no block of

  idle_parts : (has tails blocks : Bool) → (has && (tails && blocks)) ≡ true → (has ≡ true) × (tails ≡ true) × (blocks ≡ true)
  idle_parts true true true e = (refl, refl, refl)
  idle_parts true true false e = absurd (let bad : false ≡ true = e in cc)
  idle_parts true false blocks e = absurd (let bad : false ≡ true = e in cc)
  idle_parts false tails blocks e = absurd (let bad : false ≡ true = e in cc)

  pub absent_or_idle : (f : Shortfall) → Contains all.absent f
      → Contains cut_all.absent (shortfall_left first f)
      ⊎ ((has_counter first f.session ≡ true) × ((shortfall_left first f).tails ≡ []) × ((shortfall_left first f).blocks ≡ []))
  absent_or_idle f c =
      let left = shortfall_left first f in
      elim (cases_Bool (is_idle first left)) [
        | inl t ↦ (
            let p = idle_parts (has_counter first left.session) (is_none left.tails) (is_none left.blocks) t in
            inr (ap (has_counter first) (sym (session_stays f)) ∙ p.0, none_is left.tails p.1, none_is left.blocks p.2))
        | inr e ↦ inl (absent_stays f c e)
      ]

  pub absent_from : (left : Shortfall) → Contains cut_all.absent left → (whole : Shortfall) × Contains all.absent whole × (left ≡ shortfall_left first whole)
  unfolding absent_left
  absent_from left c =
      let f = from_has-filter is_kept (map (shortfall_left first) all.absent) left (has_from_contains (filter is_kept (map (shortfall_left first) all.absent)) left c) in
      let w = from_has-map (shortfall_left first) all.absent left f.0 in
      (w.0, contains_from_has all.absent w.0 w.1, sym w.2)
