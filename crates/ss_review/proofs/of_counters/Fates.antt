-- Each number below its group's counter is listed, a gap, in a hole or in a tail, and only one of these.
use Rattle.std.proofs.Common.{◌≡◌, ◌⊎◌, inl, inr, ℕ, ◌+◌, ◌-◌, ◌<◌, ◌≤◌, Bool, true, false, List, [], ◌∷◌, map, filter, flat_map, fold, refl, sym, ap, ◌∙◌, subst, arith}
use Rattle.std.specs.Prelude.{max, nat_lt, if◌then◌else◌}
use Rattle.std.specs.Ordering.{is_eq}
use Rattle.std.specs.Cmp.{Equal-is}
use Rattle.std.specs.List.{list_any}
use Rattle.std.proofs.lemmas.Bool.{cases_Bool, lt-ltb, ltb-true, ltb-false}
use Rattle.std.proofs.lemmas.Cmp.{tied_itself}
use Rattle.ss_block.specs.declared.block.Group.{Group}
use Rattle.ss_block.specs.declared.session.Session.{Session}
use Rattle.ss_block.specs.Order.{group_cmp}
use Rattle.ss_block.specs.OrderLaws.{session_cmp_total, session_cmp_exact, group_cmp_total, group_cmp_exact}
use Rattle.ss_review.specs.declared.counted.counter.Counter.{Counter}
use Rattle.ss_review.specs.declared.counted.counter.Counts.{Counts}
use Rattle.ss_review.specs.declared.counted.counter.Counts.TheVariants as counts
use Rattle.ss_review.specs.declared.counted.shortfall.GroupTail.{GroupTail}
use Rattle.ss_review.specs.declared.counted.shortfall.Shortfall.{Shortfall}
use Rattle.ss_review.specs.declared.counted.shortfall.LogShortfalls.{LogShortfalls}
use Rattle.ss_review.specs.declared.report.entry.Entry.{Entry}
use Rattle.ss_review.specs.declared.report.entry.Entry.TheVariants as entry
use Rattle.ss_review.specs.declared.report.group_report.GroupReport.{GroupReport}
use Rattle.ss_review.specs.declared.report.report.Report.{Report}
use Rattle.ss_review.specs.declared.report.session_report.SessionReport.{SessionReport}
use Rattle.ss_review.specs.keep.Notes.{notes}
use Rattle.ss_review.specs.keep.Contents.{blocks}
use Rattle.ss_review.specs.sessions.Verified.{Answers}
use Rattle.ss_review.specs.announced.Announced.{Key, rows, keys, key_cmp}
use Rattle.ss_review.specs.announced.Announcing.{IsAnnounced}
use Rattle.ss_review.specs.counted.Counted.{next_number}
use Rattle.ss_review.specs.counted.CountedLaws.{CountedAreVerified, NextNumbersFollow}
use Rattle.ss_review.specs.report.Entries.{same_group}
use Rattle.ss_review.specs.Laws.{IsAssigned, AnnouncedAreTold, ReportsAreInOrder, OneReport, KeysAreAnnounced, ListedAreAssigned, GapsAreUnassigned}
use Rattle.ss_review.specs.report.Meaning.{IsHole, Tells}
use Rattle.ss_review.specs.report.Report.{report}
use Rattle.ss_review.specs.counted.Kept.{counters_of, kept_sessions, kept_number, number_said, group_said, number_in, groups_in, number_behind, tail_between, tails_in}
use Rattle.ss_review.specs.counted.KeptLaws as fates
use Rattle.ss_review.specs.counted.KeptLaws.{shortfalls_of, IsToldOf, IsInTail, IsInHole, Fate, HasFate, EveryNumberIsTold}
use Rattle.ss_octets.proofs.Members.{Has, has-map, has_from_contains, contains_from_has, from_has-map, has-filter, from_has-filter, has-flat_map, from_has-flat_map}
use Rattle.ss_review.proofs.of_reports.EntriesMeant.{greatest_of}
use Rattle.ss_review.proofs.of_reports.EntriesRise.{fold_max-from, fold_max-member}
use Rattle.ss_review.proofs.of_reports.HoleAt.{hole_at}
use Rattle.ss_review.proofs.of_lists.Keyed.{one_of_key}
use Rattle.ss_review.proofs.of_counters.KeptBlocks.{has_kept, session_kept}
use Rattle.ss_review.proofs.of_lists.Rising.{has-in_order}
use Rattle.ss_review.proofs.of_counters.Shortfalls.{GroupsAre, reported, absent, IsOf, told_is, there}
use Rattle.ss_review.proofs.of_lists.Tests.{any_member, member_any}
use Rattle.ss_review.proofs.of_lists.TotalOrders.{key_cmp_total, key_cmp_exact}

group_is : (a b : Group) → same_group a b ≡ true → a ≡ b
group_is a b e = group_cmp_exact a b ((Equal-is (group_cmp a b)).0 e)

is_group : (a b : Group) → a ≡ b → same_group a b ≡ true
is_group a b e = ap (λ c. is_eq (group_cmp c b)) e ∙ ap is_eq (tied_itself group_cmp_total b)

-- ---- tails

tail_is : (b : Bool) (g : Group) (first end : ℕ) (t : GroupTail) → nat_lt first end ≡ b → Has (if b then record { group = g; first = first; last = end - 1 } ∷ [] else []) t → (first < end) × (t.group ≡ g) × (t.first ≡ first) × (t.last ≡ end - 1)
tail_is true g first end t e (inl i) = (ltb-true first end e, ap (λ (u : GroupTail). u.group) (sym i), ap (λ (u : GroupTail). u.first) (sym i), ap (λ (u : GroupTail). u.last) (sym i))
tail_is true g first end t e (inr h) = absurd h
tail_is false g first end t e h = absurd h

tail_here : (g : Group) (first end : ℕ) → first < end → Has (tail_between g first end) (record { group = g; first = first; last = end - 1 })
tail_here g first end less =
    let t : GroupTail = record { group = g; first = first; last = end - 1 } in
    subst (λ (b : Bool). Has (if b then t ∷ [] else []) t) (sym (lt-ltb first end less)) (inl refl)

-- ---- a counter of a group

said_of : (b : Bool) (g h : Group) (next n : ℕ) → same_group h g ≡ b → n < (if b then next else 0) → h ≡ g
said_of true g h next n e less = group_is h g e
said_of false g h next n e less = absurd (omega (arith, less))

speaks_of : (g : Group) (c : Counts) (next n : ℕ) → n < number_said g c next → Has (group_said c) g
speaks_of g counts.Blocks next n less = absurd (omega (arith, less))
speaks_of g (counts.Messages h) next n less = inl (said_of (same_group h g) g h next n refl less)

pub group_kept : (own : List Counter) (g : Group) (n : ℕ) → n < number_in own g → Has (groups_in own) g
unfolding number_in groups_in
group_kept own g n less =
    let said : Counter → ℕ = λ c. number_said g c.counts c.next in
    elim (greatest_of 0 (map said own)) [
      | inl none ↦ absurd (omega (arith, less, none))
      | inr h ↦ (
          let w = from_has-map said own (fold max 0 (map said own)) h in
          let more : n < said w.0 = omega (arith, less, w.2) in
          has-in_order group_cmp_total group_cmp_exact g (flat_map (λ (c : Counter). group_said c.counts) own)
          (has-flat_map (λ (c : Counter). group_said c.counts) own w.0 g w.1 (speaks_of g w.0.counts w.0.next n more)))
    ]

number_session : (cs : List Counter) (s : Session) (g : Group) (n : ℕ) → n < kept_number cs s g → Has (kept_sessions cs) s
unfolding number_in
number_session cs s g n less =
    let w = has_kept cs s (λ c. number_said g c.counts c.next) n less in
    session_kept cs s w.0 w.1 w.2

module _ (told : AnnouncedAreTold) (order : ReportsAreInOrder) (follow : NextNumbersFollow) (says : Answers) (log : List (List ℕ)) where
  abbrev its_report : Report
  its_report = report says log

  abbrev Announced : Session → Group → ℕ → Type 0
  Announced s g n = IsAnnounced says (blocks (notes log)) (record { session = s; group = g; number = n })

  -- ---- the number behind the last announced one

  module _ (s : Session) (g : Group) (gs : List GroupReport) where
    abbrev of_group : List GroupReport
    of_group = filter (λ (r : GroupReport). same_group r.group g) gs

    pub some_behind : 1 ≤ number_behind gs g
    some_behind = fold_max-from 1 (map next_number of_group)

    tells_below : (e : Entry) (n : ℕ) → GroupsAre says log s gs → Announced s g n → Tells its_report s g e → n < number_behind gs g
    tells_below e n (reported r h at its) a t =
        let ordered = order says log in
        let has : Has its_report.sessions t.session = has_from_contains its_report.sessions t.session t.session_told in
        let same : t.session ≡ r = one_of_key session_cmp_total session_cmp_exact (λ (x : SessionReport). x.session) its_report.sessions ordered.sessions t.session r has h (t.session_is ∙ sym at) in
        let in_groups : Has gs t.group = subst (λ xs. Has xs t.group) (ap (λ (x : SessionReport). x.groups) same ∙ its) (has_from_contains t.session.groups t.group t.group_told) in
        let in_group : Has of_group t.group = has-filter (λ (x : GroupReport). same_group x.group g) gs t.group in_groups (is_group t.group.group g t.group_is) in
        let moved : Announced t.session.session t.group.group n = subst (λ q. Announced t.session.session q n) (sym t.group_is) (subst (λ q. Announced q g n) (sym t.session_is) a) in
        let less : n < next_number t.group = (follow says log t.session t.group t.session_told t.group_told).above n moved in
        let most : next_number t.group ≤ number_behind gs g = fold_max-member 1 (map next_number of_group) (next_number t.group) (has-map next_number of_group t.group in_group) in
        omega (arith, less, most)
    tells_below e n (absent none is) a t = absurd (none t.session (has_from_contains its_report.sessions t.session t.session_told) t.session_is)

    pub announced_below : (n : ℕ) → GroupsAre says log s gs → Announced s g n → n < number_behind gs g
    announced_below n are a =
        elim ((told says log (record { session = s; group = g; number = n })).1 a) [
          | inl l ↦ tells_below (entry.Listed n l.0) n are a l.1
          | inr q ↦ tells_below (entry.Gap n q.0) n are a q.1
        ]

    abbrev Behind : Type 0
    Behind = (number_behind gs g ≡ 1) ⊎ ((n : ℕ) × Announced s g n × (number_behind gs g ≡ n + 1))

    behind_of : GroupsAre says log s gs → (r : GroupReport) → Has gs r → r.group ≡ g → next_number r ≡ number_behind gs g → Behind
    behind_of (reported t h at its) r i in_group e =
        let next = follow says log t r (contains_from_has its_report.sessions t h) (contains_from_has t.groups r (subst (λ xs. Has xs r) (sym its) i)) in
        elim next.behind [
          | inl zero ↦ absurd (omega (arith, zero, e, some_behind))
          | inr w ↦ inr (w.0, subst (λ q. Announced s q w.0) in_group (subst (λ q. Announced q r.group w.0) at w.1), sym e ∙ w.2)
        ]
    behind_of (absent none is) r i in_group e = absurd (subst (λ xs. Has xs r) is i)

    pub behind_is : GroupsAre says log s gs → Behind
    behind_is are =
        elim (greatest_of 1 (map next_number of_group)) [
          | inl e ↦ inl e
          | inr h ↦ (
              let w = from_has-map next_number of_group (number_behind gs g) h in
              let f = from_has-filter (λ (r : GroupReport). same_group r.group g) gs w.0 w.1 in
              behind_of are w.0 f.0 (group_is w.0.group g f.1) w.2)
        ]

  -- ---- what is in a tail

  module _ (verified : CountedAreVerified) (cs : List Counter) where
    abbrev all_told : LogShortfalls
    all_told = shortfalls_of says log cs

    pub record TailsNumber (s : Session) (g : Group) (n : ℕ) : Type 0 where
      pub groups : List GroupReport
      pub groups_are : GroupsAre says log s groups
      pub from : number_behind groups g ≤ n
      pub below : n < kept_number cs s g

    pub tails_number : (k : Key) → IsInTail all_told k → TailsNumber k.session k.group k.number
    unfolding tails_in
    tails_number k t =
        let f = t.shortfall in
        let o = told_is says log cs verified f t.told in
        let own = counters_of cs f.session in
        let gs = o.groups in
        let tails_are : f.tails ≡ tails_in own gs = ap (λ (x : Shortfall). x.tails) o.is in
        let w = from_has-flat_map (λ g. tail_between g (number_behind gs g) (number_in own g)) (groups_in own) t.tail (subst (λ ts. Has ts t.tail) tails_are (has_from_contains f.tails t.tail t.tail_told)) in
        let is = tail_is (nat_lt (number_behind gs w.0) (number_in own w.0)) w.0 (number_behind gs w.0) (number_in own w.0) t.tail refl w.2 in
        let at : w.0 ≡ k.group = sym is.1 ∙ t.group_is in
        let low : number_behind gs w.0 ≤ k.number = omega (arith, t.from, is.2) in
        let high : k.number < number_in own w.0 = omega (arith, t.to, is.3, is.0) in
        let of_group : k.number < kept_number cs f.session k.group = subst (λ q. k.number < number_in own q) at high in
        record {
          groups = gs;
          groups_are = subst (λ q. GroupsAre says log q gs) t.session_is o.groups_are;
          from = subst (λ q. number_behind gs q ≤ k.number) at low;
          below = subst (λ q. k.number < kept_number cs q k.group) t.session_is of_group;
        }

    -- ---- one fate

    module _ (one : OneReport) (listed : ListedAreAssigned) (unlisted : GapsAreUnassigned) (k : Key) where
      abbrev P : ℕ → Type 0
      P n = Announced k.session k.group n

      abbrev Facts : Fate → Type 0
      Facts fates.Listed = P k.number × ((place : ℕ) × IsAssigned says (notes log) k place)
      Facts fates.Gap = P k.number × ((place : ℕ) → ¬ IsAssigned says (notes log) k place)
      Facts fates.Hole = (¬ P k.number) × ((m : ℕ) × (k.number < m) × P m)
      Facts fates.Tail = (¬ P k.number) × ((m : ℕ) → P m → m ≤ k.number)

      facts : (fate : Fate) → HasFate its_report all_told k fate → Facts fate
      facts fates.Listed l = ((told says log k).0 (inl l), (l.0, (listed says log k l.0).0 l.1))
      facts fates.Gap g = (unlisted says log k).0 g
      facts fates.Hole h =
          let hole : IsHole P h.first h.last = ((one.0 says log).entries k.session k.group (entry.Hole h.first h.last)).0 h.told in
          let to : k.number ≤ h.last = h.to in
          (hole.unannounced k.number h.from h.to, (h.last + 1, omega (arith, to), hole.behind))
      facts fates.Tail t =
          let n = tails_number k t in
          let low : number_behind n.groups k.group ≤ k.number = n.from in (
            λ p. (let l = announced_below k.session k.group n.groups k.number n.groups_are p in absurd (omega (arith, l, low))),
            λ m p. (let l = announced_below k.session k.group n.groups m n.groups_are p in omega (arith, l, low)),
          )

      clash : (a b : Fate) → Facts a → Facts b → b ≡ a
      clash fates.Listed fates.Listed f g = refl
      clash fates.Listed fates.Gap f g = absurd (g.1 f.1.0 f.1.1)
      clash fates.Listed fates.Hole f g = absurd (g.0 f.0)
      clash fates.Listed fates.Tail f g = absurd (g.0 f.0)
      clash fates.Gap fates.Listed f g = absurd (f.1 g.1.0 g.1.1)
      clash fates.Gap fates.Gap f g = refl
      clash fates.Gap fates.Hole f g = absurd (g.0 f.0)
      clash fates.Gap fates.Tail f g = absurd (g.0 f.0)
      clash fates.Hole fates.Listed f g = absurd (f.0 g.0)
      clash fates.Hole fates.Gap f g = absurd (f.0 g.0)
      clash fates.Hole fates.Hole f g = refl
      clash fates.Hole fates.Tail f g = (let most = g.1 f.1.0 f.1.2 in absurd (omega (arith, most, f.1.1)))
      clash fates.Tail fates.Listed f g = absurd (f.0 g.0)
      clash fates.Tail fates.Gap f g = absurd (f.0 g.0)
      clash fates.Tail fates.Hole f g = (let most = f.1 g.1.0 g.1.2 in absurd (omega (arith, most, g.1.1)))
      clash fates.Tail fates.Tail f g = refl

      pub one_fate : (a b : Fate) → HasFate its_report all_told k a → HasFate its_report all_told k b → b ≡ a
      one_fate a b h i = clash a b (facts a h) (facts b i)

      pub unannounced : IsInTail all_told k → ¬ P k.number
      unannounced t = (facts fates.Tail t).0

      -- ---- and each has one

      decided : KeysAreAnnounced → (n : ℕ) → P n ⊎ ¬ P n
      decided announced n =
          let j : Key = record { session = k.session; group = k.group; number = n } in
          let ks = keys (rows says (blocks (notes log))) in
          let same : Key → Bool = λ i. is_eq (key_cmp i j) in
          elim (cases_Bool (list_any same ks)) [
            | inl t ↦ (
                let w = any_member same ks t in
                let at : w.0 ≡ j = key_cmp_exact w.0 j ((Equal-is (key_cmp w.0 j)).0 w.2) in
                inl ((announced says log j).0.0 (contains_from_has ks j (subst (Has ks) at w.1))))
            | inr f ↦ inr (λ p.
                (let mine : same j ≡ true = ap is_eq (tied_itself key_cmp_total j) in
                let t = member_any same ks j (has_from_contains ks j ((announced says log j).0.1 p)) mine in
                let bad : true ≡ false = sym t ∙ f in
                absurd (cc)))
          ]

      abbrev Some_fate : Type 0
      Some_fate = (fate : Fate) × HasFate its_report all_told k fate

      in_hole : KeysAreAnnounced → (m : ℕ) → 1 ≤ k.number → ¬ P k.number → k.number < m → P m → Some_fate
      in_hole announced m some none less p =
          let h = hole_at P (decided announced) k.number m some none less p in
          (fates.Hole, record { first = h.first; last = h.last; told = ((one.0 says log).entries k.session k.group (entry.Hole h.first h.last)).1 h.hole; from = h.from; to = h.to })

      in_tail : (f : Shortfall) → IsToldOf all_told f → f.session ≡ k.session → (o : IsOf says log cs f) → number_behind o.groups k.group ≤ k.number → k.number < kept_number cs k.session k.group → IsInTail all_told k
      unfolding tails_in
      in_tail f is at o low less =
          let own = counters_of cs f.session in
          let gs = o.groups in
          let below : k.number < number_in own k.group = subst (λ q. k.number < kept_number cs q k.group) (sym at) less in
          let first = number_behind gs k.group in
          let end = number_in own k.group in
          let t : GroupTail = record { group = k.group; first = first; last = end - 1 } in
          let h : Has (tails_in own gs) t
          = has-flat_map (λ g. tail_between g (number_behind gs g) (number_in own g)) (groups_in own) k.group t (group_kept own k.group k.number below) (tail_here k.group first end (omega (arith, low, below))) in
          record {
            shortfall = f;
            told = is;
            session_is = at;
            tail = t;
            tail_told = contains_from_has f.tails t (subst (λ ts. Has ts t) (sym (ap (λ (x : Shortfall). x.tails) o.is)) h);
            group_is = refl;
            from = low;
            to = omega (arith, below);
          }

      below_behind : KeysAreAnnounced → (gs : List GroupReport) → GroupsAre says log k.session gs → 1 ≤ k.number → ¬ P k.number → k.number < number_behind gs k.group → Some_fate
      below_behind announced gs are some none less =
          elim (behind_is k.session k.group gs are) [
            | inl first ↦ absurd (omega (arith, first, some, less))
            | inr w ↦ (elim (cases_Bool (nat_lt k.number w.0)) [
              | inl t ↦ in_hole announced w.0 some none (ltb-true k.number w.0 t) w.1
              | inr f ↦ (
                  let most = ltb-false k.number w.0 f in
                  let e : w.0 ≡ k.number = omega (arith, most, w.2, less) in
                  absurd (none (subst P e w.1)))
            ])
          ]

      pub some_fate : KeysAreAnnounced → 1 ≤ k.number → k.number < kept_number cs k.session k.group → Some_fate
      some_fate announced some less =
          let w = there says log cs k.session (number_session cs k.session k.group k.number less) in
          let o = told_is says log cs verified w.shortfall w.told in
          elim (decided announced k.number) [
            | inl p ↦ (elim ((told says log k).1 p) [ inl l ↦ (fates.Listed, l) | inr g ↦ (fates.Gap, g) ])
            | inr none ↦ (elim (cases_Bool (nat_lt k.number (number_behind o.groups k.group))) [
              | inl t ↦ below_behind announced o.groups (subst (λ q. GroupsAre says log q o.groups) w.session_is o.groups_are) some none (ltb-true k.number (number_behind o.groups k.group) t)
              | inr f ↦ (fates.Tail, in_tail w.shortfall w.told w.session_is o (ltb-false k.number (number_behind o.groups k.group) f) less)
            ])
          ]

pub every_number : AnnouncedAreTold → ReportsAreInOrder → NextNumbersFollow → CountedAreVerified → OneReport → ListedAreAssigned → GapsAreUnassigned → KeysAreAnnounced → EveryNumberIsTold
every_number told order follow verified one listed unlisted announced says log cs k = (
  λ some less.
      (let w = some_fate told order follow says log verified cs one listed unlisted k announced some less in
      (w.0, w.1, λ other h. one_fate told order follow says log verified cs one listed unlisted k w.0 other w.1 h)),
  λ t. ((tails_number told order follow says log verified cs k t).below, unannounced told order follow says log verified cs one listed unlisted k t),
)
