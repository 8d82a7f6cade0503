-- What is told of the groups of a session, from its numbers in their order.
use Rattle.std.proofs.Common.{◌≡◌, ℕ, zero, suc, ◌+◌, ◌-◌, ◌<◌, Bool, false, cond, List, [], ◌∷◌, ◌++◌, length, get_or, take, drop, map, filter, refl, sym, ap, ◌∙◌, subst, arith}
use Rattle.std.specs.declared.cmp.Ordering.TheVariants.{Less, Equal}
use Rattle.std.specs.Ordering.{nat_cmp, is_gt, ordering_then}
use Rattle.std.specs.Cmp.{Equal-is}
use Rattle.std.specs.List.{AllByRecursion, take_while}
use Rattle.std.specs.List.Sorted.{IsStrictlySortedBy}
use Rattle.std.proofs.lemmas.Cmp.{tied_itself}
use Rattle.std.proofs.lemmas.List.{drop_more, drop-drop, map-id}
use Rattle.std.proofs.lemmas.List.Sums.{take_while-cons}
use Rattle.std.proofs.lemmas.Simd.{map-map}
use Rattle.std.proofs.Math.Seq.{take-append_seam, drop-append_seam}
use Rattle.ss_block.specs.declared.block.Group.{Group}
use Rattle.ss_block.specs.declared.session.Session.{Session}
use Rattle.ss_block.specs.Order.{session_cmp, group_cmp}
use Rattle.ss_block.specs.OrderLaws.{session_cmp_total, session_cmp_exact, group_cmp_total, group_cmp_exact}
use Rattle.ss_review.specs.declared.report.entry.Entry.{Entry}
use Rattle.ss_review.specs.declared.report.group_report.GroupReport.{GroupReport}
use Rattle.ss_review.specs.declared.keep.message.NormalMessage.{NormalMessage}
use Rattle.ss_review.specs.declared.report.number_entry.NumberEntry.{NumberEntry}
use Rattle.ss_review.specs.Ordered.{in_order}
use Rattle.ss_review.specs.declared.sessions.joined_session.JoinedSession.{JoinedSession}
use Rattle.ss_review.specs.keep.Contents.{Contents}
use Rattle.ss_review.specs.sessions.Sessions.{same_session, sessions, of_session}
use Rattle.ss_review.specs.sessions.Verified.{Answers, joined}
use Rattle.ss_review.specs.announced.Numbered.{session_with_joined, sessions_joined}
use Rattle.ss_review.specs.announced.Announced.{Key, Row, key_cmp, keys}
use Rattle.ss_review.specs.report.Entries.{same_group, keys_in, group_keys, entry_of}
use Rattle.ss_review.specs.report.Report.{groups, group_report, session_report}
use Rattle.ss_review.specs.report.Grouped.{with_entry, with_entries, entries_after, Rise, GroupsRise, numbers_of_session, numbers_of_group, group_told, groups_told, session_told}
use Rattle.ss_review.proofs.of_numbers.Announcements.{keys-rise}
use Rattle.ss_review.proofs.of_reports.EntriesRise.{numbers_rise}
use Rattle.ss_review.proofs.of_reports.EntriesTold.{entries_told}
use Rattle.ss_review.proofs.of_lists.Keyed.{keys_rise-filter}
use Rattle.ss_octets.proofs.Members.{has-map, from_has-filter, all-has}
use Rattle.ss_review.proofs.of_assignment.NotTaken.{filter_map_is}
use Rattle.ss_review.proofs.of_lists.Rising.{all_below}
use Rattle.ss_review.proofs.of_lists.Sections as sectioned
use Rattle.ss_review.proofs.of_lists.Sections.{map_agree}
use Rattle.ss_review.proofs.of_numbers.SessionRange.{numbered_key, session_of}
use Rattle.ss_review.proofs.of_lists.TotalOrders.{then_first}

-- ---- a list in the order of groups falls into them

abbrev group_of : NumberEntry → Group
group_of n = n.number.group

abbrev front : Group → List NumberEntry → List NumberEntry
front g ns = sectioned.front group_of group_cmp_total group_cmp_exact g ns

abbrev back : Group → List NumberEntry → List NumberEntry
back g ns = sectioned.back group_of group_cmp_total group_cmp_exact g ns

abbrev of_group : Group → NumberEntry → Bool
of_group g n = same_group n.number.group g

rise_is : (ns : List NumberEntry) → GroupsRise ns → sectioned.KeysRise group_of group_cmp_total group_cmp_exact ns
rise_is [] up = tt
rise_is (n ∷ ns) up = (up.0, rise_is ns up.1)

groups_rise-drop : (i : ℕ) (ns : List NumberEntry) → GroupsRise ns → GroupsRise (drop i ns)
groups_rise-drop zero ns up = up
groups_rise-drop (suc i) [] up = tt
groups_rise-drop (suc i) (n ∷ ns) up = groups_rise-drop i ns up.1

front_is : (g : Group) (ns : List NumberEntry) → front g ns ≡ take_while (of_group g) ns
front_is g [] = refl
front_is g (n ∷ ns) = ap (λ fs. cond (of_group g n) (n ∷ fs) []) (front_is g ns) ∙ sym (take_while-cons (of_group g) n ns)

-- the front and the back as parts of the list
parts : (g : Group) (ns : List NumberEntry) (count : ℕ) → count ≡ length (take_while (of_group g) ns) → (front g ns ≡ take count ns) × (back g ns ≡ drop count ns)
parts g ns count e =
    let long : length (front g ns) ≡ count = ap length (front_is g ns) ∙ sym e in
    let all : front g ns ++ back g ns ≡ ns = sectioned.split_is group_of group_cmp_total group_cmp_exact g ns in (
      sym (take-append_seam (front g ns) (back g ns)) ∙ ap (take (length (front g ns))) all ∙ ap (λ k. take k ns) long,
      sym (drop-append_seam (front g ns) (back g ns)) ∙ ap (drop (length (front g ns))) all ∙ ap (λ k. drop k ns) long,
    )

abbrev section_told : Group × List NumberEntry → GroupReport
section_told s = group_told s.0 s.1

by_sections : (ns : List NumberEntry) → map section_told (sectioned.sections group_of group_cmp_total group_cmp_exact ns) ≡ groups_told ns
by_sections ns = map-map section_told (λ g. (g, numbers_of_group g ns)) (in_order group_cmp (map group_of ns))

groups_first : (n : NumberEntry) (ns : List NumberEntry) (count : ℕ) → GroupsRise (n ∷ ns) → count ≡ length (take_while (of_group n.number.group) ns)
    → groups_told (n ∷ ns) ≡ group_told n.number.group (n ∷ take count ns) ∷ groups_told (drop count ns)
groups_first n ns count up e =
    let g = n.number.group in
    let p = parts g ns count e in
    sym (by_sections (n ∷ ns))
    ∙ ap (map section_told) (sectioned.sections_step group_of group_cmp_total group_cmp_exact n ns (rise_is (n ∷ ns) up))
    ∙ (λ i. group_told g (n ∷ p.0 i) ∷ by_sections (p.1 i) i)

pub groups_more : (ns : List NumberEntry) (start count end : ℕ) (n : NumberEntry) → GroupsRise ns → start < length ns → n ≡ get_or ns start n
    → count ≡ length (take_while (of_group n.number.group) (drop (start + 1) ns)) → end ≡ start + 1 + count
    → groups_told (drop start ns) ≡ group_told n.number.group (take (end - start) (drop start ns)) ∷ groups_told (drop end ns)
groups_more ns start count end n up below at e ends =
    let here : drop start ns ≡ n ∷ drop (start + 1) ns = drop_more ns start n below ∙ ap (λ m. m ∷ drop (start + 1) ns) (sym at) in
    let long : suc count ≡ end - start = omega (arith, ends) in
    let past : start + 1 + count ≡ end = omega (arith, ends) in
    ap groups_told here
    ∙ groups_first n (drop (start + 1) ns) count (subst GroupsRise here (groups_rise-drop start ns up)) e
    ∙ (λ i. group_told n.number.group (take (long i) (sym here i)) ∷ groups_told ((drop-drop count (start + 1) ns ∙ ap (λ k. drop k ns) past) i))

-- ---- the numbers of a session stand by group

not_above : (a b : Key) → key_cmp a b ≡ Less → a.session ≡ b.session → is_gt (group_cmp a.group b.group) ≡ false
not_above a b e s =
    let tie : session_cmp a.session b.session ≡ Equal = ap (λ t. session_cmp t b.session) s ∙ tied_itself session_cmp_total b.session in
    then_first (group_cmp a.group b.group) (nat_cmp a.number b.number)
    (sym (ap (λ c. ordering_then c (ordering_then (group_cmp a.group b.group) (nat_cmp a.number b.number))) tie) ∙ e)

groups_rise : (s : Session) (ns : List NumberEntry) → Rise ns → AllByRecursion (λ n. session_of n ≡ s) ns → GroupsRise ns
unfolding IsStrictlySortedBy
groups_rise s [] up a = tt
groups_rise s (n ∷ ns) up a = (
  all_below (λ m. is_gt (group_cmp n.number.group m.number.group) ≡ false) ns (λ m h.
      not_above (numbered_key n) (numbered_key m) (all-has (λ k. key_cmp (numbered_key n) k ≡ Less) (map numbered_key ns) (numbered_key m) up.0 (has-map numbered_key ns m h))
      (a.0 ∙ sym (all-has (λ m. session_of m ≡ s) ns m a.1 h))),
  groups_rise s ns up.1 a.1,
)

pub own_groups_rise : (s : Session) (ns : List NumberEntry) → Rise ns → GroupsRise (numbers_of_session s ns)
own_groups_rise s ns up =
    let own : NumberEntry → Bool = λ n. same_session (session_of n) s in
    groups_rise s (filter own ns) (keys_rise-filter numbered_key key_cmp own ns up)
    (all_below (λ n. session_of n ≡ s) (filter own ns) (λ n h. session_cmp_exact (session_of n) s ((Equal-is (session_cmp (session_of n) s)).0 (from_has-filter own ns n h).1)))

-- ---- what is told of a session

module _ (ms : List NormalMessage) (rs : List Row) where
  abbrev paired : Key → Key × Entry
  paired k = (k, entry_of ms rs k)

  filtered : (p : Key → Bool) (ns : List NumberEntry) (ks : List Key) → map with_entry ns ≡ with_entries ms rs ks
      → map with_entry (filter (λ n. p (numbered_key n)) ns) ≡ with_entries ms rs (filter p ks)
  filtered p ns ks e =
      sym (filter_map_is (λ (k : Key × Entry). p k.0) with_entry ns)
      ∙ ap (filter (λ (k : Key × Entry). p k.0)) e
      ∙ filter_map_is (λ (k : Key × Entry). p k.0) paired ks

  keyed : {X : Type 0} (f : Key → X) (ns : List NumberEntry) (ks : List Key) → map with_entry ns ≡ with_entries ms rs ks → map (λ n. f (numbered_key n)) ns ≡ map f ks
  keyed f ns ks e =
      sym (map-map (λ (k : Key × Entry). f k.0) with_entry ns)
      ∙ ap (map (λ (k : Key × Entry). f k.0)) e
      ∙ map-map (λ (k : Key × Entry). f k.0) paired ks

  pub numbers_stand : (ns : List NumberEntry) → map with_entry ns ≡ with_entries ms rs (keys rs) → Rise ns
  numbers_stand ns e =
      subst (IsStrictlySortedBy key_cmp) (sym (keyed (λ k. k) ns (keys rs) e ∙ map-id (keys rs))) (keys-rise rs)

  pub groups_are : (s : Session) (ns : List NumberEntry) → map with_entry ns ≡ with_entries ms rs (keys rs) → groups_told (numbers_of_session s ns) ≡ map (group_report ms rs s) (groups rs s)
  unfolding group_keys
  groups_are s ns e =
      let own : map with_entry (numbers_of_session s ns) ≡ with_entries ms rs (keys_in rs s) = filtered (λ k. same_session k.session s) ns (keys rs) e in
      ap (λ gs. map (λ g. group_told g (numbers_of_group g (numbers_of_session s ns))) (in_order group_cmp gs)) (keyed (λ k. k.group) (numbers_of_session s ns) (keys_in rs s) own)
      ∙ map_agree (λ g. group_told g (numbers_of_group g (numbers_of_session s ns))) (group_report ms rs s) (groups rs s) (λ g h i.
      record {
        group = g;
        entries = (ap (entries_after 0) (filtered (λ k. same_group k.group g) (numbers_of_session s ns) (keys_in rs s) own)
            ∙ entries_told ms rs (group_keys rs s g) (numbers_rise rs s g)) i;
      })

-- ---- what is told of all sessions

pub sessions_are : (says : Answers) (log : Contents) (rs : List Row) (js : List JoinedSession) → map session_with_joined js ≡ sessions_joined says log.blocks
    → map (λ s. session_told log.normal rs (session_with_joined s)) js ≡ map (session_report says log rs) (sessions log.blocks)
sessions_are says log rs js e =
    sym (map-map (session_told log.normal rs) session_with_joined js)
    ∙ ap (map (session_told log.normal rs)) e
    ∙ map-map (session_told log.normal rs) (λ s. (s, joined says (of_session log.blocks s))) (sessions log.blocks)
