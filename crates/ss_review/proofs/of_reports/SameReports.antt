-- Two reports that say what there is of one log are equal.
use Rattle.std.proofs.Common.{◌≡◌, ◌≢◌, inl, List, [], ◌∷◌, map, refl, sym, ap, ◌∙◌, subst}
use Rattle.std.specs.Prelude.{All}
use Rattle.std.specs.Ordering.{nat_cmp}
use Rattle.std.specs.List.Sorted.{IsStrictlySortedBy}
use Rattle.std.proofs.lemmas.Cmp.{nat_cmp_total}
use Rattle.std.proofs.lemmas.List.Elements.{recursion_from_All}
use Rattle.ss_block.specs.declared.session.Session.{Session}
use Rattle.ss_block.specs.Order.{group_cmp}
use Rattle.ss_block.specs.OrderLaws.{session_cmp_total, session_cmp_exact, group_cmp_total, group_cmp_exact}
use Rattle.ss_review.specs.declared.report.entry.Entry.{Entry}
use Rattle.ss_review.specs.declared.report.group_report.GroupReport.{GroupReport}
use Rattle.ss_review.specs.declared.report.session_report.SessionReport.{SessionReport}
use Rattle.ss_review.specs.declared.report.report.Report.{Report}
use Rattle.ss_review.specs.keep.Contents.{Contents}
use Rattle.ss_review.specs.sessions.Sessions.{of_session}
use Rattle.ss_review.specs.sessions.Verified.{Answers, joined, state_in}
use Rattle.ss_review.specs.report.Meaning.{Tells, first_number, IsReport}
use Rattle.ss_review.proofs.of_lists.Keyed.{one_of_key}
use Rattle.ss_octets.proofs.Members.{Has, has_from_contains, contains_from_has, all-has}
use Rattle.ss_review.proofs.of_lists.Rising.{same_members, same_keyed}

some_member : {X : Type 0} (xs : List X) → xs ≢ [] → (x : X) × Has xs x
some_member [] n = absurd (n refl)
some_member (x ∷ xs) n = (x, inl refl)

-- ---- what one report tells, the other does

abbrev whose : SessionReport → Session
whose t = t.session

module _ (says : Answers) (log : Contents) where
  groups_up : (r : Report) (t : SessionReport) → IsReport says log r → Has r.sessions t → IsStrictlySortedBy group_cmp (map (λ (g : GroupReport). g.group) t.groups)
  groups_up r t is h =
      all-has (λ (s : SessionReport). IsStrictlySortedBy group_cmp (map (λ (g : GroupReport). g.group) s.groups)) r.sessions t
      (recursion_from_All (λ (s : SessionReport). IsStrictlySortedBy group_cmp (map (λ (g : GroupReport). g.group) s.groups)) r.sessions is.in_order.groups) h

  abbrev EntriesRise : GroupReport → Type 0
  EntriesRise g = IsStrictlySortedBy nat_cmp (map first_number g.entries)

  entries_up : (r : Report) (t : SessionReport) (g : GroupReport) → IsReport says log r → Has r.sessions t → Has t.groups g → EntriesRise g
  entries_up r t g is h i =
      all-has EntriesRise t.groups g
      (recursion_from_All EntriesRise t.groups
      (all-has (λ (s : SessionReport). All EntriesRise s.groups) r.sessions t (recursion_from_All (λ (s : SessionReport). All EntriesRise s.groups) r.sessions is.in_order.entries) h)) i

  abbrev HasEntry : GroupReport → Type 0
  HasEntry g = g.entries ≢ []

  some_entry : (r : Report) (t : SessionReport) (g : GroupReport) → IsReport says log r → Has r.sessions t → Has t.groups g → (e : Entry) × Has g.entries e
  some_entry r t g is h i =
      some_member g.entries
      (all-has HasEntry t.groups g
      (recursion_from_All HasEntry t.groups
      (all-has (λ (s : SessionReport). All HasEntry s.groups) r.sessions t (recursion_from_All (λ (s : SessionReport). All HasEntry s.groups) r.sessions is.no_empty_group) h)) i)

  state_of : (r : Report) (t : SessionReport) → IsReport says log r → Has r.sessions t → t.state ≡ state_in (joined says (of_session log.blocks t.session))
  state_of r t is h =
      all-has (λ (s : SessionReport). s.state ≡ state_in (joined says (of_session log.blocks s.session))) r.sessions t
      (recursion_from_All (λ (s : SessionReport). s.state ≡ state_in (joined says (of_session log.blocks s.session))) r.sessions is.states) h

  -- an entry of a group of a session in one report is in the other, under the same session and in the same group
  told_too : (r q : Report) (t u : SessionReport) (g : GroupReport) (e : Entry) → IsReport says log r → IsReport says log q → Has r.sessions t → Has q.sessions u → t.session ≡ u.session → Has t.groups g → Has g.entries e
      → (h : GroupReport) × Has u.groups h × (g.group ≡ h.group) × Has h.entries e
  told_too r q t u g e is_r is_q ht hu at hg he =
      let told : Tells r t.session g.group e = record {
        session = t;
        session_told = contains_from_has r.sessions t ht;
        session_is = refl;
        group = g;
        group_told = contains_from_has t.groups g hg;
        group_is = refl;
        entry_told = contains_from_has g.entries e he;
      } in
      let w : Tells q t.session g.group e = (is_q.entries t.session g.group e).1 ((is_r.entries t.session g.group e).0 told) in
      let one : w.session ≡ u = one_of_key session_cmp_total session_cmp_exact whose q.sessions is_q.in_order.sessions w.session u (has_from_contains q.sessions w.session w.session_told) hu (w.session_is ∙ at) in (
        w.group,
        subst (λ (s : SessionReport). Has s.groups w.group) one (has_from_contains w.session.groups w.group w.group_told),
        sym w.group_is,
        has_from_contains w.group.entries e w.entry_told,
      )

  has-entry : (r q : Report) (t u : SessionReport) (g h : GroupReport) → IsReport says log r → IsReport says log q → Has r.sessions t → Has q.sessions u → t.session ≡ u.session → Has t.groups g → Has u.groups h → g.group ≡ h.group → (e : Entry) → Has g.entries e → Has h.entries e
  has-entry r q t u g h is_r is_q ht hu at hg hh in_group e he =
      let w = told_too r q t u g e is_r is_q ht hu at hg he in
      let one : w.0 ≡ h = one_of_key group_cmp_total group_cmp_exact (λ (x : GroupReport). x.group) u.groups (groups_up q u is_q hu) w.0 h w.1 hh (sym w.2 ∙ in_group) in
      subst (λ (x : GroupReport). Has x.entries e) one w.3

  has-group : (r q : Report) (t u : SessionReport) → IsReport says log r → IsReport says log q → Has r.sessions t → Has q.sessions u → t.session ≡ u.session → (g : GroupReport) → Has t.groups g → Has u.groups g
  has-group r q t u is_r is_q ht hu at g hg =
      let some = some_entry r t g is_r ht hg in
      let w = told_too r q t u g some.0 is_r is_q ht hu at hg some.1 in
      let entries : w.0.entries ≡ g.entries
      = same_keyed nat_cmp_total first_number w.0.entries g.entries (entries_up q u w.0 is_q hu w.1) (entries_up r t g is_r ht hg)
      (has-entry q r u t w.0 g is_q is_r hu ht (sym at) w.1 hg (sym w.2)) (has-entry r q t u g w.0 is_r is_q ht hu at hg w.1 w.2) in
      let same : w.0 ≡ g = λ i. record { group = sym w.2 i; entries = entries i } in
      subst (Has u.groups) same w.1

  has-session : (r q : Report) → IsReport says log r → IsReport says log q → (t : SessionReport) → Has r.sessions t → Has q.sessions t
  has-session r q is_r is_q t ht =
      let w = (is_q.sessions t.session).1 ((is_r.sessions t.session).0 (t, contains_from_has r.sessions t ht, refl)) in
      let u = w.0 in
      let hu = has_from_contains q.sessions u w.1 in
      let state : u.state ≡ t.state = state_of q u is_q hu ∙ ap (λ s. state_in (joined says (of_session log.blocks s))) w.2 ∙ sym (state_of r t is_r ht) in
      let groups : u.groups ≡ t.groups
      = same_keyed group_cmp_total (λ (x : GroupReport). x.group) u.groups t.groups (groups_up q u is_q hu) (groups_up r t is_r ht)
      (has-group q r u t is_q is_r hu ht w.2) (has-group r q t u is_r is_q ht hu (sym w.2)) in
      let same : u ≡ t = λ i. record { session = w.2 i; state = state i; groups = groups i } in
      subst (Has q.sessions) same hu

  pub same_report : (r q : Report) → IsReport says log r → IsReport says log q → r ≡ q
  same_report r q is_r is_q =
      λ i. record {
        sessions = same_keyed session_cmp_total whose r.sessions q.sessions is_r.in_order.sessions is_q.in_order.sessions (has-session r q is_r is_q) (has-session q r is_q is_r) i;
        unlisted = same_members nat_cmp_total r.unlisted q.unlisted is_r.in_order.unlisted is_q.in_order.unlisted
            (λ p h. has_from_contains q.unlisted p ((is_q.unlisted p).1 ((is_r.unlisted p).0 (contains_from_has r.unlisted p h))))
            (λ p h. has_from_contains r.unlisted p ((is_r.unlisted p).1 ((is_q.unlisted p).0 (contains_from_has q.unlisted p h)))) i;
        refused = same_members nat_cmp_total r.refused q.refused is_r.in_order.refused is_q.in_order.refused
            (λ p h. has_from_contains q.refused p ((is_q.refused p).1 ((is_r.refused p).0 (contains_from_has r.refused p h))))
            (λ p h. has_from_contains r.refused p ((is_r.refused p).1 ((is_q.refused p).0 (contains_from_has q.refused p h)))) i;
        spoilt = (is_r.spoilt ∙ sym is_q.spoilt) i;
        count = (is_r.count ∙ sym is_q.count) i;
      }
