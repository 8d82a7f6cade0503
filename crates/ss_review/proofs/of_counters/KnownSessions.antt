-- Which sessions have a report, and what is missing of one more session.
use Rattle.std.proofs.Common.{◌≡◌, ℕ, ◌+◌, ◌<◌, ◌≤◌, Bool, true, false, cond, not, List, [], ◌∷◌, ◌++◌, length, get_or, take, map, Bor, refl, sym, ap, ◌∙◌, arith}
use Rattle.std.specs.Prelude.{min}
use Rattle.std.specs.declared.cmp.Ordering.TheVariants.{Less, Equal, Greater}
use Rattle.std.specs.Ordering.{is_eq, nat_cmp, ordering_index, ordering_reverse}
use Rattle.std.specs.List.{zip, list_any}
use Rattle.std.specs.List.Sorted.{IsStrictlySortedBy, IsNonDecreasingBy, IsPartitionPoint}
use Rattle.std.proofs.lemmas.List.{map_more, map-append, take_all, get_or_default}
use Rattle.std.proofs.lemmas.List.Elements.{All-contains, All-from_recursion, filter-append}
use Rattle.std.proofs.lemmas.Slice.Zip.{length-zip, get_or-zip}
use Rattle.ss_block.specs.declared.session.Session.{Session}
use Rattle.ss_block.specs.Order.{session_cmp}
use Rattle.ss_block.specs.OrderLaws.{session_cmp_total, session_cmp_exact}
use Rattle.ss_block.specs.Ranges.{past_last_number}
use Rattle.ss_review.specs.declared.counted.counted_session.CountedSession.{CountedSession}
use Rattle.ss_review.specs.declared.counted.shortfall.Shortfall.{Shortfall}
use Rattle.ss_review.specs.declared.report.group_report.GroupReport.{GroupReport}
use Rattle.ss_review.specs.declared.report.session_report.SessionReport.{SessionReport}
use Rattle.ss_review.specs.counted.Counted.{next_number}
use Rattle.ss_review.specs.counted.CountedLaws.{IsInRange}
use Rattle.ss_review.specs.sessions.Sessions.{same_session}
use Rattle.ss_review.specs.counted.Kept.{absent_among, AreGroups, AreReviewed}
use Rattle.ss_octets.proofs.Members.{Has, has-map, has_from_contains, from_has-map}
use Rattle.ss_review.proofs.of_lists.Lookups.{any_none, found_nowhere}
use Rattle.ss_review.proofs.of_lists.Tests.{member_any}

abbrev of : SessionReport → Session
of r = r.session

-- ---- whether a session has a report

turned : (a b : Session) → same_session a b ≡ same_session b a
turned a b = ap is_eq (session_cmp_total.antisymm a b) ∙ reversed_eq _
  where
    reversed_eq : (c : _) → is_eq (ordering_reverse c) ≡ is_eq c
    reversed_eq Less = refl
    reversed_eq Equal = refl
    reversed_eq Greater = refl

module _ (s : Session) (rs : List SessionReport) where
  pub known : (i : ℕ) (d : SessionReport) → i < length rs → session_cmp (get_or rs i d).session s ≡ Equal → true ≡ list_any (same_session s) (map of rs)
  known i d below tie =
      let r = get_or rs i d in
      sym (member_any (same_session s) (map of rs) r.session (has-of r (has_from_contains rs r (i, below, get_or_default rs i r d below))) (turned s r.session ∙ ap is_eq tie))
    where
      has-of : (r : SessionReport) → Has rs r → Has (map of rs) r.session
      has-of r h = has-map of rs r h

  pub unknown : (i : ℕ) → IsStrictlySortedBy session_cmp (map of rs)
      → (IsNonDecreasingBy (λ r. ordering_index (session_cmp (of r) s)) rs → IsPartitionPoint (λ r. session_cmp (of r) s ≡ Less) (λ r. session_cmp (of r) s ≡ Greater) rs i)
      → false ≡ list_any (same_session s) (map of rs)
  unknown i up parted =
      sym (any_none (same_session s) (map of rs) (λ t h.
      (let w : (r : SessionReport) × Has rs r × (of r ≡ t) = from_has-map of rs t h in
      ap (same_session s) (sym w.2) ∙ turned s (of w.0) ∙ found_nowhere session_cmp_total session_cmp_exact of s rs i up parted w.0 w.1)))

-- ---- one session of the report more

module _ (ss : List SessionReport) (qs : List CountedSession) where
  pub groups_are : AreReviewed ss qs → (n : ℕ) (s : SessionReport) → n < length ss → s ≡ get_or ss n s → AreGroups s.groups
  groups_are are n s below e = All-contains (λ (r : SessionReport). AreGroups r.groups) ss s are.groups (n, below, sym e)

  pub range_is : AreReviewed ss qs → (n : ℕ) (q : CountedSession) → n < length qs → q ≡ get_or qs n q → IsInRange q
  range_is are n q below e = All-contains IsInRange qs q are.gbcs (n, below, sym e)

  pub known_more : (F : SessionReport × CountedSession → Shortfall) (n m : ℕ) (s : SessionReport) (q : CountedSession) → n < length ss → n < length qs → m ≡ n + 1 → s ≡ get_or ss n s → q ≡ get_or qs n q
      → map F (take m (zip ss qs)) ≡ map F (take n (zip ss qs)) ++ F (s, q) ∷ []
  known_more F n m s q first second next e f =
      ap (λ k. map F (take k (zip ss qs))) next
      ∙ map_more F (zip ss qs) n (s, q) (omega (arith, first, second, length-zip ss qs))
      ∙ ap (λ p. map F (take n (zip ss qs)) ++ F p ∷ []) (get_or-zip ss qs n (s, q) first second ∙ (λ i. (sym e i, sym f i)))

  pub known_all : (n : ℕ) → n ≡ min (length ss) (length qs) → take n (zip ss qs) ≡ zip ss qs
  known_all n e = take_all n (zip ss qs) (omega (arith, e, length-zip ss qs))

-- ---- one session more that may be absent

pub no_groups : AreGroups []
unfolding IsStrictlySortedBy
no_groups = record { rise = tt; within = All-from_recursion (λ (g : GroupReport). next_number g ≤ past_last_number) [] tt }

pub no_values : IsStrictlySortedBy nat_cmp []
unfolding IsStrictlySortedBy
no_values = tt

abbrev to : Bor Session → Session
to s = s.now

module _ (F : Session → Shortfall) (known : List Session) where
  kept_at : (b : Bool) (s : Session) → list_any (same_session s) known ≡ b → absent_among (s ∷ []) known ≡ cond b [] (s ∷ [])
  kept_at true s e = ap (λ b. cond (not b) (s ∷ []) []) e
  kept_at false s e = ap (λ b. cond (not b) (s ∷ []) []) e

  pub absent_more : (kept : List (Bor Session)) (n : ℕ) (s : Bor Session) (b : Bool) → n < length kept → s ≡ get_or kept n s → b ≡ list_any (same_session s.now) known
      → map F (absent_among (map to (take (n + 1) kept)) known) ≡ map F (absent_among (map to (take n kept)) known) ++ map F (cond b [] (s.now ∷ []))
  absent_more kept n s b below e told =
      let p : Session → Bool = λ t. not (list_any (same_session t) known) in
      let so_far = map to (take n kept) in
      ap (λ ts. map F (absent_among ts known)) (map_more to kept n s below ∙ ap (λ (t : Bor Session). so_far ++ t.now ∷ []) (sym e))
      ∙ ap (map F) (filter-append p so_far (s.now ∷ []) ∙ ap (λ ts. absent_among so_far known ++ ts) (kept_at b s.now (sym told)))
      ∙ map-append F (absent_among so_far known) (cond b [] (s.now ∷ []))
