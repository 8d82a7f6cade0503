-- What a search finds among what lies below counters.
use Rattle.std.proofs.Common.{◌≡◌, ℕ, ◌+◌, ◌<◌, false, List, length, get_or, map, fold, refl, sym, ap, ◌∙◌, arith}
use Rattle.std.specs.Prelude.{max, Contains}
use Rattle.std.specs.declared.cmp.Ordering.TheVariants.{Less, Equal, Greater}
use Rattle.std.specs.Ordering.{is_eq, ordering_index, ordering_reverse}
use Rattle.std.specs.List.{list_any}
use Rattle.std.specs.List.Sorted.{IsStrictlySortedBy, IsNonDecreasingBy, IsPartitionPoint}
use Rattle.ss_block.specs.declared.block.Group.{Group}
use Rattle.ss_block.specs.declared.session.Session.{Session}
use Rattle.ss_block.specs.Order.{session_cmp, group_cmp}
use Rattle.ss_block.specs.OrderLaws.{session_cmp_total, session_cmp_exact, group_cmp_total, group_cmp_exact}
use Rattle.ss_review.specs.declared.counted.shortfall.GroupTail.{GroupTail}
use Rattle.ss_review.specs.declared.counted.shortfall.Shortfall.{Shortfall}
use Rattle.ss_review.specs.sessions.Sessions.{same_session}
use Rattle.ss_review.specs.report.Entries.{same_group}
use Rattle.ss_between.specs.Bounds.{number_past}
use Rattle.ss_octets.proofs.Members.{Has, from_has-map}
use Rattle.ss_review.proofs.of_lists.Lookups.{any_none, found_alone, found_nowhere}
use Rattle.ss_review.proofs.of_lists.Rising.{all_below}
use Rattle.ss_review.proofs.of_lists.Sections.{keeps_none}

abbrev of : Shortfall → Session
of f = f.session

turned : (a b : Session) → same_session a b ≡ same_session b a
turned a b = ap is_eq (session_cmp_total.antisymm a b) ∙ reversed_eq _
  where
    reversed_eq : (c : _) → is_eq (ordering_reverse c) ≡ is_eq c
    reversed_eq Less = refl
    reversed_eq Equal = refl
    reversed_eq Greater = refl

module _ (s : Session) (fs : List Shortfall) where
  pub found : (i : ℕ) (d : Shortfall) → i < length fs → d ≡ get_or fs i d → session_cmp (get_or fs i d).session s ≡ Equal → Contains fs d × (d.session ≡ s)
  found i d below e tie = ((i, below, sym e), ap of e ∙ session_cmp_exact (get_or fs i d).session s tie)

  pub not_found : (i : ℕ) → IsStrictlySortedBy session_cmp (map of fs)
      → (IsNonDecreasingBy (λ f. ordering_index (session_cmp (of f) s)) fs → IsPartitionPoint (λ f. session_cmp (of f) s ≡ Less) (λ f. session_cmp (of f) s ≡ Greater) fs i)
      → list_any (same_session s) (map of fs) ≡ false
  not_found i up parted =
      any_none (same_session s) (map of fs) (λ t h.
      (let w : (f : Shortfall) × Has fs f × (of f ≡ t) = from_has-map of fs t h in
      ap (same_session s) (sym w.2) ∙ turned s (of w.0) ∙ found_nowhere session_cmp_total session_cmp_exact of s fs i up parted w.0 w.1))

abbrev of_tail : GroupTail → Group
of_tail t = t.group

abbrev past : GroupTail → ℕ
past t = t.last + 1

module _ (g : Group) (ts : List GroupTail) (up : IsStrictlySortedBy group_cmp (map of_tail ts)) where
  pub past_found : (i : ℕ) (d : GroupTail) → i < length ts → group_cmp (get_or ts i d).group g ≡ Equal → (get_or ts i d).last + 1 ≡ number_past ts g
  past_found i d below tie =
      let alone = ap (λ xs. fold max 1 (map past xs)) (found_alone group_cmp_total group_cmp_exact of_tail g ts i d up below tie) in
      omega (arith, alone)

  pub past_none : (i : ℕ)
      → (IsNonDecreasingBy (λ t. ordering_index (group_cmp (of_tail t) g)) ts → IsPartitionPoint (λ t. group_cmp (of_tail t) g ≡ Less) (λ t. group_cmp (of_tail t) g ≡ Greater) ts i)
      → 1 ≡ number_past ts g
  past_none i parted =
      sym (ap (λ xs. fold max 1 (map past xs))
      (keeps_none (λ (t : GroupTail). same_group t.group g) ts (all_below (λ (t : GroupTail). same_group t.group g ≡ false) ts (found_nowhere group_cmp_total group_cmp_exact of_tail g ts i up parted))))
