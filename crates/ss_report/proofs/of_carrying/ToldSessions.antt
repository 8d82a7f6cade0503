-- What a binary search among the sessions of a report, or among the groups of one, finds.
use Rattle.std.proofs.Common.{◌≡◌, ℕ, ◌<◌, ◌||◌, true, false, List, [], ◌∷◌, length, get_or, filter, sym, ap, ◌∙◌}
use Rattle.std.specs.Prelude.{flat_map}
use Rattle.std.specs.declared.cmp.Ordering.TheVariants.{Less, Equal, Greater}
use Rattle.std.specs.Ordering.{ordering_index}
use Rattle.std.specs.List.{list_any}
use Rattle.std.specs.List.Sorted.{IsNonDecreasingBy, IsPartitionPoint}
use Rattle.std.proofs.lemmas.List.{append-nil}
use Rattle.ss_block.specs.declared.block.Group.{Group}
use Rattle.ss_block.specs.declared.session.Session.{Session}
use Rattle.ss_block.specs.Order.{session_cmp, group_cmp}
use Rattle.ss_block.specs.OrderLaws.{session_cmp_total, session_cmp_exact, group_cmp_total, group_cmp_exact}
use Rattle.ss_review.specs.declared.report.entry.Entry.{Entry}
use Rattle.ss_review.specs.declared.report.group_report.GroupReport.{GroupReport}
use Rattle.ss_review.specs.declared.report.session_report.SessionReport.{SessionReport}
use Rattle.ss_review.specs.declared.report.report.Report.{Report}
use Rattle.ss_review.specs.report.Entries.{same_group}
use Rattle.ss_review.specs.report.Meaning.{IsInOrder}
use Rattle.ss_review.specs.sessions.Sessions.{same_session}
use Rattle.ss_review.specs.report.Verdict.{is_joined}
use Rattle.ss_review.proofs.of_lists.Lookups.{found_alone, found_nowhere}
use Rattle.ss_review.proofs.of_lists.Rising.{all_below}
use Rattle.ss_review.proofs.of_lists.Sections.{keeps_none}
use Rattle.ss_report.specs.runs.Carrying.{told_of, is_joined_in}
use Rattle.ss_report.specs.runs.CarriedSoFar.{IsToldInOrder, IsToldJoined}

-- ---- the session of a report

module _ (r : Report) (s : Session) (up : IsInOrder r) where
  module _ (i : ℕ) (d : SessionReport) (below : i < length r.sessions) (tie : session_cmp (get_or r.sessions i d).session s ≡ Equal) where
    told : told_of r s ≡ get_or r.sessions i d ∷ []
    told = found_alone session_cmp_total session_cmp_exact (λ (t : SessionReport). t.session) s r.sessions i d up.sessions below tie

    pub told_joined : is_joined (get_or r.sessions i d).state ≡ true → IsToldJoined r s (get_or r.sessions i d)
    told_joined joined = record {
      told = told;
      joined = joined;
      session_is = session_cmp_exact (get_or r.sessions i d).session s tie;
      in_order = record { groups = up.groups i d below; entries = up.entries i d below };
    }

    pub told_unjoined : is_joined (get_or r.sessions i d).state ≡ false → is_joined_in r s ≡ false
    told_unjoined unjoined = ap (list_any (λ (t : SessionReport). is_joined t.state)) told ∙ ap (λ b. b || false) unjoined

  pub told_nowhere : (i : ℕ)
      → (IsNonDecreasingBy (λ (t : SessionReport). ordering_index (session_cmp t.session s)) r.sessions
      → IsPartitionPoint (λ (t : SessionReport). session_cmp t.session s ≡ Less) (λ (t : SessionReport). session_cmp t.session s ≡ Greater) r.sessions i)
      → is_joined_in r s ≡ false
  told_nowhere i parted =
      let none : told_of r s ≡ []
      = keeps_none (λ (t : SessionReport). same_session t.session s) r.sessions
      (all_below (λ (t : SessionReport). same_session t.session s ≡ false) r.sessions (found_nowhere session_cmp_total session_cmp_exact (λ (t : SessionReport). t.session) s r.sessions i up.sessions parted)) in
      ap (list_any (λ (t : SessionReport). is_joined t.state)) none

-- ---- the group of a session

module _ (t : SessionReport) (g : Group) (up : IsToldInOrder t) where
  abbrev entries_told : List Entry
  entries_told = flat_map (λ (h : GroupReport). h.entries) (filter (λ (h : GroupReport). same_group h.group g) t.groups)

  pub group_told : (i : ℕ) (d : GroupReport) → i < length t.groups → group_cmp (get_or t.groups i d).group g ≡ Equal → (get_or t.groups i d).entries ≡ entries_told
  group_told i d below tie =
      sym (ap (flat_map (λ (h : GroupReport). h.entries)) (found_alone group_cmp_total group_cmp_exact (λ (h : GroupReport). h.group) g t.groups i d up.groups below tie)
      ∙ append-nil (get_or t.groups i d).entries)

  pub group_nowhere : (i : ℕ)
      → (IsNonDecreasingBy (λ (h : GroupReport). ordering_index (group_cmp h.group g)) t.groups
      → IsPartitionPoint (λ (h : GroupReport). group_cmp h.group g ≡ Less) (λ (h : GroupReport). group_cmp h.group g ≡ Greater) t.groups i)
      → [] ≡ entries_told
  group_nowhere i parted =
      sym (ap (flat_map (λ (h : GroupReport). h.entries))
      (keeps_none (λ (h : GroupReport). same_group h.group g) t.groups
      (all_below (λ (h : GroupReport). same_group h.group g ≡ false) t.groups (found_nowhere group_cmp_total group_cmp_exact (λ (h : GroupReport). h.group) g t.groups i up.groups parted))))
