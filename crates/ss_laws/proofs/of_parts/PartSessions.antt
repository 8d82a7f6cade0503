-- A part reports the same of a session as the whole.
use Rattle.std.proofs.Common.{◌≡◌, ℕ, true, cond, List, [], ◌∷◌, ◌++◌, map, refl, sym, ap, ◌∙◌, subst}
use Rattle.std.specs.Prelude.{Option, Some, None}
use Rattle.std.specs.List.{flat_map}
use Rattle.ss_block.specs.declared.block.Group.{Group}
use Rattle.ss_block.specs.declared.session.Session.{Session}
use Rattle.ss_review.specs.declared.report.entry.Why.TheVariants as whys
use Rattle.ss_review.specs.declared.report.entry.Entry.TheVariants as entry
use Rattle.ss_review.specs.declared.keep.message.NormalMessage.{NormalMessage}
use Rattle.ss_review.specs.keep.BlockMessage.{BlockMessage}
use Rattle.ss_review.specs.keep.Contents.{Contents}
use Rattle.ss_review.specs.sessions.Verified.{Answers, state_in}
use Rattle.ss_review.specs.announced.Announced.{Key, Row, is_disputed_key}
use Rattle.ss_review.specs.assign.Assigned.{has_hash, places_with, rank, assigned, is_taken}
use Rattle.ss_review.specs.report.Entries.{group_keys, entry_with, entry_of, greatest_below, hole_between, entries}
use Rattle.ss_review.specs.report.Report.{groups, group_report, session_report}
use Rattle.ss_laws.specs.parts.Parts.{normals_of, part_of, SessionsStayWhole, AnnouncedStayWithBlocks}
use Rattle.ss_octets.proofs.Members.{Has, contains_from_has}
use Rattle.ss_review.proofs.of_lists.FilteredAlike.{one_test, flat_map_agree}
use Rattle.ss_review.proofs.of_lists.Keyed.{has-slice_get}
use Rattle.ss_review.proofs.of_reports.Leftovers.{taken_by, takes}
use Rattle.ss_review.proofs.of_assignment.OnePlaceOneKey.{wanted_key, assigned_cases, from_has-places_with}
use Rattle.ss_laws.proofs.of_parts.PartAssigned.{from_own_message, wants_one, same_assigned}
use Rattle.ss_laws.proofs.of_parts.PartBlocks.{IsOwn, own_joined, announced_down, announced_own}
use Rattle.ss_laws.proofs.of_parts.PartKeys.{all_rows, own_rows, key_own, same_groups, same_group_keys, same_dispute}
use Rattle.ss_review.proofs.of_lists.Sections.{map_agree}
use Rattle.ss_review.proofs.of_reports.Telling.{from_has-group_keys}

entry_alike : (rs os : List Row) (j : Key) (o : Option ℕ) → is_disputed_key os j ≡ is_disputed_key rs j → entry_with os j o ≡ entry_with rs j o
entry_alike rs os j None e = λ i. entry.Gap j.number (cond (e i) whys.Disputed whys.Lost)
entry_alike rs os j (Some place) e = refl

module _ (part : ℕ → ℕ) (log : Contents) (k : ℕ) (whole : SessionsStayWhole part log.blocks) (says : Answers) (stay : AnnouncedStayWithBlocks says part log) where
  abbrev bs : List BlockMessage
  bs = log.blocks

  abbrev ms : List NormalMessage
  ms = log.normal

  abbrev ns : List NormalMessage
  ns = normals_of part k log.normal

  abbrev rs : List Row
  rs = all_rows part bs k whole says

  abbrev os : List Row
  os = own_rows part bs k whole says

  -- ---- entries

  pub same_entry : (j : Key) → IsOwn part bs k j.session → entry_of ns os j ≡ entry_of ms rs j
  same_entry j i =
      ap (entry_with os j) (same_assigned part log k whole says stay j i)
      ∙ entry_alike rs os j (assigned ms rs j) (same_dispute part bs k whole says j i)

  same_entries : (s : Session) (g : Group) → IsOwn part bs k s → entries ns os (group_keys os s g) ≡ entries ms rs (group_keys rs s g)
  unfolding entries
  same_entries s g i =
      ap (λ js. flat_map (λ j. hole_between (greatest_below js j.number) j.number ++ entry_of ns os j ∷ []) js) (same_group_keys part bs k whole says s g i)
      ∙ flat_map_agree
      (λ j. hole_between (greatest_below (group_keys rs s g) j.number) j.number ++ entry_of ns os j ∷ [])
      (λ j. hole_between (greatest_below (group_keys rs s g) j.number) j.number ++ entry_of ms rs j ∷ [])
      (group_keys rs s g)
      (λ j h. ap (λ e. hole_between (greatest_below (group_keys rs s g) j.number) j.number ++ e ∷ [])
      (same_entry j (subst (IsOwn part bs k) (sym (from_has-group_keys rs s g j h).1) i)))

  pub same_group_report : (s : Session) (g : Group) → IsOwn part bs k s → group_report ns os s g ≡ group_report ms rs s g
  same_group_report s g i = λ x. record { group = g; entries = same_entries s g i x }

  pub same_session_report : (s : Session) → IsOwn part bs k s → session_report says (part_of part k log) os s ≡ session_report says log rs s
  same_session_report s i = λ x. record {
    session = s;
    state = state_in (own_joined part bs k whole says s i x);
    groups = groups_told x;
  }
    where
      groups_told : map (group_report ns os s) (groups os s) ≡ map (group_report ms rs s) (groups rs s)
      groups_told =
          ap (map (group_report ns os s)) (same_groups part bs k whole says s i)
          ∙ map_agree (group_report ns os s) (group_report ms rs s) (groups rs s) (λ g h. same_group_report s g i)

  -- ---- messages that are taken

  pub same_taken : (m : NormalMessage) → Has ns m → is_taken ns os m.place ≡ is_taken ms rs m.place
  same_taken m h = one_test (is_taken ns os m.place) (is_taken ms rs m.place) there back
    where
      there : is_taken ns os m.place ≡ true → is_taken ms rs m.place ≡ true
      there t =
          let w = taken_by ns os m.place t in
          let a = assigned_cases ns os w.0 m.place w.1 in
          let i = key_own part bs k whole says w.0 (wanted_key ns os w.0 a.0 a.1) in
          takes ms rs w.0 m.place (sym (same_assigned part log k whole says stay w.0 i) ∙ w.1)

      back : is_taken ms rs m.place ≡ true → is_taken ns os m.place ≡ true
      back t =
          let w = taken_by ms rs m.place t in
          let a = assigned_cases ms rs w.0 m.place w.1 in
          let n = from_has-places_with ms rs a.0 m.place (has-slice_get (places_with ms a.0) (rank ms rs w.0 a.0) m.place a.2) in
          let v = wants_one part log k whole says stay w.0 a.0 a.1 in
          let at : part v.announced.message.place ≡ k
          = sym (stay n.0 w.0 v.hash v.announced (contains_from_has ms n.0 n.1) (ap (has_hash v.hash) n.2 ∙ v.has)) ∙ ap part n.3 ∙ (from_own_message part log k whole says stay m h).1 in
          let i = announced_own part bs k whole says w.0 v.hash (announced_down part bs k whole says w.0 v.hash v.announced at) in
          takes ns os w.0 m.place (same_assigned part log k whole says stay w.0 i ∙ w.1)
