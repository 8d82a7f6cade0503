-- Whether a report is clean does not depend on places.
use Rattle.std.proofs.Common.{◌≡◌, ℕ, Bool, ◌&&◌, List, [], ◌∷◌, map, refl, ap, ◌∙◌}
use Rattle.std.specs.List.{list_all}
use Rattle.ss_review.specs.declared.report.entry.Entry.{Entry}
use Rattle.ss_review.specs.declared.report.entry.Entry.TheVariants as entry
use Rattle.ss_review.specs.declared.report.group_report.GroupReport.{GroupReport}
use Rattle.ss_review.specs.declared.report.session_report.SessionReport.{SessionReport}
use Rattle.ss_review.specs.declared.report.report.Report.{Report}
use Rattle.ss_laws.specs.parts.Parts.{moved_entry, moved_group, moved_session, moved_spoilt, moved}
use Rattle.ss_review.specs.report.Verdict.{is_joined, is_listed, is_none, is_clean}

list_all-map : {X Y : Type 0} (p : Y → Bool) (g : X → Y) (xs : List X) → list_all p (map g xs) ≡ list_all (λ x. p (g x)) xs
list_all-map p g [] = refl
list_all-map p g (x ∷ xs) = ap (λ b. p (g x) && b) (list_all-map p g xs)

is_none-map : {X Y : Type 0} (g : X → Y) (xs : List X) → is_none (map g xs) ≡ is_none xs
is_none-map g [] = refl
is_none-map g (x ∷ xs) = refl

module _ (f : ℕ → ℕ) where
  entry_listed : (e : Entry) → is_listed (moved_entry f e) ≡ is_listed e
  entry_listed (entry.Listed number place) = refl
  entry_listed (entry.Gap number why) = refl
  entry_listed (entry.Hole first last) = refl

  abbrev is_listed_group : GroupReport → Bool
  is_listed_group g = list_all is_listed g.entries

  group_listed : (g : GroupReport) → is_listed_group (moved_group f g) ≡ is_listed_group g
  group_listed g = list_all-map is_listed (moved_entry f) g.entries ∙ (λ i. list_all (λ e. entry_listed e i) g.entries)

  abbrev is_clean_session : SessionReport → Bool
  is_clean_session s = is_joined s.state && list_all is_listed_group s.groups

  session_clean : (s : SessionReport) → is_clean_session (moved_session f s) ≡ is_clean_session s
  session_clean s =
      ap (λ b. is_joined s.state && b) (list_all-map is_listed_group (moved_group f) s.groups ∙ (λ i. list_all (λ g. group_listed g i) s.groups))

  pub clean_moved : (r : Report) → is_clean (moved f r) ≡ is_clean r
  unfolding is_clean
  clean_moved r =
      let told : list_all is_clean_session (map (moved_session f) r.sessions) ≡ list_all is_clean_session r.sessions
      = list_all-map is_clean_session (moved_session f) r.sessions ∙ (λ i. list_all (λ s. session_clean s i) r.sessions) in
      λ i. told i && is_none-map f r.unlisted i && is_none-map f r.refused i && is_none-map (moved_spoilt f) r.spoilt i
