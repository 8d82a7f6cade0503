-- Which numbers a report lists, and which it tells as gaps.
use Rattle.std.proofs.Common.{◌≡◌, ◌⊎◌, inl, inr, ℕ, ◌+◌, ◌-◌, Bool, true, false, List, [], ◌∷◌, refl, sym, ap, ◌∙◌, subst}
use Rattle.std.specs.Prelude.{◌↔◌, Option, Some, None, nat_lt, if◌then◌else◌}
use Rattle.ss_block.specs.declared.block.Group.{Group}
use Rattle.ss_block.specs.declared.session.Session.{Session}
use Rattle.ss_review.specs.declared.report.entry.Why.{Why}
use Rattle.ss_review.specs.declared.report.entry.Why.TheVariants as whys
use Rattle.ss_review.specs.declared.report.entry.Entry.{Entry}
use Rattle.ss_review.specs.declared.report.entry.Entry.TheVariants as entry
use Rattle.ss_review.specs.declared.keep.message.NormalMessage.{NormalMessage}
use Rattle.ss_review.specs.keep.Contents.{Contents}
use Rattle.ss_review.specs.sessions.Verified.{Answers}
use Rattle.ss_review.specs.announced.Announced.{Key, Row, keys, rows, is_disputed_key}
use Rattle.ss_review.specs.assign.Assigned.{assigned}
use Rattle.ss_review.specs.report.Entries.{group_keys, entry_with, entry_of, greatest_below, hole_between}
use Rattle.ss_review.specs.report.Report.{report_of}
use Rattle.ss_review.specs.announced.Announcing.{IsAnnounced}
use Rattle.ss_review.specs.report.Meaning.{IsListed, IsGap}
use Rattle.ss_review.proofs.of_numbers.Announcements.{announced_key, has-announced_key}
use Rattle.ss_octets.proofs.Members.{Has, has-append_right, has-append_cases}
use Rattle.ss_review.proofs.of_assignment.OnePlaceOneKey.{assigned_cases, wanted_key}
use Rattle.ss_review.proofs.of_reports.Telling.{given, told_by, tells}

-- ---- the parts of an entry

abbrev is_hole : Entry → Type 0
is_hole (entry.Listed n place) = ⊥
is_hole (entry.Gap n why) = ⊥
is_hole (entry.Hole first last) = Unit {0}

abbrev number_in : Entry → ℕ
number_in (entry.Listed n place) = n
number_in (entry.Gap n why) = n
number_in (entry.Hole first last) = first

abbrev place_in : Entry → Option ℕ
place_in (entry.Listed n place) = Some place
place_in (entry.Gap n why) = None
place_in (entry.Hole first last) = None

abbrev why_in : Entry → Why
why_in (entry.Listed n place) = whys.Lost
why_in (entry.Gap n why) = why
why_in (entry.Hole first last) = whys.Lost

hole_at : (b : Bool) (first last : ℕ) (e : Entry) → Has (if b then entry.Hole first last ∷ [] else []) e → (b ≡ true) × (entry.Hole first last ≡ e)
hole_at true first last e (inl i) = (refl, i)
hole_at true first last e (inr i) = absurd i
hole_at false first last e h = absurd h

-- what a key gives is the hole below it, or its entry
pub given_cases : (ms : List NormalMessage) (rs : List Row) (ks : List Key) (k : Key) (e : Entry) → Has (given ms rs ks k) e
    → ((nat_lt (greatest_below ks k.number + 1) k.number ≡ true) × (entry.Hole (greatest_below ks k.number + 1) (k.number - 1) ≡ e)) ⊎ (entry_of ms rs k ≡ e)
given_cases ms rs ks k e h =
    elim (has-append_cases (hole_between (greatest_below ks k.number) k.number) (entry_of ms rs k ∷ []) e h) [
      | inl l ↦ inl (hole_at (nat_lt (greatest_below ks k.number + 1) k.number) (greatest_below ks k.number + 1) (k.number - 1) e l)
      | inr r ↦ (elim r [ inl i ↦ inr i | inr i ↦ absurd i ])
    ]

-- a hole is no entry of a key
own_entry : (ms : List NormalMessage) (rs : List Row) (ks : List Key) (k : Key) (e : Entry) → (is_hole e → ⊥) → Has (given ms rs ks k) e → entry_of ms rs k ≡ e
own_entry ms rs ks k e other h =
    elim (given_cases ms rs ks k e h) [
      | inl l ↦ absurd (other (subst is_hole l.1 tt))
      | inr i ↦ i
    ]

abbrev why_with : List Row → Key → Why
why_with rs k = if is_disputed_key rs k then whys.Disputed else whys.Lost

entry_parts : (rs : List Row) (k : Key) (o : Option ℕ) → (number_in (entry_with rs k o) ≡ k.number) × (place_in (entry_with rs k o) ≡ o)
entry_parts rs k (Some place) = (refl, refl)
entry_parts rs k None = (refl, refl)

pub entry_number : (ms : List NormalMessage) (rs : List Row) (k : Key) (e : Entry) → entry_of ms rs k ≡ e → number_in e ≡ k.number
entry_number ms rs k e i = ap number_in (sym i) ∙ (entry_parts rs k (assigned ms rs k)).0

entry_place : (ms : List NormalMessage) (rs : List Row) (k : Key) (e : Entry) → entry_of ms rs k ≡ e → assigned ms rs k ≡ place_in e
entry_place ms rs k e i = sym (entry_parts rs k (assigned ms rs k)).1 ∙ ap place_in i

gap_why : (rs : List Row) (k : Key) (n : ℕ) (why : Why) (o : Option ℕ) → o ≡ None → entry_with rs k o ≡ entry.Gap n why → why_with rs k ≡ why
gap_why rs k n why None e i = ap why_in i
gap_why rs k n why (Some place) e i = absurd (cc)

pub key_of : (k : Key) (s : Session) (g : Group) (n : ℕ) → k.session ≡ s → k.group ≡ g → n ≡ k.number → k ≡ record { session = s; group = g; number = n }
key_of k s g n p q r = λ i. record { session = p i; group = q i; number = sym r i }

module _ (says : Answers) (log : Contents) where
  abbrev all_rows : List Row
  all_rows = rows says log.blocks

  -- ---- what is listed

  pub listed_assigned : (k : Key) (place : ℕ) → IsListed (report_of says log) k place → assigned log.normal all_rows k ≡ Some place
  listed_assigned k place t =
      let w = told_by says log k.session k.group (entry.Listed k.number place) t in
      let own = own_entry log.normal all_rows (group_keys all_rows k.session k.group) w.0 (entry.Listed k.number place) (λ h. h) w.4 in
      let one : w.0 ≡ k = key_of w.0 k.session k.group k.number w.2 w.3 (entry_number log.normal all_rows w.0 (entry.Listed k.number place) own) in
      ap (assigned log.normal all_rows) (sym one) ∙ entry_place log.normal all_rows w.0 (entry.Listed k.number place) own

  has_own : (k : Key) (e : Entry) → entry_of log.normal all_rows k ≡ e → Has (given log.normal all_rows (group_keys all_rows k.session k.group) k) e
  has_own k e i = has-append_right (hole_between (greatest_below (group_keys all_rows k.session k.group) k.number) k.number) (entry_of log.normal all_rows k ∷ []) e (inl i)

  pub assigned_listed : (k : Key) (place : ℕ) → assigned log.normal all_rows k ≡ Some place → IsListed (report_of says log) k place
  assigned_listed k place e =
      let a = assigned_cases log.normal all_rows k place e in
      tells says log k (entry.Listed k.number place) (wanted_key log.normal all_rows k a.0 a.1) (has_own k (entry.Listed k.number place) (ap (entry_with all_rows k) e))

  -- ---- what is a gap

  pub gap_told : (k : Key) (why : Why) → IsGap (report_of says log) k why → Has (keys all_rows) k × (assigned log.normal all_rows k ≡ None) × (why_with all_rows k ≡ why)
  gap_told k why t =
      let w = told_by says log k.session k.group (entry.Gap k.number why) t in
      let own = own_entry log.normal all_rows (group_keys all_rows k.session k.group) w.0 (entry.Gap k.number why) (λ h. h) w.4 in
      let one : w.0 ≡ k = key_of w.0 k.session k.group k.number w.2 w.3 (entry_number log.normal all_rows w.0 (entry.Gap k.number why) own) in
      let unassigned : assigned log.normal all_rows w.0 ≡ None = entry_place log.normal all_rows w.0 (entry.Gap k.number why) own in (
        subst (Has (keys all_rows)) one w.1,
        ap (assigned log.normal all_rows) (sym one) ∙ unassigned,
        ap (why_with all_rows) (sym one) ∙ gap_why all_rows w.0 k.number why (assigned log.normal all_rows w.0) unassigned own,
      )

  pub tells_gap : (k : Key) → Has (keys all_rows) k → assigned log.normal all_rows k ≡ None → IsGap (report_of says log) k (why_with all_rows k)
  tells_gap k h e = tells says log k (entry.Gap k.number (why_with all_rows k)) h (has_own k (entry.Gap k.number (why_with all_rows k)) (ap (entry_with all_rows k) e))

  none_or_some : (o : Option ℕ) → ((place : ℕ) → ¬ (o ≡ Some place)) → o ≡ None
  none_or_some None n = refl
  none_or_some (Some place) n = absurd (n place refl)

  pub gaps_are : (k : Key) → ((why : Why) × IsGap (report_of says log) k why) ↔ (IsAnnounced says log.blocks k × ((place : ℕ) → ¬ (assigned log.normal all_rows k ≡ Some place)))
  gaps_are k = (
    λ t. (let g = gap_told k t.0 t.1 in (announced_key says log.blocks k g.0, λ place e. (let bad : None ≡ Some place = sym g.1 ∙ e in cc))),
    λ a. (why_with all_rows k, tells_gap k (has-announced_key says log.blocks k a.0) (none_or_some (assigned log.normal all_rows k) a.1)),
  )
