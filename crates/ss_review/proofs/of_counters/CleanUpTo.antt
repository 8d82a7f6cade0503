-- Where a report is clean and nothing is told as missing, no number and no block below the counters is missing.
use Rattle.std.proofs.Common.{◌≡◌, inl, inr, ℕ, Bool, true, false, ◌&&◌, List, [], subst}
use Rattle.std.specs.Prelude.{Contains}
use Rattle.std.specs.List.{list_all}
use Rattle.std.proofs.lemmas.Bool.{and_parts}
use Rattle.std.proofs.lemmas.List.Elements.{All-contains}
use Rattle.ss_review.specs.declared.counted.missing.MissingRun.{MissingRun}
use Rattle.ss_review.specs.declared.counted.shortfall.GroupTail.{GroupTail}
use Rattle.ss_review.specs.declared.counted.shortfall.Shortfall.{Shortfall}
use Rattle.ss_review.specs.declared.counted.shortfall.LogShortfalls.{LogShortfalls}
use Rattle.ss_review.specs.declared.report.entry.Entry.{Entry}
use Rattle.ss_review.specs.declared.report.entry.Entry.TheVariants as entry
use Rattle.ss_review.specs.declared.report.group_report.GroupReport.{GroupReport}
use Rattle.ss_review.specs.declared.report.report.Report.{Report}
use Rattle.ss_review.specs.declared.report.session_report.SessionReport.{SessionReport}
use Rattle.ss_block.specs.declared.block.Group.{Group}
use Rattle.ss_block.specs.declared.session.Session.{Session}
use Rattle.ss_review.specs.announced.Announced.{Key}
use Rattle.ss_review.specs.counted.KeptLaws as fates
use Rattle.ss_review.specs.counted.KeptLaws.{IsInTail, IsInRunOf, NothingIsMissing, Fate, HasFate, EveryNumberIsTold, EveryBlockIsTold, CleanUpToCounters}
use Rattle.ss_review.specs.report.Meaning.{Tells, IsListed}
use Rattle.ss_review.specs.report.Report.{report}
use Rattle.ss_review.specs.report.Verdict.{is_joined, is_listed, is_none, is_clean}
use Rattle.ss_octets.proofs.Members.{has_from_contains}
use Rattle.ss_review.proofs.of_lists.Tests.{all_member}

-- every entry of a clean report is a listed message
entry_listed : (r : Report) → is_clean r ≡ true → (s : Session) (g : Group) (e : Entry) → Tells r s g e → is_listed e ≡ true
unfolding is_clean
entry_listed r clean s g e t =
    let in_session : SessionReport → Bool = λ x. is_joined x.state && list_all (λ (y : GroupReport). list_all is_listed y.entries) x.groups in
    let in_sessions = list_all in_session r.sessions in
    let most = in_sessions && is_none r.unlisted && is_none r.refused in
    let fewer = in_sessions && is_none r.unlisted in
    let first : in_sessions ≡ true = (and_parts in_sessions (is_none r.unlisted) (and_parts fewer (is_none r.refused) (and_parts most (is_none r.spoilt) clean).0).0).0 in
    let session : in_session t.session ≡ true = all_member in_session r.sessions first t.session (has_from_contains r.sessions t.session t.session_told) in
    let groups = (and_parts (is_joined t.session.state) (list_all (λ (y : GroupReport). list_all is_listed y.entries) t.session.groups) session).1 in
    let group = all_member (λ (y : GroupReport). list_all is_listed y.entries) t.session.groups groups t.group (has_from_contains t.session.groups t.group t.group_told) in
    all_member is_listed t.group.entries group e (has_from_contains t.group.entries e t.entry_told)

module _ (all : LogShortfalls) (nothing : NothingIsMissing all) where
  none_absent : (f : Shortfall) → ¬ Contains all.absent f
  none_absent f c = has_from_contains [] f (subst (λ fs. Contains fs f) nothing.sessions c)

  no_tail : (k : Key) → ¬ IsInTail all k
  no_tail k t =
      elim t.told [
        | inl c ↦ (
            let none : t.shortfall.tails ≡ [] = All-contains (λ (f : Shortfall). f.tails ≡ []) all.known t.shortfall nothing.tails c in
            has_from_contains [] t.tail (subst (λ (ts : List GroupTail). Contains ts t.tail) none t.tail_told))
        | inr c ↦ none_absent t.shortfall c
      ]

  no_run : (s : Session) (gbc : ℕ) → ¬ IsInRunOf all s gbc
  no_run s gbc r =
      elim r.told [
        | inl c ↦ (
            let none : r.shortfall.blocks ≡ [] = All-contains (λ (f : Shortfall). f.blocks ≡ []) all.known r.shortfall nothing.blocks c in
            has_from_contains [] r.run.0 (subst (λ (rs : List MissingRun). Contains rs r.run.0) none r.run.1))
        | inr c ↦ none_absent r.shortfall c
      ]

  module _ (r : Report) (clean : is_clean r ≡ true) where
    is_its_place : (k : Key) (fate : Fate) → HasFate r all k fate → (place : ℕ) × IsListed r k place
    is_its_place k fates.Listed l = l
    is_its_place k fates.Gap g = absurd (let bad : false ≡ true = entry_listed r clean k.session k.group (entry.Gap k.number g.0) g.1 in cc)
    is_its_place k fates.Hole h = absurd (let bad : false ≡ true = entry_listed r clean k.session k.group (entry.Hole h.first h.last) h.told in cc)
    is_its_place k fates.Tail t = absurd (no_tail k t)

pub clean_up_to : EveryNumberIsTold → EveryBlockIsTold → CleanUpToCounters
clean_up_to numbers told says log cs clean nothing = (
  λ k some less. (let w = (numbers says log cs k).0 some less in is_its_place _ nothing (report says log) clean k w.0 w.1),
  λ s gbc less. elim ((told says log cs s gbc).0 less) [ inl c ↦ c | inr r ↦ absurd (no_run _ nothing s gbc r) ],
)
