-- The places that a report tells as unlisted are those of the messages that no key is assigned, and those that it tells as
-- refused are those of the blocks that aren't verified.
use Rattle.std.proofs.Common.{◌≡◌, ℕ, Bool, true, false, List, filter, refl, sym, ap, ◌∙◌, subst}
use Rattle.std.specs.Prelude.{◌↔◌, Option, Some, None, Contains, not}
use Rattle.std.proofs.lemmas.Bool.{eqb-true, eq-eqb}
use Rattle.ss_review.specs.declared.keep.message.NormalMessage.{NormalMessage}
use Rattle.ss_review.specs.keep.BlockMessage.{BlockMessage}
use Rattle.ss_review.specs.keep.Contents.{Contents}
use Rattle.ss_review.specs.sessions.Verified.{Answers, is_verified}
use Rattle.ss_review.specs.announced.Announced.{Key, Row, keys, rows}
use Rattle.ss_review.specs.assign.Assigned.{is_place, assigned, is_taken}
use Rattle.ss_review.specs.report.Report.{unlisted, refused, report_of}
use Rattle.ss_review.specs.report.Meaning.{IsUnlisted, IsRefused}
use Rattle.ss_octets.proofs.Members.{Has, has_from_contains, contains_from_has, has-map, from_has-map, has-filter, from_has-filter}
use Rattle.ss_review.proofs.of_assignment.OnePlaceOneKey.{assigned_cases, wanted_key}
use Rattle.ss_review.proofs.of_lists.Tests.{any_member, member_any}

-- ---- tests that fail

not_both : (b : Bool) → not b ≡ true → b ≡ true → ⊥
not_both true n e = cc
not_both false n e = cc

not_true : (b : Bool) → (b ≡ true → ⊥) → not b ≡ true
not_true true n = absurd (n refl)
not_true false n = refl

-- ---- places that are taken

is_place_is : (place : ℕ) (o : Option ℕ) → is_place place o ≡ true → o ≡ Some place
is_place_is place None e = absurd (cc)
is_place_is place (Some p) e = let one : p ≡ place = eqb-true p place e in ap (λ (q : ℕ). Some q) one

module _ (ms : List NormalMessage) (rs : List Row) where
  pub taken_by : (place : ℕ) → is_taken ms rs place ≡ true → (k : Key) × (assigned ms rs k ≡ Some place)
  unfolding is_taken
  taken_by place e =
      let w = any_member (λ k. is_place place (assigned ms rs k)) (keys rs) e in
      (w.0, is_place_is place (assigned ms rs w.0) w.2)

  pub takes : (k : Key) (place : ℕ) → assigned ms rs k ≡ Some place → is_taken ms rs place ≡ true
  unfolding is_taken
  takes k place e =
      let a = assigned_cases ms rs k place e in
      member_any (λ j. is_place place (assigned ms rs j)) (keys rs) k (wanted_key ms rs k a.0 a.1) (ap (is_place place) e ∙ eq-eqb place place refl)

module _ (says : Answers) (log : Contents) where
  abbrev log_rows : List Row
  log_rows = rows says log.blocks

  pub unlisted_are : (place : ℕ) → Contains (report_of says log).unlisted place ↔ IsUnlisted says log place
  unfolding report_of
  unlisted_are place = (there, back)
    where
      there : Contains (unlisted log.normal log_rows) place → IsUnlisted says log place
      there c =
          let w = from_has-map (λ (m : NormalMessage). m.place) (filter (λ (m : NormalMessage). not (is_taken log.normal log_rows m.place)) log.normal) place (has_from_contains (unlisted log.normal log_rows) place c) in
          let f = from_has-filter (λ (m : NormalMessage). not (is_taken log.normal log_rows m.place)) log.normal w.0 w.1 in
          ((w.0, contains_from_has log.normal w.0 f.0, w.2), λ k e. not_both (is_taken log.normal log_rows w.0.place) f.1 (takes log.normal log_rows k w.0.place (e ∙ ap (λ (q : ℕ). Some q) (sym w.2))))

      back : IsUnlisted says log place → Contains (unlisted log.normal log_rows) place
      back u =
          let m = u.0.0 in
          let untaken : not (is_taken log.normal log_rows m.place) ≡ true
          = not_true (is_taken log.normal log_rows m.place) (λ t. (let k = taken_by log.normal log_rows m.place t in u.1 k.0 (k.1 ∙ ap (λ (q : ℕ). Some q) u.0.2))) in
          contains_from_has (unlisted log.normal log_rows) place
          (subst (Has (unlisted log.normal log_rows)) u.0.2
          (has-map (λ (n : NormalMessage). n.place) (filter (λ (n : NormalMessage). not (is_taken log.normal log_rows n.place)) log.normal) m
          (has-filter (λ (n : NormalMessage). not (is_taken log.normal log_rows n.place)) log.normal m (has_from_contains log.normal m u.0.1) untaken)))

  pub refused_are : (place : ℕ) → Contains (report_of says log).refused place ↔ IsRefused says log place
  unfolding report_of
  refused_are place = (there, back)
    where
      there : Contains (refused says log.blocks) place → IsRefused says log place
      there c =
          let w = from_has-map (λ (b : BlockMessage). b.place) (filter (λ (b : BlockMessage). not (is_verified says log.blocks b)) log.blocks) place (has_from_contains (refused says log.blocks) place c) in
          let f = from_has-filter (λ (b : BlockMessage). not (is_verified says log.blocks b)) log.blocks w.0 w.1 in
          (w.0, contains_from_has log.blocks w.0 f.0, w.2, not_both (is_verified says log.blocks w.0) f.1)

      back : IsRefused says log place → Contains (refused says log.blocks) place
      back u =
          contains_from_has (refused says log.blocks) place
          (subst (Has (refused says log.blocks)) u.2
          (has-map (λ (b : BlockMessage). b.place) (filter (λ (b : BlockMessage). not (is_verified says log.blocks b)) log.blocks) u.0
          (has-filter (λ (b : BlockMessage). not (is_verified says log.blocks b)) log.blocks u.0 (has_from_contains log.blocks u.0 u.1) (not_true (is_verified says log.blocks u.0) u.3))))
