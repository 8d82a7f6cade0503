-- What small nights ask, and which schemes answer it alike.
use Rattle.std.proofs.Common.{◌≡◌, inl, inr, ℕ, zero, suc, ◌<◌, ◌≤◌, true, false, List, [], ◌∷◌, refl, sym, ◌∙◌, subst, arith}
use Rattle.std.specs.Prelude.{Contains}
use Rattle.std.proofs.lemmas.Bool.{true≢false}
use Rattle.std.specs.List.Sorted.{IsStrictlySortedBy}
use Rattle.ss_block.specs.PayloadReading.{stamp_in, stamp_and_rest_in, blob_in, payload_in}
use Rattle.ss_octets.specs.Cut.{parts_at}
use Rattle.ss_report.specs.runs.Carrying.{carried_by}
use Rattle.ss_review.specs.declared.questions.question.Question.{Question}
use Rattle.ss_review.specs.declared.questions.question.Question.TheVariants as question
use Rattle.ss_review.specs.Ordered.{in_order}
use Rattle.ss_review.specs.announced.Announced.{rows, keys}
use Rattle.ss_review.specs.assign.Assigned.{pair_of_bearer, places_with, wanted, rank, assigned, is_taken}
use Rattle.ss_review.specs.questions.Questions.{questions, answer}
use Rattle.ss_review.specs.report.Entries.{group_keys, entries}
use Rattle.ss_review.specs.report.Report.{report_of}
use Rattle.ss_review.specs.report.Rows.{yes, for_certificates}
use Rattle.ss_review.specs.sessions.Payloads.{is_disputed, cover, joined_text, stated_payload}
use Rattle.ss_review.specs.sessions.Verified.{Answers, joined, is_verified}
use Rattle.ss_octets.proofs.Members.{Has, has_from_contains, contains_from_has}
use Rattle.ss_laws.specs.carry.Nights.{night_log, LeavesEnough}
use Rattle.ss_laws.specs.carry.cases.NightRows.{each_its_own}
use Rattle.ss_laws.proofs.of_carry.cases.EachItsOwn.{its_own_leave}
use Rattle.ss_laws.proofs.of_carry.ToldApart.{AreApart}
use Rattle.ss_laws.specs.carry.cases.CounterRows.{cut_at}
use Rattle.ss_laws.specs.carry.OwnAnswers.{AgreeOn, AgreeOnNights, LeaveEnoughByOwn}
use Rattle.ss_laws.specs.carry.cases.OwnRows.{one_payload, two_kinds, answered, unanswered, left_out}
use Rattle.ss_laws.proofs.of_carry.AlikeAnswers.{enough_alike}
use Rattle.ss_laws.proofs.of_carry.cases.SmallNights.{small_apart, carried_leave}

abbrev text : List ℕ
text = 45 ∷ 32 ∷ 78 ∷ []

-- about a certificate block and a signature block
abbrev asked_about_two : List Question
asked_about_two = question.Trust text ∷ question.Yes text (1 ∷ []) (0 ∷ []) ∷ question.Yes text (2 ∷ []) (0 ∷ []) ∷ []

abbrev Alike : Answers → Type 0
Alike own = (q : Question) → Has asked_about_two q → answer yes q ≡ answer own q

one_payload_alike : Alike one_payload
one_payload_alike q (inl e) = subst (λ (p : Question). answer yes p ≡ answer one_payload p) e refl
one_payload_alike q (inr (inl e)) = subst (λ (p : Question). answer yes p ≡ answer one_payload p) e refl
one_payload_alike q (inr (inr (inl e))) = subst (λ (p : Question). answer yes p ≡ answer one_payload p) e refl
one_payload_alike q (inr (inr (inr h))) = absurd h

two_kinds_alike : Alike two_kinds
two_kinds_alike q (inl e) = subst (λ (p : Question). answer yes p ≡ answer two_kinds p) e refl
two_kinds_alike q (inr (inl e)) = subst (λ (p : Question). answer yes p ≡ answer two_kinds p) e refl
two_kinds_alike q (inr (inr (inl e))) = subst (λ (p : Question). answer yes p ≡ answer two_kinds p) e refl
two_kinds_alike q (inr (inr (inr h))) = absurd h

-- ---- the nights that agree

asked_first : questions (night_log each_its_own 0).blocks ≡ asked_about_two
unfolding questions in_order is_disputed cover joined_text stated_payload parts_at stamp_in stamp_and_rest_in blob_in payload_in
asked_first = refl

asked_last : questions (night_log each_its_own 1).blocks ≡ asked_about_two
unfolding questions in_order is_disputed cover joined_text stated_payload parts_at stamp_in stamp_and_rest_in blob_in payload_in
asked_last = refl

alike_at : (own : Answers) (qs : List Question) → qs ≡ asked_about_two → Alike own → (q : Question) → Contains qs q → answer yes q ≡ answer own q
alike_at own qs e alike q c = alike q (subst (λ xs. Has xs q) e (has_from_contains qs q c))

agree_at : (night : ℕ) → night ≤ 1 → AgreeOn yes (answered night) (night_log each_its_own night).blocks
agree_at zero low = alike_at one_payload (questions (night_log each_its_own 0).blocks) asked_first one_payload_alike
agree_at (suc zero) low = alike_at two_kinds (questions (night_log each_its_own 1).blocks) asked_last two_kinds_alike
agree_at (suc (suc night)) low = absurd (omega arith)

pub answered_agree : AgreeOnNights yes answered each_its_own 1
answered_agree = agree_at

leave_before : (night : ℕ) → night < 1 → LeavesEnough (answered night) (night_log each_its_own night) (each_its_own.left night)
leave_before night low =
    enough_alike yes (answered night) (night_log each_its_own night) (agree_at night (omega (arith, low))) (each_its_own.left night) (its_own_leave night low)

pub answered_leave : LeaveEnoughByOwn answered each_its_own 1
answered_leave = leave_before

-- ---- the nights that don't

log_apart : AreApart each_its_own.whole
unfolding IsStrictlySortedBy
log_apart = small_apart each_its_own.whole ((refl, (refl, tt)), ((refl, tt), (tt, tt))) ((refl, tt), (tt, tt)) refl refl

left_before : (night : ℕ) → night < 1 → LeavesEnough (unanswered night) (night_log left_out night) (left_out.left night)
left_before zero low = carried_leave for_certificates (cut_at 3) each_its_own.whole log_apart 1 0 (omega arith)
left_before (suc night) low = absurd (omega arith)

pub unanswered_leave : LeaveEnoughByOwn unanswered left_out 1
unanswered_leave = left_before

-- both nights ask about the octets of signature blocks
abbrev asked_twice : Question
asked_twice = question.Yes text (2 ∷ []) (0 ∷ [])

first_asks : Has (questions (night_log left_out 0).blocks) asked_twice
unfolding questions in_order is_disputed cover joined_text stated_payload parts_at stamp_in stamp_and_rest_in blob_in payload_in
first_asks = inr (inr (inl refl))

last_asks : Has (questions (night_log left_out 1).blocks) asked_twice
unfolding questions in_order is_disputed cover joined_text stated_payload parts_at stamp_in stamp_and_rest_in blob_in payload_in rows keys pair_of_bearer places_with wanted rank assigned is_taken group_keys entries report_of joined is_verified carried_by
last_asks = inr (inr (inl refl))

pub unanswered_differ : (says : Answers) → ¬ AgreeOnNights says unanswered left_out 1
unanswered_differ says agree =
    let no : answer says asked_twice ≡ false = agree 0 (omega arith) asked_twice (contains_from_has (questions (night_log left_out 0).blocks) asked_twice first_asks) in
    let yes_then : answer says asked_twice ≡ true = agree 1 (omega arith) asked_twice (contains_from_has (questions (night_log left_out 1).blocks) asked_twice last_asks) in
    true≢false (sym yes_then ∙ no)
