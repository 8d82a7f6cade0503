-- The two schemes agree on what is asked about the small log, which is computed.
use Rattle.std.proofs.Common.{◌≡◌, inl, Bool, true, false, not, [], ◌∷◌, refl, sym, ◌∙◌, subst}
use Rattle.std.specs.List.{Contains, list_all}
use Rattle.ss_octets.specs.Cut.{parts_at}
use Rattle.ss_payload.specs.Payload.{payload_text}
use Rattle.ss_block.specs.PayloadReading.{stamp_in, stamp_and_rest_in, blob_in, payload_in}
use Rattle.ss_block.specs.ReadingLaws.{ReadingsAreOfValues}
use Rattle.ss_block.specs.WritingLaws.{SignaturesAreRead, CertificatesAreRead}
use Rattle.ss_review.specs.Ordered.{in_order}
use Rattle.ss_review.specs.declared.questions.question.Question.{Question}
use Rattle.ss_review.specs.declared.questions.question.Question.TheVariants as question
use Rattle.ss_review.specs.deliveries.SmallChains.{accepting}
use Rattle.ss_review.specs.keep.Contents.{blocks}
use Rattle.ss_review.specs.keep.Notes.{notes}
use Rattle.ss_review.specs.pinned.Pinned.{pinned_questions}
use Rattle.ss_review.specs.questions.Questions.{answer}
use Rattle.ss_review.specs.sessions.Payloads.{is_disputed, cover, joined_text, stated_payload}
use Rattle.ss_octets.proofs.Members.{has_from_contains, contains_from_has}
use Rattle.ss_review.proofs.of_lists.Tests.{all_member}
use Rattle.ss_laws.specs.strangers.PinnedAnswers.{AgreeingSchemesGiveOnePinnedReport}
use Rattle.ss_laws.specs.strangers.cases.SmallAnswers.{strict, SmallAnswersAreThese}
use Rattle.ss_laws.specs.strangers.cases.SmallAttack.{own_payload, given}
use Rattle.ss_laws.specs.strangers.cases.SmallUnforged.{mixed, SmallUnforgedIsThis}
use Rattle.ss_laws.proofs.of_strangers.cases.SmallUnforged.{all_blocks, blocks_are}

abbrev alike : Bool → Bool → Bool
alike true b = b
alike false b = not b

alike_same : (a b : Bool) → alike a b ≡ true → a ≡ b
alike_same true true e = refl
alike_same true false e = sym e
alike_same false true e = e
alike_same false false e = refl

abbrev answers_alike : Question → Bool
answers_alike q = alike (answer accepting q) (answer strict q)

module _ (values : ReadingsAreOfValues) (signatures : SignaturesAreRead) (certificates_read : CertificatesAreRead) where
  all_alike : list_all answers_alike (pinned_questions given (all_blocks values signatures certificates_read)) ≡ true
  unfolding pinned_questions in_order is_disputed cover joined_text stated_payload parts_at stamp_in stamp_and_rest_in blob_in payload_in payload_text
  all_alike = refl

  asked_first : Contains (pinned_questions given (all_blocks values signatures certificates_read)) (question.Trust own_payload)
  unfolding pinned_questions in_order is_disputed cover joined_text stated_payload parts_at stamp_in stamp_and_rest_in blob_in payload_in payload_text
  asked_first = contains_from_has (pinned_questions given (all_blocks values signatures certificates_read)) (question.Trust own_payload) (inl refl)

  agree : (q : Question) → Contains (pinned_questions given (blocks (notes mixed.log))) q → answer accepting q ≡ answer strict q
  agree q c =
      let all = pinned_questions given (all_blocks values signatures certificates_read) in
      let there : Contains all q = subst (λ bs. Contains (pinned_questions given bs) q) (blocks_are values signatures certificates_read) c in
      alike_same (answer accepting q) (answer strict q) (all_member answers_alike all all_alike q (has_from_contains all q there))

  refused : strict.trusted (85 ∷ []) ≡ false
  unfolding payload_text
  refused = refl

  pub small_answers : AgreeingSchemesGiveOnePinnedReport → SmallUnforgedIsThis → SmallAnswersAreThese
  small_answers law small = record {
    asked = subst (λ bs. Contains (pinned_questions given bs) (question.Trust own_payload)) (sym (blocks_are values signatures certificates_read)) asked_first;
    agree = agree;
    accepted = refl;
    refused = refused;
    report = sym (law accepting strict given mixed.log agree).0 ∙ small.report;
  }
