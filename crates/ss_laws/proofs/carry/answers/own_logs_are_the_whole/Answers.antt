use Rattle.std.proofs.Common.{◌≡◌, ◌≤◌, ℕ, List, refl, sym, ap, ◌∙◌, subst, arith}
use Rattle.std.specs.Prelude.{Contains, slice_index}
use Rattle.std.proofs.lemmas.List.{length-map}
use Rattle.ss_review.specs.declared.questions.question.Question.{Question}
use Rattle.ss_review.specs.keep.Notes.{note, notes}
use Rattle.ss_review.specs.keep.Contents.{blocks}
use Rattle.ss_review.specs.questions.Questions.{questions}
use Rattle.ss_laws.specs.parts.Parts.{moved, messages_of, places_of}
use Rattle.ss_laws.specs.carry.Nights.{night_log}
use Rattle.ss_laws.specs.carry.NightLaws.{reviewed_part}
use Rattle.ss_laws.specs.carry.CarriedNights.{nights_of}
use Rattle.ss_laws.specs.carry.OwnAnswers.{AgreeOnNights, own_texts}
use Rattle.ss_laws.proofs.of_carry.OwnCounters.{night_blocks}
use Rattle.ss_laws.proofs.of_carry.OwnTexts.{questions_moved}
use Rattle.ss_laws.proofs.carry.answers.own_logs_are_the_whole.Goals as goal

pub returns : goal.returns
returns c = λ says own file log last within follow agree later.
    (let x = nights_of says file log in
    let long = length-map log note in
    let those = c.nights_of_texts.ensures says file log follow in
    let logs = c.own_logs_are_alike.ensures says own file log last agree in
    let places : ℕ → ℕ → ℕ = λ night. slice_index (places_of (reviewed_part x night) 0 log) in
    let asked : (night : ℕ) → night ≤ last → questions (night_log x night).blocks ≡ questions (blocks (notes (own_texts own file log night)))
    = λ night low.
    ap questions (sym (night_blocks says x night log refl))
    ∙ questions_moved (places night) (blocks (notes (messages_of (reviewed_part x night) 0 log)))
    ∙ ap (λ messages. questions (blocks (notes messages))) (sym ((logs night low).texts ∙ those.texts night)) in
    let nights : AgreeOnNights says own x last
    = λ night low q h. agree night low q (subst (λ (qs : List Question). Contains qs q) (asked night low) h) in
    let alike = c.nights_by_own_answers.ensures says own x last nights in
    record {
      reports = λ night low.
          (alike night low).report
          ∙ those.reports night
          ∙ ap (moved (places night)) (sym (logs night low).reports);
      together =
          c.own_nights_are_the_whole.ensures says own x last log refl (λ place below. within place (omega (arith, below, long))) follow nights
          (λ night low. (alike night (omega (arith, low))).enough.1 (those.enough last night low)) later;
    })
