use Rattle.std.proofs.Common.{◌≡◌, ℕ, refl, sym, ap, ◌∙◌, arith}
use Rattle.std.specs.Prelude.{slice_index}
use Rattle.std.proofs.lemmas.List.{length-map}
use Rattle.ss_review.specs.keep.Notes.{note, notes}
use Rattle.ss_review.specs.keep.Contents.{contents}
use Rattle.ss_laws.specs.parts.Parts.{moved, messages_of, places_of}
use Rattle.ss_review.specs.report.Report.{report}
use Rattle.ss_laws.specs.carry.NightLaws.{reviewed_part}
use Rattle.ss_laws.specs.carry.CarriedNights.{night_texts, nights_of}
use Rattle.ss_laws.proofs.of_carry.CarriedTexts.{carry_over, texts_of_nights}
use Rattle.ss_laws.proofs.carry.nights_of_texts.Goals as goal

pub returns : goal.returns
returns c = λ says file log follow.
    (let x = nights_of says file log in
    let long = length-map log note in
    let texts : (night : ℕ) → night_texts says file log night ≡ messages_of (reviewed_part x night) 0 log
    = λ night. texts_of_nights says file log c.carried_of_own_logs.ensures (λ place other low below. follow place other low (omega (arith, below, long))) night in
    record {
      texts = texts;
      enough = λ last. c.carried_is_enough.ensures says x last (log, refl) (carry_over says file (contents (notes log)) last);
      reports = λ night.
          c.nights_are_logs.ensures says x night log refl
          ∙ ap (λ messages. moved (slice_index (places_of (reviewed_part x night) 0 log)) (report says messages)) (sym (texts night));
    })
