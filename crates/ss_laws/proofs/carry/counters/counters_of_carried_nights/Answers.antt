use Rattle.std.proofs.Common.{◌≡◌, refl, sym, ap, ◌∙◌, subst, arith}
use Rattle.std.proofs.lemmas.List.{length-map}
use Rattle.ss_review.specs.keep.Notes.{note, notes}
use Rattle.ss_review.specs.keep.Contents.{Contents, contents}
use Rattle.ss_review.specs.counted.Kept.{kept_gbc, kept_number}
use Rattle.ss_review.specs.counted.KeptLaws.{log_counters}
use Rattle.ss_laws.specs.carry.Nights.{so_far, IsJoined}
use Rattle.ss_laws.specs.carry.CarriedNights.{nights_of}
use Rattle.ss_laws.specs.carry.NightCounters.{counters_in, greatest_of_nights}
use Rattle.ss_laws.proofs.of_carry.OwnCounters.{same_gbc, same_number}
use Rattle.ss_laws.proofs.carry.counters.counters_of_carried_nights.Goals as goal

pub returns : goal.returns
returns c = λ says file log last within follow s join.
    (let x = nights_of says file log in
    let long = length-map log note in
    let texts = (c.nights_of_texts.ensures says file log follow).texts in
    let all : so_far x last ≡ contents (notes log)
    = c.files_are_the_whole.ensures x last (log, refl) (λ place below. within place (omega (arith, below, long))) in
    let most = c.counters_of_nights.ensures says x last s (log, refl) (c.enough_of_sessions.ensures says x last ((c.nights_of_texts.ensures says file log follow).enough last) s)
    (subst (λ (w : Contents). IsJoined says w.blocks s) (sym all) join) in
    record {
      gbc =
          ap (λ (w : Contents). kept_gbc (counters_in says w) s) (sym all)
          ∙ most.gbc
          ∙ (λ i. greatest_of_nights last (λ night. sym (ap (λ own. kept_gbc (log_counters says own) s) (texts night) ∙ same_gbc says x night log refl s) i));
      number = λ g.
          ap (λ (w : Contents). kept_number (counters_in says w) s g) (sym all)
          ∙ most.number g
          ∙ (λ i. greatest_of_nights last (λ night. sym (ap (λ own. kept_number (log_counters says own) s g) (texts night) ∙ same_number says x night log refl s g) i));
    })
