use Rattle.std.proofs.Common.{refl, arith}
use Rattle.std.proofs.lemmas.List.{length-map}
use Rattle.ss_review.specs.keep.Notes.{note}
use Rattle.ss_laws.specs.carry.CarriedNights.{nights_of}
use Rattle.ss_laws.proofs.carry.carried_nights_are_the_whole.Goals as goal

pub returns : goal.returns
returns c = λ says file log last within follow agree.
    (let long = length-map log note in
    c.nights_are_the_whole.ensures says (nights_of says file log) last log refl (λ place below. within place (omega (arith, below, long))) follow
    ((c.nights_of_texts.ensures says file log follow).enough last) agree)
