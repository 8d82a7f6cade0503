use Rattle.std.proofs.Common.{Some, ap, sym, ◌∙◌}
use Rattle.ss_answers.specs.AnswerLine.{answer_at, part}
use Rattle.ss_answers.proofs.KeptLines.{given-other, given-seal}
use Rattle.ss_answers.proofs.place.Place.given_signature.Goals as goal

pub returns-then-is_empty : goal.returns-then-is_empty
unfolding answer_at
returns-then-is_empty c =
    let bytes = c.args.octets.now in
    let place = c.args.self.now in
    let none = sym c.is_empty.ensures ∙ c.if-is_empty.true in
    rw (← c.part.ensures)
    (ap Some c.part-then-is_empty.ensures
    ∙ sym (given-seal c.part.result.now (part bytes place.start place.middle) (part bytes place.middle place.end) none))

pub returns-else-is_empty : goal.returns-else-is_empty
unfolding answer_at
returns-else-is_empty c =
    let bytes = c.args.octets.now in
    let place = c.args.self.now in
    let some = sym c.is_empty.ensures ∙ c.if-is_empty.false in
    rw (← c.part.ensures)
    (sym (given-other c.part.result.now (part bytes place.start place.middle) (part bytes place.middle place.end) some))
