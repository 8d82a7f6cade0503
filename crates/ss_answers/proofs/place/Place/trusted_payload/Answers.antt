use Rattle.std.proofs.Common.{sym, ◌∙◌}
use Rattle.ss_answers.specs.AnswerLine.{answer_at, part}
use Rattle.ss_answers.proofs.TrustedPayloads.{trusted_payload-seal, trusted_payload-trust, trusted_payload-yes}
use Rattle.ss_answers.proofs.place.Place.trusted_payload.Goals as goal

pub returns-then-is_empty : goal.returns-then-is_empty
unfolding answer_at
returns-then-is_empty c =
    let bytes = c.args.octets.now in
    let place = c.args.self.now in
    let none = sym c.is_empty.ensures ∙ c.if-is_empty.true in
    rw (← c.part-payload.ensures, ← c.part-bytes.ensures)
    (sym (trusted_payload-seal c.part-payload.result.now c.part-bytes.result.now (part bytes place.middle place.end) none))

pub returns-then-is_empty-2 : goal.returns-then-is_empty-2
unfolding answer_at
returns-then-is_empty-2 c =
    let bytes = c.args.octets.now in
    let place = c.args.self.now in
    let some = sym c.is_empty.ensures ∙ c.if-is_empty.false in
    let none = sym c.is_empty-else-is_empty.ensures ∙ c.if-is_empty-2.true in
    rw (← c.part-payload.ensures, ← c.part-bytes.ensures)
    (sym (trusted_payload-trust c.part-payload.result.now c.part-bytes.result.now (part bytes place.middle place.end) some none))

pub returns-else-is_empty-2 : goal.returns-else-is_empty-2
unfolding answer_at
returns-else-is_empty-2 c =
    let bytes = c.args.octets.now in
    let place = c.args.self.now in
    let some = sym c.is_empty.ensures ∙ c.if-is_empty.false in
    let more = sym c.is_empty-else-is_empty.ensures ∙ c.if-is_empty-2.false in
    rw (← c.part-payload.ensures, ← c.part-bytes.ensures)
    (sym (trusted_payload-yes c.part-payload.result.now c.part-bytes.result.now (part bytes place.middle place.end) some more))
