use Rattle.std.proofs.Common.{sym, ◌∙◌}
use Rattle.ss_answers.specs.AnswerLine.{answer_at, place_key}
use Rattle.ss_answers.proofs.KeptLines.{key_of-seal, key_of-trust, key_of-yes}
use Rattle.ss_answers.proofs.place.Place.key.Goals as goal

pub returns-then-is_empty : goal.returns-then-is_empty
unfolding place_key answer_at
returns-then-is_empty c =
    let none = sym c.is_empty.ensures ∙ c.if-is_empty.true in
    rw (← c.part-payload.ensures, ← c.part-bytes.ensures, ← c.part-signature.ensures)
    (c.seal.ensures ∙ sym (key_of-seal c.part-payload.result.now c.part-bytes.result.now c.part-signature.result.now none))

pub returns-then-is_empty-2 : goal.returns-then-is_empty-2
unfolding place_key answer_at
returns-then-is_empty-2 c =
    let some = sym c.is_empty.ensures ∙ c.if-is_empty.false in
    let none = sym c.is_empty-else-is_empty.ensures ∙ c.if-is_empty-2.true in
    rw (← c.part-payload.ensures, ← c.part-bytes.ensures, ← c.part-signature.ensures)
    (c.trust.ensures ∙ sym (key_of-trust c.part-payload.result.now c.part-bytes.result.now c.part-signature.result.now some none))

pub returns-else-is_empty-2 : goal.returns-else-is_empty-2
unfolding place_key answer_at
returns-else-is_empty-2 c =
    let some = sym c.is_empty.ensures ∙ c.if-is_empty.false in
    let more = sym c.is_empty-else-is_empty.ensures ∙ c.if-is_empty-2.false in
    rw (← c.part-payload.ensures, ← c.part-bytes.ensures, ← c.part-signature.ensures)
    (c.yes.ensures ∙ sym (key_of-yes c.part-payload.result.now c.part-bytes.result.now c.part-signature.result.now some more))
