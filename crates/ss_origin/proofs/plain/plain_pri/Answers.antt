use Rattle.std.proofs.Common.{◌≡◌, inr, Bool, true, false, Ok, refl, sym, ap, ◌∙◌}
use Rattle.std.specs.Prelude.{not}
use Rattle.ss_message.specs.Layout.{layout_of, value_at}
use Rattle.ss_block.specs.Reading.{ssign, ssign_cert, value_reading, reading}
use Rattle.ss_block.proofs.Readings.{reading_is}
use Rattle.ss_origin.specs.Refusals.{is_unparsed, is_plain}
use Rattle.ss_origin.proofs.PlainMessages.{parsed_with}
use Rattle.ss_origin.proofs.plain.plain_pri.Goals as goal

denied : (b : Bool) → not b ≡ true → b ≡ false
denied true e = absurd (cc)
denied false e = refl

pub returns-then-has_block-clause-fault : goal.returns-then-has_block-clause-fault
returns-then-has_block-clause-fault c =
    let m = c.in-Ok.parsed in
    let read : value_reading (value_at m.source.now (layout_of m)) ≡ reading c.args.message.now
    = ap (λ t. value_reading (value_at t (layout_of m))) c.in-Ok.ensures.source ∙ sym (reading_is c.args.message.now (Ok (layout_of m)) c.in-Ok.ensures.reading) in
    let es = (value_at m.source.now (layout_of m)).elements in
    let parsed = sym (ap is_unparsed read) ∙ parsed_with (ssign es) (ssign_cert es) in
    let blocked = sym (ap is_plain read) ∙ denied (is_plain (value_reading (value_at m.source.now (layout_of m)))) (sym c.has_block.ensures ∙ c.if-has_block.true) in
    inr (inr (refl, parsed, blocked))
