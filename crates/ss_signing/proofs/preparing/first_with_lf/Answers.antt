use Rattle.std.proofs.Common.{◌≡◌, ◌<◌, ◌≤◌, ℕ, [], false, true, length, get_or, sym, ap, ◌∙◌, arith}
use Rattle.std.specs.Prelude.{Some, None}
use Rattle.ss_signing.specs.Prepared.{has_lf}
use Rattle.std.proofs.lemmas.List.{get_or_default}
use Rattle.ss_signing.proofs.InPlace.{first_there, none_there}
use Rattle.ss_signing.proofs.preparing.first_with_lf.Goals as goal

pub returns-then-has_lf : goal.returns-then-has_lf
returns-then-has_lf c =
    let i = c.loop-message.message-index in
    let messages = c.args.messages.now in
    let less : i < length messages = c.loop-message-test.true in
    let passes : has_lf (get_or messages i []) ≡ true
    = ap has_lf (get_or_default messages i [] c.message-item.result less ∙ sym c.message-item.is ∙ sym c.as_slice.ensures) ∙ sym c.has_lf.ensures ∙ c.if-has_lf.true in
    ap Some c.loop-message.invariant.place ∙ sym (first_there has_lf messages i [] less c.loop-message.invariant.fit passes)

pub returns : goal.returns
returns c =
    sym (none_there has_lf c.args.messages.now [] (λ k less. c.loop-message.invariant.fit k (omega arith)))
