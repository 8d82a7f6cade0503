use Rattle.std.proofs.Common.{◌∙◌, List, ℕ, Some, sym, ap, subst, arith}
use Rattle.ss_block.specs.Signed.{IsWithoutSign}
use Rattle.ss_block.proofs.SignPlaces.{message_cut, message_has_sign}
use Rattle.ss_block.proofs.signed.without_sign.Goals as goal

pub returns-in_default-clause-value : goal.returns-in_default-clause-value
returns-in_default-clause-value c =
    absurd (message_has_sign c.args.message.now c.args.id.now c.requires.read c.requires.block (sym c.in_default.is ∙ c.sign_parameter.ensures))

pub overflow_sub-space : goal.overflow_sub-space
overflow_sub-space c = (message_cut c.args.message.now c.args.id.now c.in-Some.sign c.requires.read c.requires.block c.in-Some.ensures).some_start

pub overflow_add-behind : goal.overflow_add-behind
overflow_add-behind c =
    let cut = message_cut c.args.message.now c.args.id.now c.in-Some.sign c.requires.read c.requires.block c.in-Some.ensures in
    omega (arith, cut.within)

pub without-requires-clause-in_order : goal.without-requires-clause-in_order
without-requires-clause-in_order c = (message_cut c.args.message.now c.args.id.now c.in-Some.sign c.requires.read c.requires.block c.in-Some.ensures).in_order

pub without-requires-clause-within : goal.without-requires-clause-within
without-requires-clause-within c = (message_cut c.args.message.now c.args.id.now c.in-Some.sign c.requires.read c.requires.block c.in-Some.ensures).within

pub returns-clause-value : goal.returns-clause-value
returns-clause-value c =
    let cut = message_cut c.args.message.now c.args.id.now c.in-Some.sign c.requires.read c.requires.block c.in-Some.ensures in
    ap (λ (o : List ℕ). Some o) (c.in_ok-without.ensures ∙ cut.left)

pub returns-clause-split : goal.returns-clause-split
returns-clause-split c =
    let cut = message_cut c.args.message.now c.args.id.now c.in-Some.sign c.requires.read c.requires.block c.in-Some.ensures in
    subst (IsWithoutSign c.args.message.now.source.now) (sym c.in_ok-without.ensures) cut.split
