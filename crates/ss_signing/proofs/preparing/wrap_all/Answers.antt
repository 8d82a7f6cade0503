use Rattle.std.proofs.Common.{◌≡◌, ◌+◌, ◌<◌, ◌≤◌, ℕ, [], false, true, length, get_or, sym, ap, ◌∙◌, arith, below_more}
use Rattle.std.specs.Prelude.{Some, None}
use Rattle.std.specs.List.{position}
use Rattle.ss_wrap.specs.Wrap.{prepared}
use Rattle.ss_signing.specs.Prepared.{is_long}
use Rattle.ss_signing.proofs.InPlace.{one_more, stands_next, first_there, none_there}
use Rattle.ss_signing.proofs.preparing.wrap_all.Goals as goal

pub returns-then-branch-clause-long : goal.returns-then-branch-clause-long
returns-then-branch-clause-long c =
    let i = c.loop-message.message-index in
    let items = c.loop-message.message-items in
    let h = c.args.wraps.now.head.now in
    let stamp = c.args.wraps.now.stamp in
    let max_len = c.args.wraps.now.max_len in
    let first = c.deref_mut-message-items.result.now in
    let item = c.message-item.result in
    let less : i < length items = omega arith in
    let within : i < length first = omega arith in
    let here : item ≡ get_or first i [] = stands_next items first i item [] less within c.loop-message.invariant.left c.message-item.is in
    let passes : is_long h stamp max_len (get_or first i []) ≡ true
    = ap (is_long h stamp max_len) (sym here ∙ c.message-item.is) ∙ sym c.in_ok-is_long_when_prepared.ensures.long ∙ c.if-branch.true in
    ap Some c.loop-message.invariant.place
    ∙ sym (first_there (is_long h stamp max_len) first i [] within c.loop-message.invariant.fit passes)
    ∙ ap (position (is_long h stamp max_len)) c.deref_mut-message-items.ensures.value

pub loop-message-preserved : goal.loop-message-preserved
loop-message-preserved c =
    let i = c.loop-message.message-index in
    let items = c.loop-message.message-items in
    let h = c.args.wraps.now.head.now in
    let stamp = c.args.wraps.now.stamp in
    let max_len = c.args.wraps.now.max_len in
    let first = c.deref_mut-message-items.result.now in
    let item = c.message-item.result in
    let less : i < length items = omega arith in
    let within : i < length first = omega arith in
    let here : item ≡ get_or first i [] = stands_next items first i item [] less within c.loop-message.invariant.left c.message-item.is in
    let fails : is_long h stamp max_len (get_or first i []) ≡ false
    = ap (is_long h stamp max_len) (sym here ∙ c.message-item.is) ∙ sym c.in_ok-is_long_when_prepared.ensures.long ∙ c.if-branch.false in
    let step = one_more (prepared h stamp) items first i item c.is_long_when_prepared.new.message less within c.loop-message.invariant.done c.loop-message.invariant.left c.message-item.is (c.in_ok-is_long_when_prepared.ensures.prepared c.if-branch.false ∙ ap (prepared h stamp) (sym c.message-item.is)) in
    record {
      place = ap (λ n. n + 1) c.loop-message.invariant.place;
      done = step.0;
      left = step.1;
      fit = below_more _ _ c.loop-message.invariant.fit fails;
    }

pub returns-clause-long : goal.returns-clause-long
returns-clause-long c =
    let h = c.args.wraps.now.head.now in
    let stamp = c.args.wraps.now.stamp in
    let max_len = c.args.wraps.now.max_len in
    let first = c.deref_mut-message-items.result.now in
    sym (none_there (is_long h stamp max_len) first [] (λ k less. c.loop-message.invariant.fit k (omega arith)))
    ∙ ap (position (is_long h stamp max_len)) c.deref_mut-message-items.ensures.value
