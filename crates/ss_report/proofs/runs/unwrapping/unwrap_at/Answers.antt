use Rattle.std.proofs.Common.{length, sym, ◌∙◌, arith}
use Rattle.std.proofs.lemmas.Bool.{eqb-false, eqb-true}
use Rattle.ss_report.proofs.of_reading.LastOctets.{cut_wrap, empty_wrap, few_last, no_wrap, stays_wrapped}
use Rattle.ss_report.proofs.runs.unwrapping.unwrap_at.Goals as goal

pub returns-in_default-2 : goal.returns-in_default-2
returns-in_default-2 c =
    let ms = c.args.messages.now in
    let text = c.in-Some.message.now in
    stays_wrapped ms c.args.place text (sym (rw c.in-Some.message-is at c.in-Some.ensures)) (no_wrap text (sym (rw c.in_default-2.is at c.in_ok-inner.ensures)))

pub returns-then-is_empty : goal.returns-then-is_empty
returns-then-is_empty c =
    let ms = c.args.messages.now in
    let text = c.in-Some.message.now in
    let inner = c.in-Some-2.inner.now in
    stays_wrapped ms c.args.place text (sym (rw c.in-Some.message-is at c.in-Some.ensures)) (empty_wrap text inner (sym (rw (c.in-Some-2.is, c.in-Some-2.inner-is) at c.in_ok-inner.ensures)) (eqb-true (length inner) 0 (sym c.is_empty.ensures ∙ c.if-is_empty.true)))

pub keep_last-requires-clause-few : goal.keep_last-requires-clause-few
keep_last-requires-clause-few c =
    let ms = c.args.messages.now in
    let text = c.in-Some.message.now in
    let inner = c.in-Some-2.inner.now in
    few_last ms c.args.place text inner (sym (rw c.in-Some.message-is at c.in-Some.ensures)) (sym (rw (c.in-Some-2.is, c.in-Some-2.inner-is) at c.in_ok-inner.ensures))

pub returns : goal.returns
returns c =
    let ms = c.args.messages.now in
    let text = c.in-Some.message.now in
    let inner = c.in-Some-2.inner.now in
    cut_wrap ms _ c.args.place text inner (sym (rw c.in-Some.message-is at c.in-Some.ensures)) (sym (rw (c.in-Some-2.is, c.in-Some-2.inner-is) at c.in_ok-inner.ensures)) (omega (arith, eqb-false (length inner) 0 (sym c.is_empty.ensures ∙ c.if-is_empty.false))) c.keep_last.ensures
