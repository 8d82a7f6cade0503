use Rattle.std.proofs.Common.{ℕ, List, Ok, Err, sym, ap, ◌∙◌}
use Rattle.ss_message.specs.Layout.{layout_of, value_at}
use Rattle.ss_message.specs.Reading.{bad}
use Rattle.ss_wrap.specs.Wrap.{inner_of}
use Rattle.ss_wrap.proofs.Originals.{original_is}
use Rattle.ss_wrap.proofs.unwrapping.original.Goals as goal

pub returns-in-Ok : goal.returns-in-Ok
returns-in-Ok c =
    let l = layout_of c.in-Ok.message in
    c.inner.ensures ∙ ap (λ (b : List ℕ). inner_of (value_at b l)) c.in-Ok.ensures.source ∙ sym (original_is c.args.text.now (Ok l) c.in-Ok.ensures.reading)

pub returns-in-Err-Bad : goal.returns-in-Err-Bad
returns-in-Err-Bad c =
    let read = rw c.in-Err-Bad.field-0-is at c.in-Err-Bad.ensures.reading in
    sym (original_is c.args.text.now (Err (bad c.in-Err-Bad.field-0-0 c.in-Err-Bad.field-0-1)) read)
