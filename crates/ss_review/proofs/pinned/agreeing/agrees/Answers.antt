use Rattle.std.proofs.Common.{◌≡◌, ◌-◌, length, drop, sym, ap, ◌∙◌, arith}
use Rattle.std.specs.Prelude.{nat_eq}
use Rattle.std.specs.List.{starts_with}
use Rattle.ss_review.proofs.of_pinned.Agreeing.{as_long, up_to_end}
use Rattle.ss_review.proofs.pinned.agreeing.agrees.Goals as goal

pub returns : goal.returns
returns c = λ b states.
    let p = c.args.payload.now in
    let s = c.args.stated.now in
    let total : s.total ≡ length p = omega arith in
    let rest : c.in-Some.rest.now ≡ drop (s.index - 1) p
    = up_to_end p c.in-Some.rest.now c.saturating_sub-before.result (c.in-Some.ensures.lookup.0.2) ∙ ap (λ k. drop k p) c.saturating_sub-before.ensures in
    c.starts_with.ensures.value
    ∙ (λ i. starts_with nat_eq (rest i) (c.as_slice.ensures i))
    ∙ sym (as_long p s b states total)
