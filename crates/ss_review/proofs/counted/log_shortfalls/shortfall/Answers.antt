use Rattle.std.proofs.Common.{◌<◌, ◌^◌, ap, ◌∙◌, arith}
use Rattle.std.specs.Prelude.{max}
use Rattle.ss_review.specs.counted.Counted.{next_after, missing}
use Rattle.ss_review.proofs.counted.log_shortfalls.shortfall.Goals as goal

pub returns : goal.returns
returns c = λ are rise next.
    let gs = c.args.gbcs.now in
    let small : next_after gs < 2 ^ 64 = omega (arith, next) in
    let tails = c.in_ok-tails.ensures are in
    let blocks = c.in_ok-missing_runs.ensures rise ∙ ap (missing gs) (c.max-end.ensures ∙ (λ j. max (c.next_gbc.ensures small j) (c.kept_gbc.ensures j))) in
    λ i. record { session = c.in_ok-try_clone.ensures i; tails = tails i; blocks = blocks i }
