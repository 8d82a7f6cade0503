use Rattle.std.proofs.Common.{map, sym, ap, ◌∙◌}
use Rattle.ss_review.specs.counted.CountedSoFar.{found_of, with_block}
use Rattle.ss_review.proofs.of_counters.CountedTold.{unverified_adds_none, none_adds_none}
use Rattle.ss_review.proofs.counted.counting.add_block.Goals as goal

pub returns-then-not-is_verified : goal.returns-then-not-is_verified
returns-then-not-is_verified c = λ up.
    let fs = map found_of c.args.found.now in
    unverified_adds_none c.args.block.now fs ∙ ap (λ v. map (with_block v c.args.block.now) fs) (sym c.if-not-is_verified.true)

pub returns-in-None : goal.returns-in-None
returns-in-None c = λ up.
    let fs = map found_of c.args.found.now in
    none_adds_none c.args.block.now fs (sym c.in-None.ensures) ∙ ap (λ v. map (with_block v c.args.block.now) fs) (sym c.if-not-is_verified.false)
