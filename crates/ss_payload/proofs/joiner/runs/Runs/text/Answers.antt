use Rattle.std.proofs.Common.{◌≡◌, ◌+◌, ℕ, arith, refl, subst}
use Rattle.ss_payload.specs.Slots.{slot_at, IsOne}
use Rattle.ss_payload.proofs.joiner.runs.Runs.text.Goals as goal

pub loop-before-preserved : goal.loop-before-preserved
loop-before-preserved c = record {
  within = omega arith;
  written = λ all.
      c.in_ok-push_part.ensures c.loop-before.before refl (c.loop-before.invariant.written all)
      (λ j lt.
      let same : c.loop-before.before + j + 1 ≡ c.loop-before.before + 1 + j = omega arith in
      subst (λ (i : ℕ). IsOne (slot_at c.args.self.now i)) same (all (c.loop-before.before + j) (omega (arith, lt))));
}
