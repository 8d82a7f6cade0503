use Rattle.std.proofs.Common.{◌≡◌, ◌∙◌, ◌+◌, ◌-◌, ◌<◌, ◌≤◌, arith, ap}
use Rattle.std.proofs.Math.Logic.{⊎_elim}
use Rattle.std.proofs.lemmas.Bool.{cases_lt}
use Rattle.ss_payload.specs.Slots.{slot_at}
use Rattle.ss_payload.proofs.joiner.runs.Runs.covers.Goals as goal

pub returns-then-not-covers_part-clause-no : goal.returns-then-not-covers_part-clause-no
returns-then-not-covers_part-clause-no c = λ f.
    let at = c.covers_part.ensures.no c.if-not-covers_part.true in
    let same : c.loop-before.before + at.0 + 1 ≡ c.loop-before.before + 1 + at.0 = omega arith in
    (c.loop-before.before + at.0, omega (arith, at.1), ap (slot_at c.args.self.now) same ∙ at.2)

pub loop-before-preserved : goal.loop-before-preserved
loop-before-preserved c = record {
  within = omega arith;
  said = λ k lt e. ⊎_elim
      (λ (h : k < c.loop-before.before). c.loop-before.invariant.said k h e)
      (λ (h : c.loop-before.before ≤ k).
      let same : c.loop-before.before + 1 + (k - c.loop-before.before) ≡ k + 1 = omega (arith, h) in
      c.covers_part.ensures.yes c.if-not-covers_part.false (k - c.loop-before.before) (omega (arith, h, lt)) (ap (slot_at c.args.self.now) same ∙ e))
      (cases_lt k c.loop-before.before);
}
