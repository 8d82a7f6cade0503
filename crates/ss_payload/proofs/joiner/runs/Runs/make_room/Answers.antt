use Rattle.std.proofs.Common.{ℕ, arith, rules, subst}
use Rattle.std.proofs.lemmas.Bool.{false≢true}
use Rattle.ss_payload.specs.Slots.{HasRun}
use Rattle.ss_payload.specs.RunSlots.{BelongsTo}
use Rattle.ss_payload.proofs.Runs.{belongs, one_more_run}
use Rattle.ss_payload.proofs.joiner.runs.Runs.make_room.Goals as goal

pub returns-in_err-make_run-clause-alone : goal.returns-in_err-make_run-clause-alone
returns-in_err-make_run-clause-alone c =
    let of : BelongsTo c.loop-number.number c.args.index c.args.length = belongs c.args.index c.args.length c.loop-number.number c.requires.some (omega arith) (omega arith) in
    one_more_run c.args.self.now c.loop-number.self c.make_run.new.self c.args.index c.args.length c.loop-number.number of c.loop-number.invariant.alone c.make_run.ensures.alone

pub loop-number-preserved : goal.loop-number-preserved
loop-number-preserved c =
    let of : BelongsTo c.loop-number.number c.args.index c.args.length = belongs c.args.index c.args.length c.loop-number.number c.requires.some (omega arith) (omega arith) in
    record {
      same = search rules;
      made = grind arith;
      kept = λ n h. c.make_run.ensures.kept n (c.loop-number.invariant.kept n h);
      alone = one_more_run c.args.self.now c.loop-number.self c.make_run.new.self c.args.index c.args.length c.loop-number.number of c.loop-number.invariant.alone c.make_run.ensures.alone;
    }

pub returns-in_err-make_run-clause-had : goal.returns-in_err-make_run-clause-had
returns-in_err-make_run-clause-had c = λ had.
    let of : BelongsTo c.loop-number.number c.args.index c.args.length = belongs c.args.index c.args.length c.loop-number.number c.requires.some (omega arith) (omega arith) in
    absurd (false≢true (c.in_err-make_run.ensures.had (c.loop-number.invariant.kept c.loop-number.number (subst (λ (n : ℕ). HasRun c.args.self.now n) of.2 (had of.0 of.1)))))
