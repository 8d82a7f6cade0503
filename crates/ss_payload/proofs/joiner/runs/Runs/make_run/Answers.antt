use Rattle.std.proofs.Common.{◌≡◌, ◌/◌, ◌%◌, arith, replicate}
use Rattle.std.specs.Prelude.{None}
use Rattle.std.specs.Ordering.{nat_cmp}
use Rattle.std.specs.BTreeMap as tree
use Rattle.std.proofs.lemmas.Grind.{common_steps}
use Rattle.ss_payload.specs.declared.joiner.slot.Slot.TheVariants.{Empty}
use Rattle.ss_payload.specs.Slots.{slot_at, HasRun}
use Rattle.ss_payload.proofs.Runs.{run_made, empty_run, some_stays, some_there, get_apart}
use Rattle.ss_payload.proofs.joiner.runs.Runs.make_run.Goals as goal

pub returns-in_ok-insert-clause-same : goal.returns-in_ok-insert-clause-same
unfolding slot_at
returns-in_ok-insert-clause-same c =
    let absent : tree.get nat_cmp c.args.self.now.runs c.args.number ≡ None = grind (arith, common_steps) in
    λ i. run_made c.args.self.now.runs c.insert.new.self c.args.number (replicate 16 Empty) (empty_run 16) absent c.in_ok-insert.ensures.updates (i / 16) (i % 16)

pub returns-in_ok-insert-clause-made : goal.returns-in_ok-insert-clause-made
unfolding HasRun
returns-in_ok-insert-clause-made c = some_there c.args.self.now.runs c.insert.new.self c.args.number (replicate 16 Empty) c.in_ok-insert.ensures.updates

pub returns-in_ok-insert-clause-kept : goal.returns-in_ok-insert-clause-kept
unfolding HasRun
returns-in_ok-insert-clause-kept c = some_stays c.args.self.now.runs c.insert.new.self c.args.number (replicate 16 Empty) c.in_ok-insert.ensures.updates

pub returns-in_err-insert-clause-same : goal.returns-in_err-insert-clause-same
unfolding slot_at
returns-in_err-insert-clause-same c = λ i. grind (arith, common_steps)

pub returns-in_err-insert-clause-kept : goal.returns-in_err-insert-clause-kept
unfolding HasRun
returns-in_err-insert-clause-kept c = λ n h. grind (arith, common_steps)

pub returns-else-not-contains_key-clause-made : goal.returns-else-not-contains_key-clause-made
unfolding HasRun
returns-else-not-contains_key-clause-made c = grind (arith, common_steps)

pub returns-in_ok-insert-clause-alone : goal.returns-in_ok-insert-clause-alone
unfolding HasRun
returns-in_ok-insert-clause-alone c = λ n ne h. rw (get_apart c.args.self.now.runs c.insert.new.self c.args.number (replicate 16 Empty) c.in_ok-insert.ensures.updates n ne) at h

pub returns-in_err-insert-clause-alone : goal.returns-in_err-insert-clause-alone
unfolding HasRun
returns-in_err-insert-clause-alone c = λ n ne h. grind (arith, common_steps)

pub returns-in_err-insert-clause-had : goal.returns-in_err-insert-clause-had
unfolding HasRun
returns-in_err-insert-clause-had c = λ h. absurd (grind (arith, common_steps, h))
