use Rattle.std.proofs.Common.{◌+◌, length, arith}
use Rattle.ss_payload.specs.declared.cuts.Cut.{Cut}
use Rattle.ss_payload.proofs.CutLists.{one_cut, all_cut, same_cuts, joined_text}
use Rattle.ss_payload.proofs.cutting.cut.Goals as goal

pub loop-start-preserved : goal.loop-start-preserved
loop-start-preserved c =
    let made : Cut = record { index = c.loop-start.start + 1; len = c.min-len.result } in
    rw c.in_ok-push.ensures.items (one_cut (length c.args.text.now) c.args.size c.loop-start.start made c.loop-start.cuts.items c.loop-start.invariant (omega arith) (omega arith) (omega arith) (omega arith))

pub returns-clause-pieces : goal.returns-clause-pieces
returns-clause-pieces c =
    rw c.from_vec.ensures (all_cut (length c.args.text.now) c.args.size c.loop-start.start c.loop-start.cuts.items c.loop-start.invariant (omega arith))

pub returns-clause-only : goal.returns-clause-only
returns-clause-only c = λ cuts are. same_cuts (length c.args.text.now) c.args.size c.from_vec.result cuts c.requires.some_size (returns-clause-pieces c) are

pub returns-clause-joined : goal.returns-clause-joined
returns-clause-joined c = joined_text c.args.size c.args.text.now c.from_vec.result (returns-clause-pieces c)
