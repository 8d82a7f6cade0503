use Rattle.std.proofs.Common.{take, arith}
use Rattle.ss_spelled.proofs.Joined.{begun_none, begun_same, begun_more, begun_step, begun_end}
use Rattle.ss_spelled.proofs.longer.beginnings.Goals as goal
use Rattle.ss_spelled.proofs.longer.beginnings.Goals.{then-fragment-gt0+in_ok-insert, else-fragment-gt0}

pub loop-fragment-init : goal.loop-fragment-init
loop-fragment-init c = rw c.new-fronts.ensures.empty begun_none

pub loop-fragment-preserved : goal.loop-fragment-preserved
loop-fragment-preserved c =
    begun_step c.args.fragments.now c.loop-fragment.fragment-index c.fragment-item.result c.if-fragment-gt0.fronts.keys c.loop-fragment-test.true c.fragment-item.is
    (elim c.if-fragment-gt0.branch [
      | then-fragment-gt0+in_ok-insert w ↦
          rw (w.fronts-is, w.in_ok-insert.ensures.keys, w.from_vec.ensures, w.new.ensures.items)
          (begun_more (take c.loop-fragment.fragment-index c.args.fragments.now) c.fragment-item.result c.loop-fragment.fronts.keys c.loop-fragment.invariant (omega arith))
      | else-fragment-gt0 w ↦
          rw w.fronts-is (begun_same (take c.loop-fragment.fragment-index c.args.fragments.now) c.fragment-item.result c.loop-fragment.fronts.keys c.loop-fragment.invariant (omega arith))
    ])

pub returns : goal.returns
returns c = begun_end c.args.fragments.now c.loop-fragment.fragment-index c.loop-fragment.fronts.keys c.loop-fragment-test.false c.loop-fragment.invariant
