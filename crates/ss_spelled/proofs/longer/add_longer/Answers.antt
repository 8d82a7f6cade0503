use Rattle.std.proofs.Common.{take}
use Rattle.ss_spelled.proofs.Joined.{joined_none, joined_same, joined_more, joined_step, joined_end}
use Rattle.ss_spelled.proofs.longer.add_longer.Goals as goal
use Rattle.ss_spelled.proofs.longer.add_longer.Goals.{in-Some+in_ok-text+in_ok-insert, in_default}

pub loop-fragment-init : goal.loop-fragment-init
loop-fragment-init c = joined_none c.args.front.now c.args.waiting.now.keys

pub loop-fragment-preserved : goal.loop-fragment-preserved
loop-fragment-preserved c =
    joined_step c.args.front.now c.args.fragments.now c.loop-fragment.fragment-index c.fragment-item.result c.args.waiting.now.keys c.match-tail_of.waiting.keys c.loop-fragment-test.true c.fragment-item.is
    (elim c.match-tail_of.branch [
      | in-Some+in_ok-text+in_ok-insert w ↦
          (let text = w.in_ok-text.ensures in
          rw (w.waiting-is, w.in_ok-insert.ensures.keys, text, w.as_slice.ensures)
          (joined_more c.args.front.now (take c.loop-fragment.fragment-index c.args.fragments.now) c.fragment-item.result w.in-Some.tail.now c.args.waiting.now.keys c.loop-fragment.waiting.keys c.loop-fragment.invariant w.in-Some.ensures.some))
      | in_default w ↦ rw w.waiting-is (joined_same c.args.front.now (take c.loop-fragment.fragment-index c.args.fragments.now) c.fragment-item.result c.args.waiting.now.keys c.loop-fragment.waiting.keys c.loop-fragment.invariant w.in_default.ensures.none)
    ])

pub returns : goal.returns
returns c = joined_end c.args.front.now c.args.fragments.now c.loop-fragment.fragment-index c.args.waiting.now.keys c.loop-fragment.waiting.keys c.loop-fragment-test.false c.loop-fragment.invariant
