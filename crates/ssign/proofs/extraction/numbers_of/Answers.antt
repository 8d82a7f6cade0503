use Rattle.std.proofs.Common.{sym}
use Rattle.ssign.proofs.SpelledNumbers.{spells_one_more, spelled_there}
use Rattle.ssign.proofs.extraction.numbers_of.Goals as goal

pub returns-in_default-clause-none : goal.returns-in_default-clause-none
returns-in_default-clause-none c = λ is ns all small.
    let there = spelled_there c.args.texts.now c.loop-text.text-index _ ns c.loop-text-test.true all small in
    c.in_default.ensures.value.0 (there.1.0, rw there.1.1 there.2)

pub loop-text-preserved : goal.loop-text-preserved
loop-text-preserved c =
    let read = c.in-Ok.ensures.value in
    rw c.in_ok-push.ensures.items (spells_one_more c.args.texts.now c.loop-text.text-index _ c.loop-text.numbers.items c.in-Ok.number c.loop-text-test.true c.loop-text.invariant (read.0.0.0, sym read.0.1))
