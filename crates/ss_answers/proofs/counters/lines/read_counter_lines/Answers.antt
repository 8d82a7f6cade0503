use Rattle.std.proofs.Common.{◌≡◌, ◌-◌, ◌++◌, codes, length, arith, rules}
use Rattle.ss_answers.proofs.CounterParts.{begun_is, end_more, wrong_more}
use Rattle.ss_answers.proofs.counters.lines.read_counter_lines.Goals as goal

pub returns-then-not-spells-clause-err : goal.returns-then-not-spells-clause-err
returns-then-not-spells-clause-err c =
    let at = c.loop-rest.invariant.stands in
    let count = length c.loop-rest.counters.items - c.loop-rest.ended in
    let end : c.in-Some.line.now ≡ codes "end " ++ c.in-Some-strip_prefix.said.now = search rules in
    wrong_more at c.in-Some.line.now c.in-Some-strip_prefix.said.now c.in-Some.after.now c.in-Some.ensures.cut.1 end c.in-Some.ensures.cut.0
    count (omega (arith, begun_is at)) (search (rules, c.if-not-spells.ensures.no, c.if-not-spells.true))

pub loop-rest-preserved-else-not-spells : goal.loop-rest-preserved-else-not-spells
loop-rest-preserved-else-not-spells c =
    let at = c.loop-rest.invariant.stands in
    let count = length c.loop-rest.counters.items - c.loop-rest.ended in
    let end : c.in-Some.line.now ≡ codes "end " ++ c.in-Some-strip_prefix.said.now = search rules in
    record {
      stands = end_more at c.in-Some.line.now c.in-Some-strip_prefix.said.now c.in-Some.after.now c.in-Some.ensures.cut.1 end count c.len-ended.result
          (omega (arith, begun_is at)) (search rules) (search (rules, c.if-not-spells.ensures.yes, c.if-not-spells.false));
      counted = omega (arith, c.loop-rest.invariant.counted, c.in-Some.ensures.shorter);
    }
