use Rattle.std.proofs.Common.{◌≤◌, ◌+◌, length, length-take, arith, rules}
use Rattle.ss_answers.proofs.ReadParts.{GivesFirst-more, GivesMore-part}
use Rattle.ss_answers.proofs.input.skip_rest.Goals as goal

pub returns-then-count-left-clause-err : goal.returns-then-count-left-clause-err
returns-then-count-left-clause-err g c =
    let short : length c.read_part.new.chunk ≤ c.loop-count.left + 1 = omega (arith, length-take c.min-most.result c.loop-count.chunk) in
    GivesMore-part _ _ _ _ _ _ _ _ c.loop-count.invariant.first c.in_ok-count.ensures.ok short c.if-count-left.true

pub loop-count-preserved : goal.loop-count-preserved
loop-count-preserved g c = record {
  failed = search rules;
  text = _;
  first = GivesFirst-more _ _ _ _ _ _ _ _ c.loop-count.invariant.first c.in_ok-count.ensures.ok c.if-count-left.false;
}
