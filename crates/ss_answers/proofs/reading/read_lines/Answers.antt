use Rattle.std.proofs.Common.{◌≤◌, ◌+◌, length, length-take, arith, rules}
use Rattle.std.proofs.lemmas.Result.{err_from_is_err_and}
use Rattle.ss_answers.specs.LinesSoFar.{HasEndedBadLine}
use Rattle.ss_answers.proofs.EndedLines.{HasFirstBadLine-ended}
use Rattle.ss_answers.proofs.ReadParts.{GivesAll-behind, GivesFirst-more, GivesMore-part, IsAnswerFault-behind}
use Rattle.ss_answers.proofs.reading.read_lines.Goals as goal

pub returns-then-count-left-clause-err : goal.returns-then-count-left-clause-err
returns-then-count-left-clause-err g c =
    let short : length c.read_part.new.chunk ≤ c.loop-lines.left + 1 = omega (arith, length-take c.min-most.result c.deref_mut.result.now) in
    GivesMore-part _ _ _ _ _ _ _ _ c.loop-lines.invariant.first c.in_ok-count.ensures.ok short c.if-count-left.true

pub loop-lines-preserved : goal.loop-lines-preserved
loop-lines-preserved g c =
    let first = GivesFirst-more _ _ _ _ _ _ _ _ c.loop-lines.invariant.first c.in_ok-count.ensures.ok c.if-count-left.false in
    record {
      failed = search rules;
      chunk = omega arith;
      sound = c.in-Ok-take.ensures.sound;
      first = rw c.in-Ok-take.ensures.taken first;
    }

pub returns-in_err-skip_rest-in-Err-BadLine-clause-err : goal.returns-in_err-skip_rest-in-Err-BadLine-clause-err
returns-in_err-skip_rest-in-Err-BadLine-clause-err g c =
    let first = GivesFirst-more _ _ _ _ _ _ _ _ c.loop-lines.invariant.first c.in_ok-count.ensures.ok c.if-count-left.false in
    let p = err_from_is_err_and c.from_residual-in_err-skip_rest-in-Err-BadLine.result c.from_residual-in_err-skip_rest-in-Err-BadLine.ensures.1 in
    rw (p.1, p.2) (IsAnswerFault-behind _ _ _ _ _ _ _ first (c.in_err-skip_rest-in-Err-BadLine).ensures.err)

pub returns-in-Err-BadLine-clause-err : goal.returns-in-Err-BadLine-clause-err
returns-in-Err-BadLine-clause-err g c =
    let first = GivesFirst-more _ _ _ _ _ _ _ _ c.loop-lines.invariant.first c.in_ok-count.ensures.ok c.if-count-left.false in
    let rest = (c.in_ok-skip_rest-in-Err-BadLine).ensures.ok in
    let bad : HasEndedBadLine _ c.in-Err-BadLine.line = rw c.in-Err-BadLine.field-0-is at c.in-Err-BadLine.ensures.err in
    rw c.in-Err-BadLine.line-is (record {
      text = _;
      all = GivesAll-behind _ _ _ _ _ _ _ first rest.1;
      first = HasFirstBadLine-ended _ rest.0 _ bad;
    })
