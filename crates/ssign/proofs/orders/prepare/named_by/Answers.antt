use Rattle.std.proofs.Common.{Some, refl}
use Rattle.ssign.proofs.AskedFiles.{objects_of, plain_of}
use Rattle.ssign.proofs.Limits.{limits_given}
use Rattle.ssign.proofs.Readings.{reading_given, salvaged_lines}
use Rattle.ssign.proofs.orders.prepare.named_by.Goals as goal

pub returns-in-None-reading_of : goal.returns-in-None-reading_of
returns-in-None-reading_of c =
    let limits = limits_given c.args.options.now (Some c.in-Some.limits) c.in-Some.ensures.value c.in-Some.ensures.numbers in
    (refl, (c.in-Some.limits, limits), salvaged_lines c.args.options.now c.in-Some.limits limits c.in-None-reading_of.ensures.value)

pub returns-in-Err : goal.returns-in-Err
returns-in-Err c =
    let limits = limits_given c.args.options.now (Some c.in-Some.limits) c.in-Some.ensures.value c.in-Some.ensures.numbers in
    let reading = reading_given c.args.options.now c.in-Some.limits c.in-Some-reading_of.reading limits c.in-Some-reading_of.ensures.value c.in-Some-reading_of.ensures.limits in
    ((c.in-Some-reading_of.reading, reading), c.in-Err.ensures)

pub returns-then-are_plain_facts : goal.returns-then-are_plain_facts
returns-then-are_plain_facts c =
    let limits = limits_given c.args.options.now (Some c.in-Some.limits) c.in-Some.ensures.value c.in-Some.ensures.numbers in
    let reading = reading_given c.args.options.now c.in-Some.limits c.in-Some-reading_of.reading limits c.in-Some-reading_of.ensures.value c.in-Some-reading_of.ensures.limits in
    ((c.in-Some-reading_of.reading, reading), (c.in-Ok.extraction, c.in-Ok.ensures), plain_of _ _ _ c.are_plain_facts.ensures c.if-are_plain_facts.true)

pub returns : goal.returns
returns c =
    let limits = limits_given c.args.options.now (Some c.in-Some.limits) c.in-Some.ensures.value c.in-Some.ensures.numbers in record {
      reading = reading_given c.args.options.now c.in-Some.limits c.in-Some-reading_of.reading limits c.in-Some-reading_of.ensures.value c.in-Some-reading_of.ensures.limits;
      extraction = c.in-Ok.ensures;
      objects = objects_of _ _ _ c.are_plain_facts.ensures c.if-are_plain_facts.false;
    }
