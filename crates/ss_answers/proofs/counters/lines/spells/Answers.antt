use Rattle.std.proofs.Common.{arith, ap, sym, ◌∙◌}
use Rattle.std.specs.Fmt.{decimal}
use Rattle.ss_block.proofs.Values.{in_range}
use Rattle.ss_answers.proofs.CounterWords.{no_number, number_is}
use Rattle.ss_answers.proofs.counters.lines.spells.Goals as goal

pub returns-in-Some-clause-yes : goal.returns-in-Some-clause-yes
returns-in-Some-clause-yes c is =
    let some = sym c.number_of.ensures ∙ c.in-Some.is in
    let within = in_range c.args.number c.args.number c.args.text.now _ some in
    number_is c.args.number c.args.number c.args.text.now _ some ∙ ap decimal (omega (arith, within.0, within.1))

pub returns-in-None-clause-no : goal.returns-in-None-clause-no
returns-in-None-clause-no c is spelt =
    no_number c.args.number c.args.number c.args.text.now c.args.number (omega (arith, c.ranges.number)) (sym c.number_of.ensures ∙ c.in-None.is) (omega arith) (omega arith) spelt
