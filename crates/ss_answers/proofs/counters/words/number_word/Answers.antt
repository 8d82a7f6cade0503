use Rattle.std.proofs.Common.{arith, sym, ◌∙◌}
use Rattle.ss_answers.proofs.CounterWords.{begins_with_number, no_number-cut, no_number-uncut}
use Rattle.ss_answers.proofs.counters.words.number_word.Goals as goal

pub returns-in_default : goal.returns-in_default
returns-in_default c = no_number-uncut c.args.least c.args.most c.args.text.now c.in_default.ensures

pub returns-in-Some-number_of : goal.returns-in-Some-number_of
returns-in-Some-number_of c =
    begins_with_number c.args.least c.args.most _ c.args.text.now _ _ c.in-Some.ensures.1 (sym c.number_of.ensures ∙ c.in-Some-number_of.is)

pub returns-in-None : goal.returns-in-None
returns-in-None c =
    no_number-cut c.args.least c.args.most c.args.text.now _ _ (omega arith) c.in-Some.ensures.0 c.in-Some.ensures.1 (sym c.number_of.ensures ∙ c.in-None.is)
