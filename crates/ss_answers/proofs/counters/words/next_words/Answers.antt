use Rattle.std.proofs.Common.{sym, ◌∙◌}
use Rattle.ss_answers.proofs.CounterWords.{no_next, spells_blocks}
use Rattle.ss_answers.proofs.counters.words.next_words.Goals as goal

pub returns-in-Some : goal.returns-in-Some
returns-in-Some c = spells_blocks c.args.text.now _ (sym c.number_of.ensures ∙ c.in-Some.is)

pub returns-in-None : goal.returns-in-None
returns-in-None c = no_next c.args.text.now (sym c.number_of.ensures ∙ c.in_default.is) c.in-None.ensures
