use Rattle.std.proofs.Common.{sym, ◌∙◌}
use Rattle.ss_answers.proofs.CounterWords.{no_group_number, no_spri, spells_group}
use Rattle.ss_answers.proofs.counters.words.group_words.Goals as goal

pub returns-in_default-number_word : goal.returns-in_default-number_word
returns-in_default-number_word c = no_spri c.in-Some.ensures c.in_default-number_word.ensures

pub returns-in_default-number_of : goal.returns-in_default-number_of
returns-in_default-number_of c =
    no_group_number c.in-Some.ensures c.in-Some-number_word.ensures (sym c.number_of.ensures ∙ c.in_default-number_of.is)

pub returns : goal.returns
returns c = spells_group c.in-Some.ensures c.in-Some-number_word.ensures (sym c.number_of.ensures ∙ c.in-Some-number_of.is)
