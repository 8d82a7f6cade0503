use Rattle.std.proofs.Common.{sym, ◌∙◌}
use Rattle.ss_answers.proofs.CounterWords.{no_word-cut, no_word-uncut}
use Rattle.ss_answers.proofs.counters.words.field_word.Goals as goal

pub returns-in_default : goal.returns-in_default
returns-in_default c = no_word-uncut c.args.limit c.args.text.now c.in_default.ensures

pub returns-else-is_text : goal.returns-else-is_text
returns-else-is_text c =
    no_word-cut c.args.limit c.args.text.now _ _ c.in-Some.ensures.0 c.in-Some.ensures.1 (sym c.is_text.ensures ∙ c.if-is_text.false)
