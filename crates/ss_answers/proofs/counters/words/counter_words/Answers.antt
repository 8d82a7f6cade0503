use Rattle.std.proofs.Common.{◌≡◌, ◌++◌, codes, rules}
use Rattle.ss_answers.proofs.CounterLaws.{no_counts, no_session, spells_counter}
use Rattle.ss_answers.proofs.counters.words.counter_words.Goals as goal

pub returns-in_default-session_words : goal.returns-in_default-session_words
returns-in_default-session_words c =
    let spelt : c.args.text.now ≡ codes "count " ++ c.in-Some.fields.now = search rules in
    no_session _ _ spelt c.in_default-session_words.ensures

pub returns-in_default-next_words : goal.returns-in_default-next_words
returns-in_default-next_words c =
    let spelt : c.args.text.now ≡ codes "count " ++ c.in-Some.fields.now = search rules in
    no_counts spelt c.in-Some-session_words.ensures c.in_default-next_words.ensures

pub returns : goal.returns
returns c =
    let spelt : c.args.text.now ≡ codes "count " ++ c.in-Some.fields.now = search rules in
    spells_counter spelt c.in-Some-session_words.ensures c.in-Some-next_words.ensures
