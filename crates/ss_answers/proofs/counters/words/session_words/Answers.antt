use Rattle.ss_answers.proofs.CounterWords.{begins_with_session, no_app, no_host, no_procid, no_rsid}
use Rattle.ss_answers.proofs.counters.words.session_words.Goals as goal

pub returns-in_default : goal.returns-in_default
returns-in_default c = no_host c.args.text.now c.in_default.ensures

pub returns-in_default-field_word : goal.returns-in_default-field_word
returns-in_default-field_word c = no_app c.in-Some.ensures c.in_default-field_word.ensures

pub returns-in_default-field_word-2 : goal.returns-in_default-field_word-2
returns-in_default-field_word-2 c = no_procid c.in-Some.ensures c.in-Some-field_word.ensures c.in_default-field_word-2.ensures

pub returns-in_default-number_word : goal.returns-in_default-number_word
returns-in_default-number_word c =
    no_rsid c.in-Some.ensures c.in-Some-field_word.ensures c.in-Some-field_word-2.ensures c.in_default-number_word.ensures

pub returns : goal.returns
returns c =
    begins_with_session c.in-Some.ensures c.in-Some-field_word.ensures c.in-Some-field_word-2.ensures c.in-Some-number_word.ensures
