use Rattle.ss_laws.proofs.of_strangers.cases.SmallAnswers.{small_answers}
use Rattle.ss_laws.proofs.strangers.cases.small_answers_are_these.Goals as goal

pub returns : goal.returns
returns c =
    small_answers c.readings_are_of_values.ensures c.signatures_are_read.ensures c.certificates_are_read.ensures
    c.agreeing_schemes_give_one_pinned_report.ensures c.small_unforged_is_this.ensures
