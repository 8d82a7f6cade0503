use Rattle.std.proofs.Common.{refl}
use Rattle.ss_review.specs.deliveries.Delivery.{own_session}
use Rattle.ss_review.specs.deliveries.SmallChains.{small, accepting, whole}
use Rattle.ss_laws.specs.carry.CarriedNights.{nights_of}
use Rattle.ss_laws.specs.carry.cases.CounterRows.{cut_at}
use Rattle.ss_laws.specs.carry.cases.KeptTexts.{first_file, kept_log, same_answers}
use Rattle.ss_laws.specs.carry.OwnAnswers.{AgreeOnLogs}
use Rattle.ss_laws.proofs.of_carry.cases.KeptTexts.{within, first_within, second_later, follow, agree, joined_in_the_end}
use Rattle.ss_laws.proofs.of_carry.PremisesBefore.{first_agrees}
use Rattle.ss_laws.proofs.carry.cases.texts_meet_premises.Goals as goal

pub returns : goal.returns
returns c =
    let met = c.premises_are_met.ensures in
    let listed = (c.joined_by_fragments.ensures whole met.whole_is_case).1 met.has_payload in
    let joined = joined_in_the_end c.states_are_theirs.ensures c.joined_payloads_are_stated.ensures listed in
    let later = agree c.signatures_are_read.ensures in
    let answers : AgreeOnLogs accepting same_answers (cut_at 1) kept_log 1 = λ night low q h. refl in
    record {
      within = within;
      follow = follow kept_log;
      agree = later;
      joined = joined;
      answers = answers;
      first_within = first_within;
      first_follow = follow first_file;
      first_agree = first_agrees accepting (nights_of accepting (cut_at 1) first_file);
      second_later = second_later;
      greatest = c.counters_of_carried_nights.ensures accepting (cut_at 1) kept_log 1 within (follow kept_log) (own_session small) joined;
      together = c.own_logs_are_the_whole.ensures accepting same_answers (cut_at 1) kept_log 1 within (follow kept_log) answers later;
    }
