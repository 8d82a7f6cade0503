-- Each row is computed.
use Rattle.std.proofs.Common.{refl}
use Rattle.ss_review.specs.counted.Kept.{gbc_in, number_in, kept_sessions}
use Rattle.ss_review.specs.Ordered.{in_order}
use Rattle.ss_between.specs.Between.{entry_left, tail_left, run_left, shortfall_left, absent_left, numbers_between, runs_from, early_of, beyond_of, beyond, session_between}
use Rattle.ss_laws.proofs.nights.cases.nights_leave_these.Goals as goal

pub returns : goal.returns
unfolding gbc_in number_in kept_sessions in_order entry_left tail_left run_left shortfall_left absent_left numbers_between runs_from early_of beyond_of beyond session_between
returns c = record {
  both = refl;
  no_end = refl;
  no_counter = refl;
  sent_nothing = refl;
  sent_more = refl;
  begun_in_the_night = refl;
}
