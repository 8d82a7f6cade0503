-- Each row is computed.
use Rattle.std.proofs.Common.{refl}
use Rattle.ss_review.specs.counted.Counted.{next_number, missing}
use Rattle.ss_review.specs.counted.Kept.{gbc_in, number_in, groups_in, kept_sessions, tails_in, log_shortfalls}
use Rattle.ss_review.specs.Ordered.{in_order}
use Rattle.ss_review.proofs.laws.kept.shortfalls_are_these.Goals as goal

pub returns : goal.returns
unfolding next_number missing gbc_in number_in groups_in kept_sessions tails_in log_shortfalls in_order
returns c = record {
  no_counter = refl;
  end_gone = refl;
  group_gone = refl;
  session_gone = refl;
  session_gone_unused = refl;
  older_than_the_log = refl;
  as_far_as_the_log = refl;
  named_twice = refl;
  in_any_order = refl;
}
