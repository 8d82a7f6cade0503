use Rattle.std.specs.Prelude.{◌∷◌}
use Rattle.ss_laws.proofs.ahead.restarts_hide_nothing.Goals as goal

pub returns : goal.returns
returns c = λ x newest older is delivers cs newer.
    (record {
      once = c.numbers_are_given_once.ensures x.s (newest ∷ older) is.chain;
      undisputed = c.nothing_is_disputed.ensures x (newest ∷ older) is delivers;
      lost = c.lost_are_reported_by_the_newest_counters.ensures x newest older is delivers cs newer;
    })
