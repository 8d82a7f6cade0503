-- A small chain of nights that meets the premises.
use Rattle.std.specs.Prelude.{List, [], ◌∷◌}
use Rattle.ss_review.specs.deliveries.SmallChains.{accepting, whole}
use Rattle.ss_laws.specs.nights.CleanLaws.{Night, AreCleanNights}
use Rattle.ss_laws.specs.nights.SmallNights.{small_end}
use Rattle.ss_laws.specs.nights.WholeNights.{HaveOnePayload, HaveNoTwins}

-- a night with one message, and one in which nothing was sent
abbrev pub small_nights : List Night
small_nights = record { log = whole.log; end = small_end } ∷ record { log = []; end = small_end } ∷ []

pub record PremisesAreMet : Type 0 where
  pub follow : AreCleanNights accepting [] small_nights
  pub one_payload : HaveOnePayload accepting small_nights
  pub no_twins : HaveNoTwins small_nights
