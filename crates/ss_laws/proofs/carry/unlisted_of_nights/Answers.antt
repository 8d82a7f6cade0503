use Rattle.ss_laws.proofs.of_carry.NumbersTogether.{unlisted_together}
use Rattle.ss_laws.proofs.carry.unlisted_of_nights.Goals as goal

pub returns : goal.returns
returns c = λ says x last are follow leave joined hash again collision.
    unlisted_together x says are follow c.verified_stay.ensures c.states_of_nights.ensures c.announced_of_nights.ensures last leave
    (record { joined = joined; hash = hash; again = again; collision = collision })
