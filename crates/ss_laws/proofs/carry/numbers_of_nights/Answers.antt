use Rattle.ss_laws.proofs.of_carry.NumbersTogether.{listed_together, disputed_together, lost_together, unlisted_together}
use Rattle.ss_laws.proofs.of_carry.SettledKeys.{AgreeButLost}
use Rattle.ss_laws.proofs.carry.numbers_of_nights.Goals as goal

pub returns : goal.returns
returns c = λ says x last are follow leave agree.
    (let stays = c.verified_stay.ensures in
    let states = c.states_of_nights.ensures in
    let announced = c.announced_of_nights.ensures in
    let but : AgreeButLost says x last = record { joined = agree.joined; hash = agree.hash; again = agree.again; collision = agree.collision } in
    record {
      listed = λ k p. listed_together x says are follow stays states announced last leave but p agree.lost k;
      disputed = disputed_together x says are follow stays states announced last leave but;
      lost = lost_together x says are follow stays states announced last leave but agree.lost;
      unlisted = unlisted_together x says are follow stays states announced last leave but;
    })
