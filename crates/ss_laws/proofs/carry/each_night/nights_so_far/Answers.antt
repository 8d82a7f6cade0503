use Rattle.ss_laws.proofs.of_carry.ReportsTogether.{put_together}
use Rattle.ss_laws.proofs.of_carry.WholeBearers.{contents_rise}
use Rattle.ss_laws.proofs.carry.each_night.nights_so_far.Goals as goal

pub returns : goal.returns
returns c = λ says x night are follow leave agree.
    put_together says x night (contents_rise x.whole are) leave
    (c.states_of_nights.ensures says x night are leave)
    (c.numbers_of_nights.ensures says x night are follow leave agree)
    (c.places_of_nights.ensures says x night are leave agree.joined)
