use Rattle.ss_laws.proofs.of_carry.ListedAnnounced.{listed_announced}
use Rattle.ss_laws.proofs.of_carry.WholeBearers.{contents_rise}
use Rattle.ss_laws.proofs.carry.listed_are_announced.Goals as goal

pub returns : goal.returns
returns c = λ says x last are leave night k place p low l pair joined.
    (let w = listed_announced x says (contents_rise x.whole are) night k place p l pair in
    (w.0, (c.announced_of_nights.ensures says x last are leave k w.0).1 (joined, (night, low, w.1)), w.2))
