use Rattle.std.proofs.Common.{arith}
use Rattle.ss_laws.proofs.carry.each_night.each_night_so_far.Goals as goal

pub returns : goal.returns
returns c = λ says x last are follow leave agree night low behind.
    (let before = c.agree_before.ensures says x last are leave agree night low in
    c.nights_so_far.ensures says x night are follow (λ i below. leave i (omega (arith, below, low)))
    (record { joined = before.joined; hash = before.hash; again = before.again; lost = behind; collision = before.collision }))
