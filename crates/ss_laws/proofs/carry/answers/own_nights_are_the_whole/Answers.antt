use Rattle.std.proofs.Common.{arith}
use Rattle.ss_review.specs.report.Report.{report}
use Rattle.ss_laws.proofs.of_carry.OwnTogether.{put_together_by_own}
use Rattle.ss_laws.proofs.carry.answers.own_nights_are_the_whole.Goals as goal

pub returns : goal.returns
returns c = λ says own x last log whole within follow agree leave later.
    (let alike = c.nights_by_own_answers.ensures says own x last agree in
    put_together_by_own says own x last alike (report says log)
    (c.nights_are_the_whole.ensures says x last log whole within follow (λ night low. (alike night (omega (arith, low))).enough.0 (leave night low)) later))
