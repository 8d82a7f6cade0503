use Rattle.std.proofs.Common.{ap, ◌∙◌, subst}
use Rattle.ss_review.specs.report.Report.{report_of}
use Rattle.ss_laws.specs.carry.Nights.{AreContents}
use Rattle.ss_laws.specs.carry.Reports.{IsPutTogether}
use Rattle.ss_laws.proofs.of_carry.ReportsTogether.{put_together}
use Rattle.ss_laws.proofs.of_carry.WholeBearers.{contents_rise}
use Rattle.ss_laws.proofs.carry.nights_are_the_whole.Goals as goal

pub returns : goal.returns
returns c = λ says x last log whole within follow leave agree.
    (let are : AreContents x.whole = (log, whole) in
    subst (λ r. IsPutTogether says x last r)
    (ap (report_of says) (c.files_are_the_whole.ensures x last are within ∙ whole))
    (put_together says x last (contents_rise x.whole are) leave
    (c.states_of_nights.ensures says x last are leave)
    (c.numbers_of_nights.ensures says x last are follow leave agree)
    (c.places_of_nights.ensures says x last are leave agree.joined)))
