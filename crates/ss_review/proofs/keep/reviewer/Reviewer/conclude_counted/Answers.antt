use Rattle.std.proofs.Common.{◌≡◌, List, sym, ap, ◌∙◌, subst}
use Rattle.ss_review.specs.keep.Contents.{contents}
use Rattle.ss_review.specs.counted.Counted.{counted_sessions}
use Rattle.ss_review.specs.keep.Keeping.{Keeps}
use Rattle.ss_review.specs.Laws.{ListsWhatIsAnnounced}
use Rattle.ss_review.specs.keep.Notes.{Note, notes}
use Rattle.ss_review.specs.report.Report.{report_of}
use Rattle.ss_review.specs.questions.Questions.{questions, AreAskable}
use Rattle.ss_review.specs.sessions.Verified.{answers}
use Rattle.ss_review.proofs.of_kept_messages.PlacesRise.{normals_rise}
use Rattle.ss_review.proofs.keep.reviewer.Reviewer.conclude_counted.Goals as goal

pub review_counted-requires-clause-askable : goal.review_counted-requires-clause-askable
review_counted-requires-clause-askable g c = subst (λ bs. AreAskable g.J.Judge.askable c.args.judge (questions bs)) (sym c.in_ok-blocks.ensures) c.requires.askable

pub returns : goal.returns
returns g c =
    let self = c.args.self in
    let says = answers g.J.Judge.trusted g.J.Judge.valid c.args.judge in
    let told = c.in_ok-review_counted.ensures in
    let report : (ns : List Note) → Keeps self ns → c.in_ok-review_counted.field-0.report ≡ report_of says (contents ns)
    = λ ns k. told.report (contents ns) (k.normal, normals_rise ns) (c.in_ok-blocks.ensures ∙ k.blocks) (c.as_slice.ensures.value ∙ k.spoilt) k.count in
    record {
      report = report;
      counted = λ ns k. told.counted ∙ ap (counted_sessions says) (c.in_ok-blocks.ensures ∙ k.blocks);
      listed = λ log k. subst (ListsWhatIsAnnounced says log) (sym (report (notes log) k)) (c.reports_list_what_is_announced.ensures says log);
      fault = tt;
    }
