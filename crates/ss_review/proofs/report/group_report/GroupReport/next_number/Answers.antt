use Rattle.std.proofs.Common.{◌+◌, drop, get_or, sym, ap, ◌∙◌}
use Rattle.std.proofs.lemmas.List.{drop_more}
use Rattle.ss_review.specs.declared.report.entry.Entry.TheVariants as entry
use Rattle.ss_review.specs.counted.Counted.{next_number}
use Rattle.ss_review.proofs.of_reports.NextNumbers.{behind, behind_next}
use Rattle.ss_review.proofs.report.group_report.GroupReport.next_number.Goals as goal

pub loop-entry-init : goal.loop-entry-init
unfolding next_number
loop-entry-init c = λ small. ap (behind 0) c.as_slice-entry-items.ensures

pub loop-entry-preserved : goal.loop-entry-preserved
loop-entry-preserved c = λ small.
    let es = c.as_slice-entry-items.result.now in
    let i = c.loop-entry.entry-index in
    let next = c.loop-entry.next in
    let here = drop_more es i (entry.Listed 0 0) c.loop-entry-test.true in
    ap (λ n. behind n (drop (i + 1) es)) c.max-next.ensures
    ∙ behind_next next c.next_behind.result (get_or es i (entry.Listed 0 0)) (drop (i + 1) es) (next_number c.args.self.now) small (ap (behind next) (sym here) ∙ c.loop-entry.invariant small) c.next_behind.ensures
