use Rattle.std.proofs.lemmas.Result.{err_from_is_err_and}
use Rattle.ss_review.specs.sessions.Verified.{answers}
use Rattle.ss_report.specs.lines.Front.{IsReady}
use Rattle.ss_report.specs.runs.Run.{given}
use Rattle.ss_report.proofs.of_reports.WholeLines.{makes_beside}
use Rattle.ss_report.proofs.runs.open_review.review_fed.Goals as goal

pub returns-clause-made : goal.returns-clause-made
returns-clause-made g c = λ options before after fed.
    let says = answers g.J.Judge.trusted g.J.Judge.valid c.args.judge in
    let found = c.in_ok-report.field-0 in
    let bs = c.in_ok-blocks.blocks in
    let up = c.in_ok-report.ensures.rising fed.messages fed.keeps in
    let ready : IsReady c.args.detail (record { blocks = bs; suspects = c.in_ok-suspects.suspects }) found.report
    = record { rising = up.refused; suspects = (rw c.as_slice.ensures at c.in_ok-suspects.ensures.found) up } in
    let judged = c.told_verdict-verdict.ensures ready in
    λ form. makes_beside form c.args.detail c.args.beside (given c.args.known) says _ _ _ fed.messages c.args.fed.ending fed.reading fed.no_read_failed bs found.report found.missing _ (c.in_ok-blocks.ensures.same fed.messages fed.keeps) (c.in_ok-report.ensures.told fed.messages fed.keeps) (c.in_ok-report.ensures.made fed.messages fed.keeps) judged

pub returns-clause-ready : goal.returns-clause-ready
returns-clause-ready g c = λ options before after fed.
    let up = c.in_ok-report.ensures.rising fed.messages fed.keeps in
    record { rising = up.refused; suspects = (rw c.as_slice.ensures at c.in_ok-suspects.ensures.found) up }

pub returns-in_err-blocks-clause-made : goal.returns-in_err-blocks-clause-made
returns-in_err-blocks-clause-made g c = λ options before after fed.
    let p = err_from_is_err_and c.from_residual.result c.from_residual.ensures.1 in
    rw (p.1, p.2) (c.in_err-blocks.ensures.stops options before after fed.no_read_failed)

pub returns-in_err-report-clause-made : goal.returns-in_err-report-clause-made
returns-in_err-report-clause-made g c = λ options before after fed.
    let p = err_from_is_err_and c.from_residual-in_err-report.result c.from_residual-in_err-report.ensures.1 in
    rw (p.1, p.2) (c.in_err-report.ensures.stops options before after fed.no_read_failed)
