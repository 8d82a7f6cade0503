use Rattle.std.proofs.Common.{◌≡◌, map, ap, ◌∙◌}
use Rattle.std.proofs.lemmas.Result.{IfOk-weaker}
use Rattle.ss_review.specs.announced.Announced.{keys}
use Rattle.ss_review.specs.report.Grouped.{numbered, with_entry, with_entries}
use Rattle.ss_review.proofs.of_reports.EntriesTold.{numbered_are}
use Rattle.ss_review.proofs.report.number_entry.with_entries.Goals as goal

pub returns : goal.returns
returns c = λ ms rs ns found.
    IfOk-weaker c.zipped.result (λ v. v.items ≡ numbered c.args.numbers.now c.args.found.now) (λ v. map with_entry v.items ≡ with_entries ms rs (keys rs))
    (λ v e. ap (map with_entry) e ∙ numbered_are ms rs c.args.numbers.now c.args.found.now ns found)
    c.zipped.ensures
