use Rattle.std.proofs.Common.{ap, ◌∙◌}
use Rattle.ss_report.specs.lines.Between.{told_beside}
use Rattle.ss_report.specs.lines.Lines.{itemizing}
use Rattle.ss_report.specs.lines.Settled.{is_settled_where}
use Rattle.ss_report.specs.Verdict.{verdict_of}
use Rattle.ss_report.proofs.of_reports.TakenLines.{all_settled}
use Rattle.ss_report.proofs.verdict.verdict.told_verdict.Goals as goal

pub returns : goal.returns
returns c = λ ready.
    c.verdict_of.ensures ∙ ap verdict_of (all_settled (is_settled_where c.args.detail.ignore_strangers) _ (told_beside (itemizing c.args.detail) c.args.front.now.blocks c.args.report.now c.args.missing.now c.args.ending.now) ((rw c.itemized-each.ensures at c.walk_told.ensures) (record { rising = ready.rising; suspects = ready.suspects })))
