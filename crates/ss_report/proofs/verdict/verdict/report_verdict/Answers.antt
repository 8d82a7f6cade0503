use Rattle.std.proofs.Common.{false, ap, ◌∙◌}
use Rattle.ss_report.specs.lines.Lines.{itemized, lines}
use Rattle.ss_report.specs.lines.Settled.{is_settled_where}
use Rattle.ss_report.specs.Verdict.{verdict_of}
use Rattle.ss_report.proofs.of_reports.TakenLines.{all_settled}
use Rattle.ss_report.proofs.verdict.verdict.report_verdict.Goals as goal

pub returns : goal.returns
returns c =
    c.verdict_of.ensures ∙ ap verdict_of (all_settled (is_settled_where false) _ (lines itemized c.args.report.now c.args.ending.now) (rw c.of-each.ensures at c.walk_lines.ensures))
