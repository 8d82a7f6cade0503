use Rattle.std.proofs.Common.{◌∙◌}
use Rattle.ss_frame.specs.declared.step.Tail.TheVariants as tails
use Rattle.ss_report.specs.log.Log.{undamaged}
use Rattle.ss_report.proofs.of_reports.TakenLines.{all_kept}
use Rattle.ss_report.proofs.lines.listed.listed_places.Goals as goal

pub returns : goal.returns
returns c =
    c.from_vec.ensures ∙ all_kept _ _ c.args.report.now (undamaged tails.Clean) (rw (c.undamaged-ending.ensures, c.of-each.ensures) at c.walk_lines.ensures) c.if-failed.false c.new.ensures.items
