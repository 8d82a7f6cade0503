-- Whether a log leaves anything to look into.
use Rattle.std.specs.Prelude.{Bool, true, false, ◌&&◌, if◌then◌else◌, List}
use Rattle.std.specs.List.{list_all}
use Rattle.ss_frame.specs.declared.step.Tail.{Tail}
use Rattle.ss_frame.specs.declared.step.Tail.TheVariants as tails
use Rattle.ss_review.specs.declared.report.report.Report.{Report}
use Rattle.ss_review.specs.report.Verdict.{is_none}
use Rattle.ss_report.specs.declared.log.ending.Ending.{Ending}
use Rattle.ss_report.specs.lines.Lines.{ReportLine, itemized, lines}
use Rattle.ss_report.specs.lines.Settled.{is_settled, is_settled_where}
use Rattle.ss_report.specs.declared.verdict.verdict.Verdict.{Verdict}
use Rattle.ss_report.specs.declared.verdict.verdict.Verdict.TheVariants as verdicts

-- clean where all lines are settled
abbrev pub verdict_of : Bool → Verdict
verdict_of settled = if settled then verdicts.Clean else verdicts.Findings

abbrev pub is_clean_tail : Tail → Bool
is_clean_tail tails.Clean = true
is_clean_tail (tails.Torn pos) = false

-- nothing is damaged, and the end is clean
abbrev pub is_clean_ending : Ending → Bool
is_clean_ending ending = is_none ending.damaged && is_clean_tail ending.tail

-- clean where this is so
abbrev pub end_verdict : Ending → Verdict
end_verdict ending = verdict_of (is_clean_ending ending)

-- clean where none of these lines leaves anything to look into
abbrev pub lines_verdict : List ReportLine → Verdict
lines_verdict ls = verdict_of (list_all is_settled ls)

-- the same, where refused blocks may be no finding
abbrev pub verdict_where : (ignoring : Bool) → List ReportLine → Verdict
verdict_where ignoring ls = verdict_of (list_all (is_settled_where ignoring) ls)

-- clean where no line of the report on a log with this ending leaves anything to look into
abbrev pub report_verdict : Report → Ending → Verdict
report_verdict report ending = lines_verdict (lines itemized report ending)
