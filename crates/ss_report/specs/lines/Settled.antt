-- Which lines of a report leave nothing to look into.
use Rattle.std.specs.Prelude.{◌==◌, ◌&&◌, Bool, true, false}
use Rattle.ss_review.specs.report.Verdict.{is_joined}
use Rattle.ss_report.specs.lines.Lines.{ReportLine, SessionLine, OkLine, TallyLine, BlockLine, EndLine}
use Rattle.ss_report.specs.lines.Lines.{RefusedLine, UnlistedCountLine, RefusedCountLine, SpoiltCountLine}

-- A joined session, a listed message, a block, the count of the messages, and counts of nothing. A block that isn't
-- verified has another line, which leaves something.
abbrev pub is_settled : ReportLine → Bool
is_settled (SessionLine s state) = is_joined state
is_settled (OkLine s g number place) = true
is_settled (TallyLine s g t) = t.lost == 0 && t.disputed == 0 && t.holes == 0
is_settled (UnlistedCountLine count) = count == 0
is_settled (RefusedCountLine count) = count == 0
is_settled (SpoiltCountLine count) = count == 0
is_settled (BlockLine place verified s parameters) = true
is_settled (EndLine count) = true
is_settled line = false

-- The same where refused blocks are no finding. Those that aren't to be ignored have lines of their own.
abbrev pub is_settled_where : (ignoring : Bool) → ReportLine → Bool
is_settled_where false line = is_settled line
is_settled_where true (RefusedLine place) = true
is_settled_where true line = is_settled line
