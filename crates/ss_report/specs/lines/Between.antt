-- The report of a log with what is missing beside it. It may be that of one night of sessions that go on, between two
-- counters of each group (`Between.antt` of `ss_between`). What lies below the first counters is then left out, and what
-- is announced outside of the night is reported.
use Rattle.std.specs.Prelude.{ℕ, ◌+◌, nat_lt, nat_le, Bool, false, if◌then◌else◌, Option, Some, None}
use Rattle.std.specs.Prelude.{List, [], ◌++◌, map, filter, filter_map, flat_map}
use Rattle.std.specs.List.{zip}
use Rattle.ss_block.specs.declared.block.Group.{Group}
use Rattle.ss_block.specs.declared.session.Session.{Session}
use Rattle.ss_review.specs.declared.counted.counter.Counter.{Counter}
use Rattle.ss_review.specs.declared.counted.shortfall.GroupTail.{GroupTail}
use Rattle.ss_review.specs.declared.counted.shortfall.LogShortfalls.{LogShortfalls}
use Rattle.ss_review.specs.declared.counted.shortfall.Shortfall.{Shortfall}
use Rattle.ss_review.specs.declared.report.group_report.GroupReport.{GroupReport}
use Rattle.ss_review.specs.declared.report.session_report.SessionReport.{SessionReport}
use Rattle.ss_review.specs.declared.report.report.Report.{Report}
use Rattle.ss_review.specs.sessions.Verified.{Answers}
use Rattle.ss_review.specs.declared.keep.log_blocks.LogBlock.{LogBlock}
use Rattle.ss_review.specs.keep.Contents.{blocks, contents}
use Rattle.ss_review.specs.keep.LogBlocks.{log_blocks}
use Rattle.ss_review.specs.keep.Notes.{notes}
use Rattle.ss_review.specs.pinned.Pinned.{report_by}
use Rattle.ss_review.specs.pinned.Stands.{shortfalls_by}
use Rattle.ss_between.specs.Between.{NumberRun, SessionBetween, session_between, absent_left, is_idle, shortfall_left}
use Rattle.ss_between.specs.Between.{session_left, entry_left, tail_left, number_at, gbc_at, beyond, numbers, runs}
use Rattle.ss_between.specs.Between.{runs_from}
use Rattle.ss_report.specs.declared.log.ending.Ending.{Ending}
use Rattle.ss_report.specs.declared.lines.detail.Detail.{Detail}
use Rattle.ss_report.specs.declared.lines.missing.Missing.{Missing}
use Rattle.ss_report.specs.declared.lines.outside.OpenRun.{OpenRun}
use Rattle.ss_report.specs.declared.lines.outside.Side.{Side}
use Rattle.ss_report.specs.declared.lines.outside.Side.TheVariants as sides
use Rattle.ss_report.specs.declared.runs.beside.Beside.{Beside}
use Rattle.ss_report.specs.declared.runs.beside.Beside.TheVariants as beside
use Rattle.ss_report.specs.lines.Lines.{ReportLine, EarlyLine, BeyondLine, itemized, session_lines, other_lines, lines}
use Rattle.ss_report.specs.lines.Front.{front_lines}
use Rattle.ss_report.specs.lines.Taken.{TakesAll}
use Rattle.ss_report.specs.lines.Whole.{shortfall_lines, absent_lines}
use Rattle.ss_report.specs.Verdict.{lines_verdict}
use Rattle.ss_report.specs.runs.Run.{given}
use Rattle.ss_report.specs.declared.verdict.verdict.Verdict.{Verdict}

-- ---- from the first counters on, if they are given, or else all

abbrev pub number_from : (first : Option (List Counter)) → Session → Group → ℕ
number_from None s g = 0
number_from (Some first) s g = number_at first s g

abbrev pub gbc_from : (first : Option (List Counter)) → Session → ℕ
gbc_from None s = 0
gbc_from (Some first) s = gbc_at first s

abbrev pub group_from : (first : Option (List Counter)) → Session → GroupReport → GroupReport
group_from first s g =
    record { group = g.group; entries = filter_map (entry_left (number_from first s g.group)) g.entries }

abbrev pub tail_from : (first : Option (List Counter)) → Session → GroupTail → Option GroupTail
tail_from first s t = tail_left (number_from first s t.group) t

abbrev pub session_from : (first : Option (List Counter)) → SessionReport → SessionReport
session_from None s = s
session_from (Some first) s = session_left first s

abbrev pub shortfall_from : (first : Option (List Counter)) → Shortfall → Shortfall
shortfall_from None f = f
shortfall_from (Some first) f = shortfall_left first f

abbrev pub absent_from : (first : Option (List Counter)) → List Shortfall → List Shortfall
absent_from None fs = fs
absent_from (Some first) fs = absent_left first fs

-- it sent nothing in the night
abbrev pub is_idle_from : (first : Option (List Counter)) → Shortfall → Bool
is_idle_from None f = false
is_idle_from (Some first) f = is_idle first (shortfall_left first f)

-- a session, and what is missing of it
abbrev pub between : (first second : Option (List Counter)) → SessionReport × Shortfall → SessionBetween
between None second p = record { report = p.0; early = []; beyond = beyond second p.0; short = p.1 }
between (Some first) second p = session_between first second p

-- ---- the lines

abbrev pub early_line : Session → NumberRun → ReportLine
early_line s r = EarlyLine s r.group r.first r.last

abbrev pub beyond_line : Session → NumberRun → ReportLine
beyond_line s r = BeyondLine s r.group r.first r.last

-- the lines of a session between its counters, then those of the numbers outside of the night, and then those of what
-- is missing
abbrev pub night_lines : Detail → SessionBetween → List ReportLine
night_lines detail b =
    session_lines detail b.report ++ map (early_line b.report.session) b.early
    ++ map (beyond_line b.report.session) b.beyond ++ shortfall_lines b.short

abbrev pub lines_of_night : Detail → (first second : Option (List Counter)) → SessionReport × Shortfall → List ReportLine
lines_of_night detail first second p = night_lines detail (between first second p)

-- of a session that the log has no block of, unless it sent nothing in the night
abbrev pub lines_of_absent : (first : Option (List Counter)) → Shortfall → List ReportLine
lines_of_absent first f = if is_idle_from first f then [] else absent_lines (shortfall_from first f)

-- all lines of a report, with what is missing of its sessions, and then of absent ones, between these counters, if they
-- are given
unfoldable pub lines_between :
    Detail → (first second : Option (List Counter)) → Report → LogShortfalls → Ending → List ReportLine
lines_between detail first second report short ending =
    flat_map (lines_of_night detail first second) (zip report.sessions short.known)
    ++ flat_map absent_lines (absent_from first short.absent)
    ++ other_lines detail report ending

-- all lines of a report, with what is missing beside it, if that is reported too
abbrev pub lines_beside : Detail → Report → Option Missing → Ending → List ReportLine
lines_beside detail report None ending = lines detail report ending
lines_beside detail report (Some m) ending = lines_between detail m.first m.second report m.short ending

-- the same after those in front of them
abbrev pub told_beside : Detail → List LogBlock → Report → Option Missing → Ending → List ReportLine
told_beside detail bs report missing ending = front_lines detail bs report ++ lines_beside detail report missing ending

-- those of the sessions alone
abbrev pub missing_lines : Detail → Missing → List SessionReport → List ReportLine
missing_lines detail m ss =
    flat_map (lines_of_night detail m.first m.second) (zip ss m.short.known)
    ++ flat_map absent_lines (absent_from m.first m.short.absent)

abbrev pub sessions_beside : Detail → Option Missing → List SessionReport → List ReportLine
sessions_beside detail None ss = flat_map (session_lines detail) ss
sessions_beside detail (Some m) ss = missing_lines detail m ss

-- ---- of a log

-- these counters, if they are given
abbrev pub end_counters : Option (List Counter) → List Counter
end_counters None = []
end_counters (Some counters) = counters

-- the lines with what is missing of the sessions of a log, and up to these counters, by the payloads that are known
-- beforehand, or without any
abbrev pub whole_lines_by :
    Option (List (List ℕ)) → Detail → Answers → List Counter → List (List ℕ) → Ending → List ReportLine
whole_lines_by known detail says counters messages ending =
    lines_between detail None None (report_by known says (contents (notes messages)))
    (shortfalls_by known says messages counters) ending

-- the same between these counters
abbrev pub between_lines_by :
    Option (List (List ℕ)) → Detail → Answers → (first : List Counter) → (second : Option (List Counter))
    → List (List ℕ) → Ending → List ReportLine
between_lines_by known detail says first second messages ending =
    lines_between detail (Some first) second (report_by known says (contents (notes messages)))
    (shortfalls_by known says messages (end_counters second)) ending

-- the lines of a log with what is to be reported beside its report
abbrev pub lines_by :
    Option (List (List ℕ)) → Detail → Answers → Beside → List (List ℕ) → Ending → List ReportLine
lines_by known detail says beside.Nothing messages ending =
    lines detail (report_by known says (contents (notes messages))) ending
lines_by known detail says (beside.Missing up_to) messages ending =
    whole_lines_by known detail says (end_counters (given up_to)) messages ending
lines_by known detail says (beside.Night first second) messages ending =
    between_lines_by known detail says first.now (given second) messages ending

-- the lines in front of those of a log, by the payloads that are known beforehand, or without any
abbrev pub front_by : Option (List (List ℕ)) → Detail → Answers → List (List ℕ) → List ReportLine
front_by known detail says messages =
    front_lines detail (log_blocks (blocks (notes messages))) (report_by known says (contents (notes messages)))

-- ---- verdicts: clean where none of the lines leaves anything to look into

abbrev pub whole_verdict_by : Option (List (List ℕ)) → Answers → List Counter → List (List ℕ) → Ending → Verdict
whole_verdict_by known says counters messages ending =
    lines_verdict (whole_lines_by known itemized says counters messages ending)

-- between counters, without any payloads that are known beforehand
abbrev pub between_verdict :
    Answers → (first : List Counter) → (second : Option (List Counter)) → List (List ℕ) → Ending → Verdict
between_verdict says first second messages ending =
    lines_verdict (between_lines_by None itemized says first second messages ending)

-- ---- the numbers outside of a night, one by one

-- whether the number of a group with this counter lies on this side of the night
abbrev pub is_outside : Side → (counter number : ℕ) → Bool
is_outside sides.Early counter number = nat_lt number counter
is_outside sides.Beyond counter number = nat_le counter number

abbrev pub outside_line : Side → Session → NumberRun → ReportLine
outside_line sides.Early s r = early_line s r
outside_line sides.Beyond s r = beyond_line s r

-- the announced numbers of a group with this counter on this side of the night
abbrev pub outside : Side → (counter : ℕ) → GroupReport → List NumberRun
outside side counter g = runs g.group (filter (is_outside side counter) (numbers g))

abbrev pub group_lines_outside : Side → List Counter → Session → GroupReport → List ReportLine
group_lines_outside side counters s g =
    map (outside_line side s) (outside side (number_at counters s g.group) g)

-- those of a session, if there are counters on this side of the night
abbrev pub lines_outside : Side → Option (List Counter) → SessionReport → List ReportLine
lines_outside side None r = []
lines_outside side (Some counters) r = flat_map (group_lines_outside side counters r.session) r.groups

-- the greatest runs of rising numbers, of which the first may go on with an open one
abbrev pub runs_with : Group → OpenRun → List ℕ → List NumberRun
runs_with g run ns = runs_from g run.first (run.last + 1) ns

-- From one state to another these numbers are looked at, with one run open before and another one after. Whoever then
-- visits the runs of some others, has visited those of all.
abbrev pub GoesOn :
    {S : Type 0} → (S → S → ReportLine → Type 0) → (NumberRun → ReportLine) → Group → (before after : S)
    → (was is : OpenRun) → List ℕ → Type 0
GoesOn takes line g before after was is ns =
    (end : _) (others : List ℕ) → TakesAll takes after end (map line (runs_with g is others))
    → TakesAll takes before end (map line (runs_with g was (ns ++ others)))
