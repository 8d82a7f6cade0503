-- What is missing beside the report of a log. Signature blocks are missing by their Global Block Counter, GBC:
-- how many were sent before them in their session, in all groups (RFC 5848, section 4.2.4). Up to counters that were
-- kept elsewhere, messages of each group are missing, and sessions of which the log has no block.
use Rattle.std.specs.Prelude.{List, ◌∷◌, ◌++◌, map}
use Rattle.ss_block.specs.declared.session.Session.{Session}
use Rattle.ss_review.specs.declared.counted.counter.Counter.{Counter}
use Rattle.ss_review.specs.declared.counted.missing.MissingRun.{MissingRun}
use Rattle.ss_review.specs.declared.counted.shortfall.GroupTail.{GroupTail}
use Rattle.ss_review.specs.declared.counted.shortfall.Shortfall.{Shortfall}
use Rattle.ss_review.specs.keep.BlockMessage.{BlockMessage}
use Rattle.ss_review.specs.sessions.Verified.{Answers}
use Rattle.ss_review.specs.counted.Counted.{gbcs, missing}
use Rattle.ss_review.specs.counted.CountedLaws.{AreMissing, IsCounted}
use Rattle.ss_review.specs.counted.Kept.{counters_of, end_of_blocks}
use Rattle.ss_report.specs.lines.Lines.{ReportLine, TailLine, BlocksLine, AbsentLine}

-- ---- the lines

abbrev pub tail_line : Session → GroupTail → ReportLine
tail_line s t = TailLine s t.group t.first t.last

abbrev pub missing_line : Session → MissingRun → ReportLine
missing_line s r = BlocksLine s r.first r.last

-- what is missing of a session: its tails, and then its signature blocks
abbrev pub shortfall_lines : Shortfall → List ReportLine
shortfall_lines f = map (tail_line f.session) f.tails ++ map (missing_line f.session) f.blocks

-- a session that the log has no block of
abbrev pub absent_lines : Shortfall → List ReportLine
absent_lines f = AbsentLine f.session ∷ shortfall_lines f

-- ---- of a log

-- Each GBC below the greatest of a session, and below its counter, is that of a verified signature block, or missing,
-- and never both.
abbrev pub TellsMissing : Answers → List Counter → List BlockMessage → Session → Type 0
TellsMissing says counters bs s =
    let end = end_of_blocks (counters_of counters s) (gbcs says bs s)
    in AreMissing (IsCounted says bs s) end (missing (gbcs says bs s) end)
