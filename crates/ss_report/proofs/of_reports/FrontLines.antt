-- Lines in front of a report that need no blocks.
use Rattle.std.proofs.Common.{◌≡◌, ℕ, Bool, true, false, ◌||◌, List, [], ◌++◌, map, refl}
use Rattle.ss_review.specs.declared.keep.log_blocks.LogBlock.{LogBlock}
use Rattle.ss_review.specs.declared.report.report.Report.{Report}
use Rattle.ss_report.specs.declared.lines.detail.Detail.{Detail}
use Rattle.ss_report.specs.lines.Front.{block_lines, front_lines, none_lines, sha1_lines, suspect_line}
use Rattle.ss_report.specs.strangers.Strangers.{suspects_if}
use Rattle.ss_report.specs.lines.Lines.{ReportLine}

by_flags : (blocks no_sha1 ignoring : Bool) (r : Report) (bs : List LogBlock) (others : List ReportLine) → ((blocks || no_sha1) || ignoring) ≡ false
    → block_lines blocks r.refused [] ++ sha1_lines no_sha1 r.refused [] ++ map suspect_line (suspects_if ignoring [] r) ++ others
    ≡ block_lines blocks r.refused bs ++ sha1_lines no_sha1 r.refused bs ++ map suspect_line (suspects_if ignoring bs r) ++ others
by_flags true no_sha1 ignoring r bs others none = absurd cc
by_flags false true ignoring r bs others none = absurd cc
by_flags false false true r bs others none = absurd cc
by_flags false false false r bs others none = refl

pub needs_none : (detail : Detail) (bs : List LogBlock) (r : Report) → ((detail.blocks || detail.no_sha1) || detail.ignore_strangers) ≡ false → front_lines detail [] r ≡ front_lines detail bs r
needs_none detail bs r none = by_flags detail.blocks detail.no_sha1 detail.ignore_strangers r bs (none_lines detail.some_listed r) none
