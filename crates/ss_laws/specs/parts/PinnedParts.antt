-- The report of a log by payloads that are known beforehand, against the reports of its parts by the same payloads.
use Rattle.std.specs.Prelude.{◌≡◌, ℕ, List, map, slice_index, Option}
use Rattle.std.specs.List.{range_with_len}
use Rattle.ss_review.specs.declared.report.report.Report.{Report}
use Rattle.ss_review.specs.keep.Notes.{notes}
use Rattle.ss_review.specs.keep.Contents.{Contents, blocks, contents}
use Rattle.ss_review.specs.sessions.Verified.{Answers}
use Rattle.ss_review.specs.pinned.Pinned.{blocks_by, report_by}
use Rattle.ss_laws.specs.parts.Parts.{SessionsStayWhole, AreParts, moved, messages_of, places_of, together}

-- the log without the blocks that are left out
abbrev pub contents_by : Option (List (List ℕ)) → Answers → Contents → Contents
contents_by known says log = record log { blocks = blocks_by known says log.blocks }

-- the report of a part, with the places in the whole
abbrev pub report_of_part_by : Option (List (List ℕ)) → Answers → (ℕ → ℕ) → ℕ → List (List ℕ) → Report
report_of_part_by known says part k log =
    moved (slice_index (places_of part k log)) (report_by known says (contents (notes (messages_of part k log))))

-- The report of a log is the reports of its parts put together. All blocks of a session belong to one part, and with the
-- verified ones among those that aren't left out the messages that they announce.
abbrev pub ReportsByPayloadsAddUp : Type 0
ReportsByPayloadsAddUp =
    (known : Option (List (List ℕ))) (says : Answers) (log : List (List ℕ)) (part : ℕ → ℕ) (parts : ℕ)
    → SessionsStayWhole part (blocks (notes log))
    → AreParts says (contents_by known says (contents (notes log))) part parts
    → report_by known says (contents (notes log))
    ≡ together (map (λ k. report_of_part_by known says part k log) (range_with_len 0 parts))
