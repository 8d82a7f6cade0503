-- The last lines of an inspection.
use Rattle.std.specs.Prelude.{ℕ, List, [], ◌++◌, codes, flat_map}
use Rattle.ss_frame.specs.declared.step.Tail.{Tail}
use Rattle.ss_frame.specs.declared.step.Tail.TheVariants as tails
use Rattle.ss_report.specs.records.Fields.{stretch_fields}
use Rattle.ss_report.specs.records.Record.{Number, field}
use Rattle.ss_report.specs.records.Written.{written}
use Rattle.ss_report.specs.declared.log.ending.Damage.{Damage}
use Rattle.ss_report.specs.declared.log.ending.Ending.{Ending}
use Rattle.ss_report.specs.declared.notation.Notation.{Notation}

-- a line with one number
abbrev pub number_as : Notation → (kind key : List ℕ) → ℕ → List ℕ
number_as notation kind key n = written notation (record { kind = kind; fields = field key (Number n) })

-- damaged PLACE OFFSET LENGTH
abbrev pub damaged_line : Notation → Damage → List ℕ
damaged_line notation d =
    written notation (record { kind = codes "damaged"; fields = stretch_fields d.place d.offset d.length })

-- torn POS, where the log has a torn end
abbrev pub torn_line : Notation → Tail → List ℕ
torn_line notation tails.Clean = []
torn_line notation (tails.Torn pos) = number_as notation (codes "torn") (codes "offset") pos

-- what is damaged, the torn end, and end COUNT
abbrev pub end_lines : Notation → Ending → ℕ → List ℕ
end_lines notation ending count =
    flat_map (damaged_line notation) ending.damaged ++ torn_line notation ending.tail
    ++ number_as notation (codes "end") (codes "count") count
