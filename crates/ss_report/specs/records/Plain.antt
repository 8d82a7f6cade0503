-- A record as plain text: its kind and the values of its fields, with one SP between two, ended by LF.
use Rattle.std.specs.Prelude.{ℕ, List, ◌++◌, codes, decimal}
use Rattle.ss_report.specs.records.Record.{Value, Number, Word, Text}

abbrev pub plain_value : Value → List ℕ
plain_value (Number n) = decimal n
plain_value (Word word) = word
plain_value (Text text) = text

-- a value, with the SP before it
abbrev pub plain_field : List ℕ × Value → List ℕ
plain_field f = codes " " ++ plain_value f.1

abbrev pub plain_end : List ℕ
plain_end = codes "\n"
