-- What a fact means for the octets of a message.
use Rattle.std.specs.Prelude.{◌↔◌, ℕ, IsTrue, List}
use Rattle.ss_block.specs.Mark.{HoldsMark}
use Rattle.ss_report.specs.texts.Facts.{holds_mark}

-- a line is marked exactly where `[ssign` stands in its message
abbrev pub MarksAreFound : Type 0
MarksAreFound = (t : List ℕ) → IsTrue (holds_mark t) ↔ HoldsMark t
