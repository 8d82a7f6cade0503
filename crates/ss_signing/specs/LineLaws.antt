-- What holds of a signed log that is written as lines.
use Rattle.std.specs.Prelude.{◌≡◌, ℕ, ◌<◌, ◌≤◌, Bool, List, length, Option}
use Rattle.std.specs.List.{AllByRecursion}
use Rattle.ss_message.specs.Stamp.{Moment}
use Rattle.ss_frame.specs.declared.limits.Form.TheVariants.{Lines}
use Rattle.ss_frame.specs.End.{Clean}
use Rattle.ss_frame.specs.Frame.{HasNoLf, lines}
use Rattle.ss_frame.specs.Limits.{Allowance}
use Rattle.ss_frame.specs.Stream.{reads}
use Rattle.ss_frame.specs.Watched.{Source}
use Rattle.ss_origin.specs.Counting.{Start}
use Rattle.ss_origin.specs.Sealing.{Answers}
use Rattle.ss_origin.specs.Setting.{Setting}
use Rattle.ss_signing.specs.Jobs.{signing_from}
use Rattle.ss_signing.specs.Run.{Sends}

-- no message that is emitted holds LF: those of the log, their wraps, and the block messages
abbrev pub LinesHoldNoLf : {J : Type 0} → (J → Answers) → Type 0
LinesHoldNoLf {J} answers = (sealer : J) (start : Start) (s : Setting) (stamp : Option Moment) (wraps : Bool)
    (limits : Allowance) (before after : Source) (emitted : List (List ℕ))
    → Sends (signing_from start s (answers sealer) stamp wraps Lines) limits before after emitted
    → AllByRecursion HasNoLf emitted

-- a message has an octet, and no more than the limit
pub record FitsLimit (limits : Allowance) (message : List ℕ) : Type 0 where
  pub some_octet : 0 < length message
  pub not_too_long : length message ≤ limits.max_len

-- So whoever reads the lines, under limits that allow their lengths and their number, reads exactly these messages.
abbrev pub LinesAreRead : {J : Type 0} → (J → Answers) → Type 0
LinesAreRead {J} answers = (sealer : J) (start : Start) (s : Setting) (stamp : Option Moment) (wraps : Bool)
    (limits wide : Allowance) (before after : Source) (emitted : List (List ℕ))
    → Sends (signing_from start s (answers sealer) stamp wraps Lines) limits before after emitted
    → wide.form ≡ Lines → AllByRecursion (FitsLimit wide) emitted → length emitted ≤ wide.max_messages
    → reads wide (lines emitted) emitted Clean
