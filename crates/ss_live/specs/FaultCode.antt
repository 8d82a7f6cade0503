-- The codes of faults.
use Rattle.std.specs.Prelude.{ℕ, List, Option, codes, None}
use Rattle.ss_frame.specs.declared.fault.FrameFault.{FrameFault}
use Rattle.ss_frame.specs.declared.fault.FrameFault.TheVariants as frames
use Rattle.ss_journal.specs.declared.disk.JournalError.{JournalError}
use Rattle.ss_journal.specs.declared.disk.JournalError.TheVariants as errors
use Rattle.ss_live.specs.declared.run.LiveFault.{LiveFault}
use Rattle.ss_live.specs.declared.run.LiveFault.TheVariants.{Frame, Torn, First, Journal, Write, Memory}

-- an event that couldn't be read
abbrev pub frame_name : FrameFault → List ℕ
frame_name frames.Read = codes "F3"
frame_name frames.Memory = codes "W2"
frame_name (frames.BadLength pos) = codes "J2"
frame_name (frames.TooLong pos) = codes "J2"
frame_name (frames.TooManyMessages pos) = codes "J2"
frame_name (frames.EmptyLine pos) = codes "J2"
frame_name frames.Failed = codes "J2"

-- files that can't be written any more
abbrev pub journal_name : JournalError → List ℕ
journal_name errors.Memory = codes "W2"
journal_name errors.Failed = codes "J3"
journal_name errors.Full = codes "J4"
journal_name errors.Odd = codes "J5"
journal_name errors.Refused = codes "J6"

-- why a run ended before its events did
abbrev pub live_fault_name : LiveFault → List ℕ
live_fault_name (Frame fault) = frame_name fault
live_fault_name Torn = codes "J2"
live_fault_name First = codes "J1"
live_fault_name (Journal fault) = journal_name fault
live_fault_name Write = codes "W1"
live_fault_name Memory = codes "W2"

-- none has a place
abbrev pub live_fault_code : LiveFault → List ℕ × Option ℕ
live_fault_code fault = (live_fault_name fault, None)
