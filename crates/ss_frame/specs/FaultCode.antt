-- The codes of faults.
use Rattle.std.specs.Prelude.{ℕ, List, Option, None, Some, codes}
use Rattle.ss_frame.specs.declared.fault.FrameFault.{FrameFault}
use Rattle.ss_frame.specs.declared.fault.FrameFault.TheVariants.{BadLength, TooLong, Read, Memory, TooManyMessages}
use Rattle.ss_frame.specs.declared.fault.FrameFault.TheVariants.{Failed, EmptyLine}
use Rattle.ss_frame.specs.declared.output.WriteFault.{WriteFault}
use Rattle.ss_frame.specs.declared.output.WriteFault.TheVariants.{Write, Empty}

-- why no further message can be read
abbrev pub frame_fault_code : FrameFault → List ℕ × Option ℕ
frame_fault_code (BadLength pos) = (codes "F1", Some pos)
frame_fault_code (TooLong pos) = (codes "F2", Some pos)
frame_fault_code Read = (codes "F3", None)
frame_fault_code Memory = (codes "F4", None)
frame_fault_code (TooManyMessages pos) = (codes "F5", Some pos)
frame_fault_code Failed = (codes "F6", None)
frame_fault_code (EmptyLine pos) = (codes "F9", Some pos)

-- why a frame wasn't written
abbrev pub write_fault_code : WriteFault → List ℕ × Option ℕ
write_fault_code Write = (codes "F7", None)
write_fault_code Empty = (codes "F8", None)
