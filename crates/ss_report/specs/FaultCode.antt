-- The codes of faults.
use Rattle.std.specs.Prelude.{ℕ, List, Option, None, Some, codes}
use Rattle.ss_frame.specs.FaultCode.{frame_fault_code}
use Rattle.ss_review.specs.FaultCode.{review_fault_code}
use Rattle.ss_report.specs.declared.runs.extraction.ExtractFault.{ExtractFault}
use Rattle.ss_report.specs.declared.runs.extraction.ExtractFault.TheVariants.{Absent, HoldsLf}
use Rattle.ss_report.specs.declared.fault.RunFault.{RunFault}
use Rattle.ss_report.specs.declared.fault.RunFault.TheVariants.{Frame, Review, Extract, Write, Memory}

-- why an extract isn't written
abbrev pub extract_fault_code : ExtractFault → List ℕ × Option ℕ
extract_fault_code (Absent place) = (codes "E1", Some place)
extract_fault_code (HoldsLf place) = (codes "E2", Some place)

-- why a run gave no output
abbrev pub run_fault_code : RunFault → List ℕ × Option ℕ
run_fault_code (Frame fault) = frame_fault_code fault
run_fault_code (Review fault) = review_fault_code fault
run_fault_code (Extract fault) = extract_fault_code fault
run_fault_code Write = (codes "W1", None)
run_fault_code Memory = (codes "W2", None)
