-- The codes of faults.
use Rattle.std.specs.Prelude.{ℕ, List, Option, codes, Some, None}
use Rattle.ss_origin.specs.FaultCode.{origin_fault_code}
use Rattle.ss_report.specs.FaultCode.{run_fault_code}
use Rattle.ss_signing.specs.declared.fault.SignFault.{SignFault}
use Rattle.ss_signing.specs.declared.fault.SignFault.TheVariants.{Run, TornInput, LongWrap, Origin}

-- why nothing was planned or signed
abbrev pub sign_fault_code : SignFault → List ℕ × Option ℕ
sign_fault_code (Run fault) = run_fault_code fault
sign_fault_code (TornInput pos) = (codes "P1", Some pos)
sign_fault_code (LongWrap place) = (codes "O11", Some place)
sign_fault_code (Origin fault place) = ((origin_fault_code fault).0, place)
