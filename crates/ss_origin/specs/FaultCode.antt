-- The codes of faults.
use Rattle.std.specs.Prelude.{ℕ, List, Option, None, codes}
use Rattle.ss_origin.specs.declared.fault.OriginFault.{OriginFault}
use Rattle.ss_origin.specs.declared.fault.OriginFault.TheVariants as faults

-- why an originator isn't made, or refuses a call
abbrev pub origin_fault_code : OriginFault → List ℕ × Option ℕ
origin_fault_code faults.BadConfig = (codes "O1", None)
origin_fault_code faults.NotSyslog = (codes "O2", None)
origin_fault_code faults.HasBlock = (codes "O3", None)
origin_fault_code faults.NotBegun = (codes "O4", None)
origin_fault_code faults.AlreadyBegun = (codes "O5", None)
origin_fault_code faults.SealRefused = (codes "O6", None)
origin_fault_code faults.SignatureLength = (codes "O7", None)
origin_fault_code faults.NumbersSpent = (codes "O8", None)
origin_fault_code faults.CounterSpent = (codes "O9", None)
origin_fault_code faults.Memory = (codes "O10", None)
