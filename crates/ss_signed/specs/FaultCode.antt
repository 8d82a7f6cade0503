-- The codes of faults.
use Rattle.std.specs.Prelude.{ℕ, List, Option, Some, None, codes}
use Rattle.ss_signed.specs.declared.fault.DescribeFault.{DescribeFault}
use Rattle.ss_signed.specs.declared.fault.DescribeFault.TheVariants.{Line, Read, Write, Memory}

-- why not all lines are answered; a line counts from 1
abbrev pub describe_fault_code : DescribeFault → List ℕ × Option ℕ
describe_fault_code (Line number) = (codes "D1", Some number)
describe_fault_code Read = (codes "F3", None)
describe_fault_code Write = (codes "W1", None)
describe_fault_code Memory = (codes "W2", None)
