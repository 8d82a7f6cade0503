-- The codes of faults.
use Rattle.std.specs.Prelude.{ℕ, List, Option, None, codes}
use Rattle.ss_review.specs.declared.fault.ReviewFault.{ReviewFault}
use Rattle.ss_review.specs.declared.fault.ReviewFault.TheVariants.{Memory, TooManyMessages}

-- why a reviewer gives no answer
abbrev pub review_fault_code : ReviewFault → List ℕ × Option ℕ
review_fault_code Memory = (codes "V1", None)
review_fault_code TooManyMessages = (codes "V2", None)
