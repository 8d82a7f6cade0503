-- The codes of faults.
use Rattle.std.specs.Prelude.{ℕ, List, Option, Some, None, codes}
use Rattle.ss_spelled.specs.declared.fault.SpellFault.{SpellFault}
use Rattle.ss_spelled.specs.declared.fault.SpellFault.TheVariants.{Line, Read, Write, Memory}

-- why not all lines are answered; a line counts from 1
abbrev pub spell_fault_code : SpellFault → List ℕ × Option ℕ
spell_fault_code (Line number) = (codes "G1", Some number)
spell_fault_code Read = (codes "F3", None)
spell_fault_code Write = (codes "W1", None)
spell_fault_code Memory = (codes "W2", None)
