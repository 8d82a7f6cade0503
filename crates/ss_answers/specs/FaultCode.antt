-- The codes of faults.
use Rattle.std.specs.Prelude.{ℕ, List, Option, None, Some, codes}
use Rattle.ss_answers.specs.declared.fault.AnswerFault.{AnswerFault}
use Rattle.ss_answers.specs.declared.fault.AnswerFault.TheVariants as answers
use Rattle.ss_answers.specs.declared.counters.fault.CounterFault.{CounterFault}
use Rattle.ss_answers.specs.declared.counters.fault.CounterFault.TheVariants as counters
use Rattle.ss_answers.specs.declared.counters.start_fault.StartFault.{StartFault}
use Rattle.ss_answers.specs.declared.counters.start_fault.StartFault.TheVariants as starts
use Rattle.ss_answers.specs.declared.places.fault.PlaceFault.{PlaceFault}
use Rattle.ss_answers.specs.declared.places.fault.PlaceFault.TheVariants as places

-- why a file of answers wasn't read
abbrev pub answer_fault_code : AnswerFault → List ℕ × Option ℕ
answer_fault_code (answers.BadLine line) = (codes "A1", Some line)
answer_fault_code answers.Read = (codes "A2", None)
answer_fault_code answers.TooBig = (codes "A3", None)
answer_fault_code answers.Memory = (codes "A4", None)

-- why a file of counters wasn't read
abbrev pub counter_fault_code : CounterFault → List ℕ × Option ℕ
counter_fault_code (counters.BadLine line) = (codes "C1", Some line)
counter_fault_code counters.Read = (codes "C2", None)
counter_fault_code counters.TooBig = (codes "C3", None)
counter_fault_code counters.NotWhole = (codes "C3", None)
counter_fault_code counters.Memory = (codes "C4", None)

-- why no originator goes on at counters
abbrev pub start_fault_code : StartFault → List ℕ × Option ℕ
start_fault_code starts.NoSession = (codes "C5", None)
start_fault_code (starts.OtherGroup counter) = (codes "C6", Some counter)
start_fault_code starts.Memory = (codes "C4", None)

-- why a file of places wasn't read
abbrev pub place_fault_code : PlaceFault → List ℕ × Option ℕ
place_fault_code (places.BadLine line) = (codes "N1", Some line)
place_fault_code places.Read = (codes "N2", None)
place_fault_code places.TooBig = (codes "N3", None)
place_fault_code places.TooMany = (codes "N3", None)
place_fault_code places.NotWhole = (codes "N3", None)
place_fault_code places.Memory = (codes "N4", None)
