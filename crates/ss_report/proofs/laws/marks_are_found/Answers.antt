use Rattle.ss_report.proofs.of_writing.MarksFound.{found, finds}
use Rattle.ss_report.proofs.laws.marks_are_found.Goals as goal

pub returns : goal.returns
returns c = λ t. (found t, finds t)
