use Rattle.ss_report.proofs.of_writing.MarksSoFar.{AreMarkedTo}
use Rattle.ss_report.proofs.texts.payload_marks.marks_of.Given as goal

abbrev pub invariant-loop-session : goal.invariant-loop-session
invariant-loop-session l = AreMarkedTo l.known l.marks.items l.sessions l.session-index
