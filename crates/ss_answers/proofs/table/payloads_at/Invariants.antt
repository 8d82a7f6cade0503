-- The payloads so far, and those of the lines that are left.
use Rattle.std.proofs.Common.{◌≡◌, ◌++◌, length}
use Rattle.ss_answers.specs.Answers.{payloads_of}
use Rattle.ss_answers.specs.AnswerLine.{IsInOrder, answers_at}
use Rattle.ss_answers.proofs.table.payloads_at.Given as goal

abbrev pub invariant-loop-first : goal.invariant-loop-first
invariant-loop-first l = record {
  order : IsInOrder l.octets l.rest;
  so_far : l.payloads.items ++ payloads_of (answers_at l.octets l.rest) ≡ payloads_of (answers_at l.octets l.places);
}

abbrev pub decreases-loop-first : goal.decreases-loop-first
decreases-loop-first l = length l.rest
