-- The runs so far, and those of the rest, are all.
use Rattle.std.proofs.Common.{◌≡◌, ◌++◌, drop}
use Rattle.ss_review.proofs.of_counters.MissingRuns.{missing_after}
use Rattle.ss_review.proofs.counted.missing.missing_runs.Given as goal

abbrev pub invariant-loop-gbc : goal.invariant-loop-gbc
invariant-loop-gbc l = l.runs.items ++ missing_after l.next l.first (drop l.gbc-index l.gbcs) ≡ missing_after l.next 0 l.gbcs
