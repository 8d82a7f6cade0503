use Rattle.std.proofs.Common.{◌≡◌, ◌++◌}
use Rattle.std.specs.Prelude.{replicate}
use Rattle.ss_origin.proofs.sealing.push_copies.Given as goal

abbrev pub invariant-loop-copy : goal.invariant-loop-copy
invariant-loop-copy l = l.messages.items ≡ l.initial.messages.items ++ replicate l._copy l.fn.message
