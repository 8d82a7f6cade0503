use Rattle.std.proofs.Common.{◌+◌, ◌<◌, ℕ}
use Rattle.std.specs.Prelude.{slice_index_or}
use Rattle.ss_payload.specs.declared.joiner.slot.Slot.TheVariants.{Empty}
use Rattle.ss_payload.specs.Slots.{IsOne}
use Rattle.ss_payload.specs.RunSlots.{IsPushed}
use Rattle.ss_payload.proofs.joiner.runs.push.Given as goal

abbrev pub invariant-loop-j : goal.invariant-loop-j
invariant-loop-j l = ((j : ℕ) → j < l.count → IsOne (slice_index_or l.run (l.at + j) Empty)) → IsPushed l.initial.text.items l.text.items l.run l.at l.j
